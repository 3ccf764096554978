-- Whole numbers: those of the language go from -(2^53 - 1) to 2^53 - 1.
use Rattle.std.specs.Prelude.{ℕ, ℤ, pos, negsuc, Bool, nat_le}

abbrev pub is_in_range : ℤ → Bool
is_in_range (pos n) = nat_le n 9007199254740991
is_in_range (negsuc n) = nat_le n 9007199254740990
