-- How much is left to read.
use Rattle.std.proofs.Common.{ℕ, ◌+◌, List, length, Option, None, Some}

abbrev pub size_of : Option (List ℕ) → ℕ
size_of None = 0
size_of (Some cs) = length cs + 1
