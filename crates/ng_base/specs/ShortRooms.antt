-- The room of a short text.
use Rattle.std.specs.Prelude.{ℕ, ◌≡◌, ◌-◌, true, List, take, drop, replicate}
use Rattle.std.specs.Str.{is_utf8}

-- the bytes of a text, so many of them, stand at the front of a room of 14, and only 0 after them
pub record HoldsText (len : ℕ) (bytes : List ℕ) : Type 0 where
  pub spelled : is_utf8 (take len bytes) ≡ true
  pub rest : drop len bytes ≡ replicate (14 - len) 0
