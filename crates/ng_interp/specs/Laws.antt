-- What the cuts of a text say of it.
use Rattle.std.specs.Prelude.{◌≡◌, ℕ, List}
use Rattle.std.specs.List.{flat_map}
use Rattle.ng_interp.specs.Cutting.{cuts_of, written}

-- the cuts in order, each as it was written, are the text
abbrev pub CutsSpellText : Type 0
CutsSpellText = (t : List ℕ) → flat_map written (cuts_of t) ≡ t
