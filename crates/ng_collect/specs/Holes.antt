-- Values of attributes that have a hole (guide: Interpolation).
use Rattle.std.specs.Prelude.{ℕ, Bool, true, false, List}
use Rattle.std.specs.List.{list_any}
use Rattle.ng_interp.specs.Cutting.{cuts_of}
use Rattle.ng_interp.specs.declared.cutting.Cut.{Cut}
use Rattle.ng_interp.specs.declared.cutting.Cut.TheVariants.{Words, Hole}

abbrev pub is_hole : Cut → Bool
is_hole (Words t) = false
is_hole (Hole place t) = true

-- a text of which a cut is a hole
abbrev pub has_hole : List ℕ → Bool
has_hole t = list_any is_hole (cuts_of t)
