-- A text among the cases of a switch.
use Rattle.std.proofs.Common.{◌≡◌, ℕ, Bool, true, false, List, ◌++◌, refl}
use Rattle.std.specs.Prelude.{◌||◌}
use Rattle.std.specs.List.{list_any}
use Rattle.ng_blocks.specs.Switching.{matches}
use Rattle.ng_drawing.specs.Cases.{Case, case_in}
use Rattle.ng_drawing.specs.Template.{Filling, body_if, on_case, for_each, by_name}

pub any_case : (value : List ℕ) (f : Filling) (cs : List Case) → list_any (matches value) (case_in f ++ cs) ≡ (list_any (matches value) (case_in f) || list_any (matches value) cs)
any_case value (body_if b) cs = refl
any_case value (for_each r b) cs = refl
any_case value (by_name b) cs = refl
any_case value (on_case c b) cs = by_test (matches value c)
  where
    by_test : (t : Bool) → (t || list_any (matches value) cs) ≡ ((t || false) || list_any (matches value) cs)
    by_test true = refl
    by_test false = refl
