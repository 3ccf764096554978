-- Which bodies stay, which go, and which come (API: ngIf, ngSwitch, ngInclude).
use Rattle.std.specs.Prelude.{ℕ, ◌&&◌, not, ◌++◌, Bool, true, false, List, [], ◌∷◌, Some}
use Rattle.ng_core.specs.State as act
use Rattle.ng_core.specs.State.{with_objects}
use Rattle.ng_base.specs.Views.{ViewTree}
use Rattle.ng_behaviour.specs.Scopes.{object_at}
use Rattle.ng_drawing.specs.Cases.{Case, case_in, calls_for}
use Rattle.ng_drawing.specs.Looks.{is_kept_true}
use Rattle.ng_drawing.specs.Template.{Filling, body_if, on_case, for_each, by_name}
use Rattle.ng_instances.specs.Due.{Due}
use Rattle.ng_instances.specs.Instances.{Body}
use Rattle.ng_members.specs.Leaves.{Local}
use Rattle.ng_write.specs.Storing.{with_names}

-- names of a scope are set, whatever they are
abbrev pub told_on : ℕ → List Local → act.State → act.State
told_on scope names c = with_objects (with_names c.objects (object_at c.scopes scope) names) c

abbrev pub has_bodies : List Body → Bool
has_bodies [] = false
has_bodies (b ∷ bs) = true

-- The bodies that stand go at a value: that of `ng-if` where it is not called for, those of a switch and that of an inclusion anyhow. The rows
-- of a repeat go by their keys.
abbrev pub goes : Filling → ViewTree → Bool
goes (body_if body) v = not (is_kept_true (Some v))
goes (on_case c body) v = true
goes (for_each r body) v = false
goes (by_name body) v = true

-- whether a body stays in an outlet at a value
abbrev pub stays : ViewTree → Due → Bool
stays v d = has_bodies d.bodies && not (goes d.filling v)

-- the cases of a switch whose outlets are these
abbrev pub cases_due : List Due → List Case
cases_due [] = []
cases_due (d ∷ ds) = case_in d.filling ++ cases_due ds

-- the number of the body of an outlet
abbrev pub body_of : Filling → ℕ
body_of (body_if body) = body
body_of (on_case c body) = body
body_of (for_each r body) = body
body_of (by_name body) = body

-- whether a body is to be made in an outlet, beside these cases
abbrev pub comes : List Case → ViewTree → Due → Bool
comes cases v d = calls_for cases d.filling (Some v) && not (stays v d)
