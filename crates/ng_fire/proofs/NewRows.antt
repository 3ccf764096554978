-- A row that is made.
use Rattle.std.proofs.Common.{◌≡◌, ◌∙◌, ℕ, Bool, true, false, cond, List, Option, None, Some, refl, ap}
use Rattle.std.specs.Prelude.{Ok, unwrap_or}
use Rattle.ng_base.specs.declared.fault.Fault.{Fault}
use Rattle.ng_base.specs.declared.fault.Fault.TheVariants.{Depth}
use Rattle.ng_core.specs.State as act
use Rattle.ng_core.specs.State.{Run}
use Rattle.ng_drawing.specs.Origins.{is_too_deep}
use Rattle.ng_drawing.specs.Template.{Fragment, no_fragment}
use Rattle.ng_drawing.specs.declared.origin.Origin.{Origin}
use Rattle.ng_changes.specs.ChildRun.{child_run}
use Rattle.ng_rows.specs.Chosen.{told_on}
use Rattle.ng_fire.specs.Blocks.{Firing, body_linked, body_made, body_on, filled, linked_then}
use Rattle.ng_steps.specs.Links.{Linking, begins_linking, link_at}
use Rattle.ng_instances.specs.Changing.{Place}
use Rattle.ng_link.specs.Calls.{with_core}
use Rattle.ng_link.specs.State.{State}
use Rattle.ng_members.specs.Leaves.{Local}
use Rattle.ng_drawing.specs.Named.{fragment_for, fragments_in}

-- what a linking leaves is the same, whatever state it began with
then_same : (scope : ℕ) (e : Option Fault) (l : Linking) (s t : State) (f a : Bool)
    → (let g : Firing = record { state = s; faulted = f; added = a } in let h : Firing = record { state = t; faulted = f; added = a } in linked_then scope e l g ≡ linked_then scope e l h)
then_same scope None l s t f a = refl
then_same scope (Some e) l s t f a = refl

pub body_same : (place : Place) (which : Origin) (f : Fragment) (child : ℕ) (os : List ℕ) (u s t : State) (b a : Bool)
    → (let g : Firing = record { state = s; faulted = b; added = a } in let h : Firing = record { state = t; faulted = b; added = a } in body_on place which f child os u g ≡ body_on place which f child os u h)
body_same place which f child os u s t b a = by (is_too_deep which)
  where
    with_state : State → Firing
    with_state x = record { state = x; faulted = b; added = a }

    on_depth : Bool → State → Firing
    on_depth d x = cond d (linked_then child (Some Depth) (begins_linking child os u) (with_state x)) (body_linked place which f child os u (with_state x))

    by : (d : Bool) → on_depth d s ≡ on_depth d t
    by true = then_same child (Some Depth) (begins_linking child os u) s t b a
    by false = then_same child (link_at place which child os f u).fault (link_at place which child os f u) s t b a

-- a body is made on a child scope that there is
pub filled_on : (place : Place) (scope : ℕ) (os : List ℕ) (names : List Local) (which : Origin) (g : Firing) (c : act.State) (child : ℕ) (f : Fragment)
    → child_run scope g.state.core ≡ (c, Ok child) → fragment_for g.state.templates which ≡ Some f
    → filled place scope os names which g ≡ body_on place which f child os (with_core (told_on child names c) g.state) g
filled_on place scope os names which g c child f made is =
    ap (λ (r : Run ℕ). body_made place os names which (fragments_in g.state.templates which) r.0 r.1 g) made
    ∙ ap (λ (x : Option Fragment). body_on place which (unwrap_or x no_fragment) child os (with_core (told_on child names c) g.state) g) is
