-- What each step of a repeat's fire keeps, the fire keeps.
use Rattle.std.proofs.Common.{ℕ, suc, Bool, true, false, cond, List, [], ◌∷◌, length, Option, None, Some, Result, Ok, Err}
use Rattle.std.specs.Prelude.{◌&&◌, not}
use Rattle.ng_base.specs.Views.{ViewTree}
use Rattle.ng_base.specs.declared.fault.Fault.{Fault}
use Rattle.ng_base.specs.declared.fault.Fault.TheVariants.{NoTemplate}
use Rattle.ng_behaviour.specs.Scopes.{object_at}
use Rattle.ng_blocks.specs.Plans.{planned}
use Rattle.ng_blocks.specs.declared.keys.TrackKey.{TrackKey}
use Rattle.ng_blocks.specs.declared.plans.Plan.{Plan}
use Rattle.ng_drawing.specs.Cases.{Case}
use Rattle.ng_drawing.specs.Origins.{plain_origin}
use Rattle.ng_drawing.specs.Roles.{Entry, a_body, a_named, entries_in}
use Rattle.ng_drawing.specs.Template.{Filling, body_if, on_case, for_each, by_name, Repeated}
use Rattle.ng_drawing.specs.declared.origin.Origin.{Origin}
use Rattle.ng_rows.specs.Chosen.{told_on, body_of, comes}
use Rattle.ng_fire.specs.Blocks.{Firing, ended, faulted_with, filled}
use Rattle.ng_rows.specs.RepeatRows.{items_made, keys_of, Row, rows_from, role_for, kept_rows, row_names, as_fault}
use Rattle.ng_fire.specs.Repeats.{bodies_at, all_ended, rows_taken, with_state, rows_gone, rows_arranged, Filled, filled_to, row_fired, rows_fired, rows_changed, by_plan, by_keys, rows_at, by_items, repeat_fired}
use Rattle.ng_fire.specs.SiteFires.{body_filled, including_origin, template_filled, filled_by, outlet_filled, outlets_filled}
use Rattle.ng_rows.specs.Tracking.{Item, track_keys}
use Rattle.ng_language.specs.Texts.{text_of}
use Rattle.ng_instances.specs.Changing.{Place, in_outlet}
use Rattle.ng_link.specs.Calls.{with_core, unlinked_at, arranged_at}
use Rattle.ng_instances.specs.Due.{Due}
use Rattle.ng_link.specs.Events.{scope_in}
use Rattle.ng_instances.specs.Instances.{Body, linked_at}
use Rattle.ng_members.specs.Leaves.{Local}
use Rattle.ng_compose.specs.Kept.{named_from}

module _ (P : Firing → Type 0)
    (told : (scope : ℕ) (names : List Local) (g : Firing) → P g → P (with_state (with_core (told_on scope names g.state.core) g.state) g))
    (refused : (e : Fault) (g : Firing) → P g → P (faulted_with e g))
    (made : (es : List Entry) (g : Firing) → P g → P (with_state (with_core (items_made es [] g.state.core).0 g.state) g))
    (ends : (p : List ℕ) (g : Firing) → P g → P (ended p g))
    (goes : (holder p : List ℕ) (g : Firing) → P g → P (with_state (unlinked_at holder p g.state) g))
    (arranges : (holder : List ℕ) (o : ℕ) (bs : List Body) (g : Firing) → P g → P (with_state (arranged_at holder o bs g.state) g))
    (fills : (place : Place) (scope : ℕ) (outs : List ℕ) (names : List Local) (which : Origin) (g : Firing) → P g → P (filled place scope outs names which g)) where
  all_end : (bs : List Body) (g : Firing) → P g → P (all_ended bs g)
  all_end [] g h = h
  all_end (b ∷ bs) g h = all_end bs (ended b.path g) (ends b.path g h)

  all_go : (holder : List ℕ) (bs : List Body) (g : Firing) → P g → P (with_state (rows_taken holder bs g.state) g)
  all_go holder [] g h = h
  all_go holder (b ∷ bs) g h = goes holder b.path (with_state (rows_taken holder bs g.state) g) (all_go holder bs g h)

  row_comes : (holder : List ℕ) (scope : ℕ) (outs : List ℕ) (o : ℕ) (which : Origin) (r : Row) (names : List Local) (from : Option (List ℕ)) (f : Filled) → P f.firing → P (row_fired holder scope outs o which r names from f).firing
  row_comes holder scope outs o which r names (Some p) f h = told (scope_in (linked_at p f.firing.state.instances)) names f.firing h
  row_comes holder scope outs o which r names None f h = by_fault f.firing.faulted
    where
      full : Firing
      full = filled (in_outlet holder o f.count (role_for r)) scope outs names which f.firing

      by_fault : (b : Bool) → (let a : Filled = cond b f (record { firing = full; count = cond full.faulted f.count (suc f.count) }) in P a.firing)
      by_fault true = h
      by_fault false = fills (in_outlet holder o f.count (role_for r)) scope outs names which f.firing h

  rows_come : (holder : List ℕ) (scope : ℕ) (outs : List ℕ) (o : ℕ) (which : Origin) (w : Repeated) (count i : ℕ) (rs : List Row) (f : Filled) → P f.firing → P (rows_fired holder scope outs o which w count i rs f).firing
  rows_come holder scope outs o which w count i [] f h = h
  rows_come holder scope outs o which w count i (r ∷ rs) f h =
      rows_come holder scope outs o which w count (suc i) rs (row_fired holder scope outs o which r (row_names w count i r.item) r.from f) (row_comes holder scope outs o which r (row_names w count i r.item) r.from f h)

  rows_change : (holder : List ℕ) (scope : ℕ) (outs : List ℕ) (o : ℕ) (which : Origin) (w : Repeated) (bs : List Body) (rs : List Row) (g : Firing) → P g → P (rows_changed holder scope outs o which w bs rs g)
  rows_change holder scope outs o which w bs rs g h =
      let gone : Firing = rows_gone holder bs g in
      rows_come holder scope outs o which w (length rs) 0 rs (filled_to 0 (rows_arranged holder o (kept_rows rs) gone))
      (arranges holder o (kept_rows rs) gone (all_go holder bs (all_ended bs g) (all_end bs g h)))

  planned_go : (holder : List ℕ) (scope : ℕ) (outs : List ℕ) (o : ℕ) (which : Origin) (w : Repeated) (bs : List Body) (xs : List Item) (ks : List TrackKey) (p : Result Plan Fault) (g : Firing) → P g
      → P (by_plan holder scope outs o which w bs xs ks p g)
  planned_go holder scope outs o which w bs xs ks (Err e) g h = refused e g h
  planned_go holder scope outs o which w bs xs ks (Ok p) g h = rows_change holder scope outs o which w (bodies_at bs p.gone) (rows_from bs xs ks p.from) g h

  tracked_go : (holder : List ℕ) (scope : ℕ) (outs : List ℕ) (o : ℕ) (which : Origin) (w : Repeated) (bs : List Body) (xs : List Item) (r : Result (List TrackKey) Fault) (g : Firing) → P g
      → P (by_keys holder scope outs o which w bs xs r g)
  tracked_go holder scope outs o which w bs xs (Err e) g h = refused e g h
  tracked_go holder scope outs o which w bs xs (Ok ks) g h = planned_go holder scope outs o which w bs xs ks (as_fault (planned (keys_of bs) ks)) g h

  items_go : (holder : List ℕ) (scope : ℕ) (outs : List ℕ) (o : ℕ) (which : Origin) (w : Repeated) (r : Result (List Item) Fault) (g : Firing) → P g → P (by_items holder scope outs o which w r g)
  items_go holder scope outs o which w (Err e) g h = refused e g h
  items_go holder scope outs o which w (Ok xs) g h =
      tracked_go holder scope outs o which w (rows_at holder o g.state.instances) xs (track_keys g.state.core.objects (object_at g.state.core.scopes scope) w 0 [] xs) g h

  pub repeat_keeps : (holder : List ℕ) (scope : ℕ) (outs : List ℕ) (v : ViewTree) (o : ℕ) (which : Origin) (w : Repeated) (g : Firing) → P g → P (repeat_fired holder scope outs v o which w g)
  repeat_keeps holder scope outs v o which w g h =
      let r = items_made (entries_in v) [] g.state.core in
      items_go holder scope outs o which w r.1 (with_state (with_core r.0 g.state) g) (made (entries_in v) g h)

-- and so does the fire of an outlet, where the making of a body does
module _ (P : Firing → Type 0)
    (told : (scope : ℕ) (names : List Local) (g : Firing) → P g → P (with_state (with_core (told_on scope names g.state.core) g.state) g))
    (refused : (e : Fault) (g : Firing) → P g → P (faulted_with e g))
    (made : (es : List Entry) (g : Firing) → P g → P (with_state (with_core (items_made es [] g.state.core).0 g.state) g))
    (ends : (p : List ℕ) (g : Firing) → P g → P (ended p g))
    (goes : (holder p : List ℕ) (g : Firing) → P g → P (with_state (unlinked_at holder p g.state) g))
    (arranges : (holder : List ℕ) (o : ℕ) (bs : List Body) (g : Firing) → P g → P (with_state (arranged_at holder o bs g.state) g))
    (fills : (place : Place) (scope : ℕ) (outs : List ℕ) (names : List Local) (which : Origin) (g : Firing) → P g → P (filled place scope outs names which g)) where
  body_keeps : (holder : List ℕ) (cases : List Case) (v : ViewTree) (d : Due) (g : Firing) → P g → P (body_filled holder cases v d g)
  body_keeps holder cases v d g h = by_call (comes cases v d && not g.faulted)
    where
      by_call : (b : Bool) → P (cond b (filled (in_outlet holder d.outlet 0 a_body) d.scope d.outsides [] (plain_origin d.home (body_of d.filling)) g) g)
      by_call true = fills (in_outlet holder d.outlet 0 a_body) d.scope d.outsides [] (plain_origin d.home (body_of d.filling)) g h
      by_call false = h

  by_keeps : (holder : List ℕ) (cases : List Case) (v : ViewTree) (d : Due) (x : Filling) (g : Firing) → P g → P (filled_by holder cases v d x g)
  by_keeps holder cases v d (body_if b) g h = body_keeps holder cases v d g h
  by_keeps holder cases v d (on_case c b) g h = body_keeps holder cases v d g h
  by_keeps holder cases v d (for_each r b) g h = by_fault g.faulted
    where
      by_fault : (f : Bool) → P (cond f g (repeat_fired holder d.scope d.outsides v d.outlet (plain_origin d.home b) r g))
      by_fault true = h
      by_fault false = repeat_keeps P told refused made ends goes arranges fills holder d.scope d.outsides v d.outlet (plain_origin d.home b) r g h
  by_keeps holder cases v d (by_name b) g h = by_call (comes cases v d && not g.faulted)
    where
      by_template : (o : Option ℕ) → P (template_filled holder d b (text_of v) o g)
      by_template None = refused NoTemplate g h
      by_template (Some t) = fills (in_outlet holder d.outlet 0 (a_named (text_of v))) d.scope d.outsides [] (including_origin d.home b t) g h

      by_call : (c : Bool) → P (cond c (template_filled holder d b (text_of v) (named_from 0 (text_of v) g.state.templates) g) g)
      by_call true = by_template (named_from 0 (text_of v) g.state.templates)
      by_call false = h

  pub outlets_keep : (holder : List ℕ) (cases : List Case) (v : ViewTree) (ds : List Due) (g : Firing) → P g → P (outlets_filled holder cases v ds g)
  outlets_keep holder cases v [] g h = h
  outlets_keep holder cases v (d ∷ ds) g h = outlets_keep holder cases v ds (outlet_filled holder cases v d g) (by_keeps holder cases v d d.filling g h)
