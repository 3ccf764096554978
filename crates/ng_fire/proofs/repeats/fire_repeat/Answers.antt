use Rattle.std.proofs.Common.{rules, ◌≡◌, ◌∙◌, ℕ, false, List, [], ap, length, subst, sym, arith, map}
use Rattle.std.specs.Prelude.{Ok, Err}
use Rattle.ng_base.specs.declared.name.ScopeId.{ScopeId}
use Rattle.ng_base.specs.Faults.{is_memory}
use Rattle.ng_base.specs.ViewOf.{view_of}
use Rattle.ng_core.specs.Frames as cores
use Rattle.ng_core.specs.State as act
use Rattle.ng_core.specs.State.{Run}
use Rattle.ng_drawing.specs.Roles.{Entry, entries_in}
use Rattle.ng_drawing.specs.RolesOf.{entries_of}
use Rattle.ng_drawing.specs.Template.{Repeated}
use Rattle.ng_changes.proofs.Answered.{ok_then}
use Rattle.ng_fire.proofs.MadeItems.{entries_stand, items_rise}
use Rattle.ng_fire.proofs.RowsTaken.{keeps_same}
use Rattle.ng_changes.proofs.Wholes.{whole_left}
use Rattle.ng_fire.specs.Blocks.{Firing}
use Rattle.ng_fire.specs.FireOf.{firing}
use Rattle.ng_rows.specs.RepeatRows.{items_made}
use Rattle.ng_fire.specs.Repeats.{by_items, with_state}
use Rattle.ng_rows.specs.Tracking.{Item}
use Rattle.ng_rows.specs.TrackingOf.{EntriesStand, items_of}
use Rattle.ng_link.specs.Calls.{with_core}
use Rattle.ng_link.specs.State.{state_of}
use Rattle.ng_parts.specs.RepeatedOf.{repeated_of}
use Rattle.ng_fire.proofs.repeats.fire_repeat.Goals as goal

pub make_items-made-requires-clause-entries : goal.make_items-made-requires-clause-entries
make_items-made-requires-clause-entries c =
    let n = length c.args.works.now.core.store in
    let v = view_of c.args.value.now in
    subst (λ (es : List Entry). EntriesStand n es) (sym c.in_ok-entries.ensures) (entries_stand n v c.requires.value)

pub fault-requires : goal.fault-requires
fault-requires c =
    let w = c.args.works.now in
    let core = c.make_items-made.new.core in
    let es = entries_of c.in_ok-entries.entries.items in
    let s = cores.state_of w.core in
    let r : Run (List Item) = items_made es [] s in
    let other : is_memory c.in-Err.f ≡ false = first_of (search rules, grind arith) in
    record {
      whole = whole_left w core r.0 c.requires.whole (sym (ap (λ (x : Run (List Item)). x.0) (c.in-Err.ensures.run other))) (items_rise es [] s)
          c.make_items-made.ensures.sound (c.make_items-made.ensures.depth ∙ c.requires.whole.idle) c.make_items-made.ensures.grown;
    }

pub fire_items-requires-clause-whole : goal.fire_items-requires-clause-whole
fire_items-requires-clause-whole c =
    let w = c.args.works.now in
    let core = c.make_items-made.new.core in
    let es = entries_of c.in_ok-entries.entries.items in
    let s = cores.state_of w.core in
    let r : Run (List Item) = items_made es [] s in
    whole_left w core r.0 c.requires.whole (sym (ap (λ (x : Run (List Item)). x.0) c.in-Ok.ensures.run)) (items_rise es [] s)
    c.make_items-made.ensures.sound (c.make_items-made.ensures.depth ∙ c.requires.whole.idle) c.make_items-made.ensures.grown

pub returns-in-Err-clause-fired : goal.returns-in-Err-clause-fired
returns-in-Err-clause-fired c =
    let w = c.args.works.now in
    let spot = c.args.spot.now in
    let holder : List ℕ = spot.holder.now in
    let scope : ℕ = spot.scope.0 in
    let outs : List ℕ = map (λ (n : ScopeId). n.0) spot.outsides.now in
    let r : Repeated = repeated_of c.args.repeated.now in
    let g : Firing = firing w c.args.told.now in
    let s : act.State = (state_of w).core in
    let other : is_memory c.in-Err.f ≡ false = first_of (search rules, grind arith) in
    let made : items_made (entries_in (view_of c.args.value.now)) [] s ≡ (cores.state_of c.make_items-made.new.core, Err c.in-Err.f) =
    ap (λ (es : List Entry). items_made es [] s) (sym c.in_ok-entries.ensures) ∙ c.in-Err.ensures.run other in
    c.fault.ensures.fired
    ∙ sym (ap (λ (x : Run (List Item)). by_items holder scope outs spot.outlet spot.origin r x.1 (with_state (with_core x.0 g.state) g)) made)

pub returns-in-Ok-clause-fired : goal.returns-in-Ok-clause-fired
returns-in-Ok-clause-fired c =
    let w = c.args.works.now in
    let spot = c.args.spot.now in
    let holder : List ℕ = spot.holder.now in
    let scope : ℕ = spot.scope.0 in
    let outs : List ℕ = map (λ (n : ScopeId). n.0) spot.outsides.now in
    let r : Repeated = repeated_of c.args.repeated.now in
    let g : Firing = firing w c.args.told.now in
    let s : act.State = (state_of w).core in
    let made : items_made (entries_in (view_of c.args.value.now)) [] s ≡ (cores.state_of c.make_items-made.new.core, Ok (items_of c.in-Ok.items.items)) =
    ap (λ (es : List Entry). items_made es [] s) (sym c.in_ok-entries.ensures) ∙ c.in-Ok.ensures.run in
    ok_then c.fire_items.result c.fire_items.ensures.fired
    (λ fired. fired
    ∙ sym (ap (λ (x : Run (List Item)). by_items holder scope outs spot.outlet spot.origin r x.1 (with_state (with_core x.0 g.state) g)) made))

pub returns-in-Err-clause-keeps : goal.returns-in-Err-clause-keeps
returns-in-Err-clause-keeps c =
    keeps_same c.args.spot.now.holder.now (state_of c.args.works.now).instances (state_of c.fault.new.works).instances (ap (λ (g : Firing). g.state.instances) c.fault.ensures.fired)
