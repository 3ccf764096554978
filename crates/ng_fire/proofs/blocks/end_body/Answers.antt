use Rattle.std.proofs.Common.{◌≡◌, ◌<◌, ◌∙◌, ℕ, Bool, ap, length, subst, sym}
use Rattle.std.specs.Prelude.{◌||◌}
use Rattle.ng_core.specs.Frames as cores
use Rattle.ng_core.specs.State as act
use Rattle.ng_changes.proofs.Bodies.{scope_stands}
use Rattle.ng_changes.proofs.Runs.{destroyed_rises}
use Rattle.ng_changes.proofs.Wholes.{whole_left}
use Rattle.ng_fire.specs.Blocks.{Firing}
use Rattle.ng_changes.specs.Changes.{changed, has_additions}
use Rattle.ng_changes.specs.Runs.{destroyed}
use Rattle.ng_link.specs.Calls.{with_core}
use Rattle.ng_link.specs.Events.{scope_in}
use Rattle.ng_instances.specs.Instances.{linked_at}
use Rattle.ng_link.specs.State.{State, state_of}
use Rattle.ng_fire.proofs.blocks.end_body.Goals.{then-told, else-told}
use Rattle.ng_fire.proofs.blocks.end_body.Goals as goal

pub destroy_first-requires-clause-scope : goal.destroy_first-requires-clause-scope
destroy_first-requires-clause-scope c =
    let w = c.args.works.now in
    subst (λ (n : ℕ). n < length w.core.scopes) (sym c.scope_on-scope.ensures) (scope_stands w.core.scopes (state_of w).inner (state_of w).instances c.args.body.now c.requires.whole.root c.requires.whole.scopes)

pub apply_changes-requires : goal.apply_changes-requires
apply_changes-requires c =
    let w = c.args.works.now in
    let n = c.scope_on-scope.result.0 in
    let s = cores.state_of w.core in
    whole_left w c.destroy_first.new.core (destroyed n s) c.requires.whole c.in_ok-destroy_first.ensures.run (destroyed_rises n s) c.destroy_first.ensures.sound c.destroy_first.ensures.idle c.destroy_first.ensures.grown

pub returns-clause-fired : goal.returns-clause-fired
returns-clause-fired c =
    let w = c.args.works.now in
    let s : State = state_of w in
    let n : ℕ = scope_in (linked_at c.args.body.now s.instances) in
    let e : cores.state_of c.destroy_first.new.core ≡ destroyed n s.core = c.in_ok-destroy_first.ensures.run ∙ ap (λ (k : ℕ). destroyed k s.core) c.scope_on-scope.ensures in
    let f : Bool = c.args.told.now.faulted in
    let a : Bool = c.args.told.now.added in
    let state = c.in_ok-added.ensures.state ∙ ap (λ (k : act.State). changed (with_core k s)) e in
    let added = c.in_ok-added.ensures.added ∙ ap (λ (k : act.State). has_additions k.changes) e in
    let x : Bool = c.in_ok-added.added in
    let told : c.if-told.told ≡ (a || x) = elim c.if-told.branch [
      | then-told w ↦ w.told-is ∙ (w.if-told.true ∙ sym (ap (λ (b : Bool). b || x) w.if-told.true))
      | else-told w ↦ w.told-is ∙ sym (ap (λ (b : Bool). b || x) w.if-told.false)
    ] in
    ap (λ (b : Bool). (let g : Firing = record { state = state_of c.apply_changes.new.works; faulted = f; added = b } in g)) told
    ∙ (ap (λ (y : State). (let g : Firing = record { state = y; faulted = f; added = a || x } in g)) state
    ∙ ap (λ (b : Bool). (let g : Firing = record { state = changed (with_core (destroyed n s.core) s); faulted = f; added = a || b } in g)) added)
