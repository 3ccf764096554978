use Rattle.std.proofs.Common.{◌∙◌, ◌<◌, ℕ, None, Some, ap, length, subst, sym}
use Rattle.ng_behaviour.specs.Scopes.{object_at}
use Rattle.ng_changes.proofs.Entries.{if_ok}
use Rattle.ng_steps.proofs.Placed.{ground_below, outside_below}
use Rattle.ng_changes.specs.ScopeRuns.{scope_run}
use Rattle.ng_steps.specs.Links.{opening_run}
use Rattle.ng_instances.specs.BoundOf.{registered_of}
use Rattle.ng_instances.specs.Registering.{Ground, outside_in_ground}
use Rattle.ng_link.specs.State.{state_of}
use Rattle.ng_build.specs.StepOf.{opening_of}
use Rattle.ng_build.specs.declared.ordering.Opening as code
use Rattle.ng_parts.specs.ActsOf.{outside_of}
use Rattle.ng_steps.proofs.stepping.make_scope.Goals as goal

pub make_child-requires-clause-scope : goal.make_child-requires-clause-scope
make_child-requires-clause-scope c =
    let n : ℕ = length c.args.works.now.core.scopes in
    subst (λ (k : ℕ). k < n) (sym c.scope.ensures) (ground_below n (registered_of c.args.done.now.made).at_hand c.in-Child.n c.requires.whole.root c.requires.grounded.scopes)

pub make_isolate-requires-clause-scope : goal.make_isolate-requires-clause-scope
make_isolate-requires-clause-scope c =
    let n : ℕ = length c.args.works.now.core.scopes in
    subst (λ (k : ℕ). k < n) (sym c.scope-in-Isolate.ensures) (ground_below n (registered_of c.args.done.now.made).at_hand c.in-Isolate.n c.requires.whole.root c.requires.grounded.scopes)

pub make_slot-requires-clause-outer : goal.make_slot-requires-clause-outer
make_slot-requires-clause-outer c =
    let n : ℕ = length c.args.works.now.core.scopes in
    subst (λ (k : ℕ). k < n) (sym c.outside.ensures) (outside_below n (registered_of c.args.done.now.made).at_hand (outside_of c.in-Slot.outside) c.requires.whole.root c.requires.grounded.scopes c.requires.grounded.outsides)

pub make_slot-requires-clause-scope : goal.make_slot-requires-clause-scope
make_slot-requires-clause-scope c =
    let n : ℕ = length c.args.works.now.core.scopes in
    subst (λ (k : ℕ). k < n) (sym c.scope-in-Slot.ensures) (ground_below n (registered_of c.args.done.now.made).at_hand c.in-Slot.n c.requires.whole.root c.requires.grounded.scopes)

pub returns-in-Child-clause-made : goal.returns-in-Child-clause-made
returns-in-Child-clause-made c =
    let g : Ground = (registered_of c.args.done.now.made).at_hand in
    let s = (state_of c.args.works.now).core in
    if_ok c.make_child.result c.make_child.ensures.run
    (λ m e. ap (λ (o : code.Opening). opening_run g (opening_of o) s) c.in-Child.is ∙ (ap (λ (k : ℕ). scope_run k (Some (object_at s.scopes k)) s) (sym c.scope.ensures) ∙ e))

pub returns-in-Isolate-clause-made : goal.returns-in-Isolate-clause-made
returns-in-Isolate-clause-made c =
    let g : Ground = (registered_of c.args.done.now.made).at_hand in
    let s = (state_of c.args.works.now).core in
    if_ok c.make_isolate.result c.make_isolate.ensures.run
    (λ m e. ap (λ (o : code.Opening). opening_run g (opening_of o) s) c.in-Isolate.is ∙ (ap (λ (k : ℕ). scope_run k None s) (sym c.scope-in-Isolate.ensures) ∙ e))

pub returns-in-Slot-clause-made : goal.returns-in-Slot-clause-made
returns-in-Slot-clause-made c =
    let g : Ground = (registered_of c.args.done.now.made).at_hand in
    let s = (state_of c.args.works.now).core in
    if_ok c.make_slot.result c.make_slot.ensures.run
    (λ m e. ap (λ (o : code.Opening). opening_run g (opening_of o) s) c.in-Slot.is
    ∙ (ap (λ (k : ℕ). scope_run k (Some (object_at s.scopes (outside_in_ground g (outside_of c.in-Slot.outside)))) s) (sym c.scope-in-Slot.ensures)
    ∙ (ap (λ (k : ℕ). scope_run c.scope-in-Slot.result.0 (Some (object_at s.scopes k)) s) (sym c.outside.ensures) ∙ e)))
