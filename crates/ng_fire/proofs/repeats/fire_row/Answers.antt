use Rattle.std.proofs.Common.{◌<◌, ◌≡◌, ℕ, List, ap, length, subst, sym}
use Rattle.ng_changes.proofs.Answered.{some_is}
use Rattle.ng_changes.proofs.Bodies.{scope_stands}
use Rattle.ng_instances.specs.Instances.{linked_at}
use Rattle.ng_link.specs.Events.{scope_in}
use Rattle.ng_link.specs.State.{state_of}
use Rattle.ng_rows.specs.RepeatsOf.{path_of}
use Rattle.ng_fire.proofs.repeats.fire_row.Goals as goal

pub keep_row-requires-clause-scope : goal.keep_row-requires-clause-scope
keep_row-requires-clause-scope c =
    let w = c.args.works.now in
    let p : List ℕ = c.in-Some.field-0.now.path in
    let same : c.args.scope.0 ≡ scope_in (linked_at p (state_of w).instances) =
    some_is (λ (q : List ℕ). c.args.scope.0 ≡ scope_in (linked_at q (state_of w).instances)) (path_of c.args.row.now.from) p c.requires.scope (ap path_of c.in-Some.is) in
    subst (λ (n : ℕ). n < length w.core.scopes) (sym same) (scope_stands w.core.scopes (state_of w).inner (state_of w).instances p c.requires.whole.root c.requires.whole.scopes)
