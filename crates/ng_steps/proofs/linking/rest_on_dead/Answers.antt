use Rattle.std.proofs.Common.{length, subst, sym}
use Rattle.ng_core.proofs.MoreScopes.{ok_and}
use Rattle.ng_changes.proofs.Wholes.{Stays, left_stays, stays_of, whole_with}
use Rattle.ng_link.specs.State.{State, state_of}
use Rattle.ng_steps.proofs.linking.rest_on_dead.Goals as goal

pub returns-clause-whole : goal.returns-clause-whole
returns-clause-whole c =
    let w = c.args.works.now in
    let v = c.leave.new.self in
    let n = w.core.scopes in
    let m = length w.core.store in
    ok_and c.leave.result c.leave.ensures.state c.leave.ensures.stands
    (λ state stands. whole_with w v c.requires.whole c.leave.ensures.core stands (subst (λ (s : State). Stays n m s) (sym state) (left_stays n m c.in_ok-path.path (state_of w) (stays_of w c.requires.whole))))
