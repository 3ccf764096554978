use Rattle.std.proofs.Common.{length, subst, sym}
use Rattle.ng_core.proofs.MoreScopes.{ok_and}
use Rattle.ng_changes.proofs.Wholes.{Stays, ended_stays, stays_of, whole_with}
use Rattle.ng_link.specs.State.{State, state_of}
use Rattle.ng_settling.proofs.settling.end_bindings.Goals as goal

pub returns-clause-whole : goal.returns-clause-whole
returns-clause-whole c =
    let w = c.args.works.now in
    let v = c.end_over.new.self in
    let n = w.core.scopes in
    let m = length w.core.store in
    ok_and c.end_over.result c.end_over.ensures.state c.end_over.ensures.stands
    (λ state stands. whole_with w v c.requires c.end_over.ensures.core stands
    (subst (λ (s : State). Stays n m s) (sym state) (ended_stays n m (state_of w) (stays_of w c.requires))))
