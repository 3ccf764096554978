use Rattle.std.proofs.Common.{◌≡◌, ◌∙◌, ap, length, subst, sym}
use Rattle.ng_core.proofs.MoreScopes.{ok_and}
use Rattle.ng_core.specs.Frames.{change_of}
use Rattle.ng_core.specs.State.{removes, leaves}
use Rattle.ng_core.specs.declared.pending.WatchChange.{WatchChange}
use Rattle.ng_base.specs.declared.path.Key.{Key}
use Rattle.ng_changes.specs.Changes.{applied}
use Rattle.ng_changes.proofs.Wholes.{Stays, applied_stays, stays_of, whole_with}
use Rattle.ng_link.specs.Calls.{left_at, undeclared_at}
use Rattle.ng_link.specs.State.{State, state_of}
use Rattle.ng_changes.proofs.changing.apply_change.Goals as goal

pub returns-in_ok-key-in-Remove-clause-state : goal.returns-in_ok-key-in-Remove-clause-state
returns-in_ok-key-in-Remove-clause-state c =
    let s = state_of c.args.works.now in
    c.undeclare.ensures.state ∙ (ap (λ (k : Key). undeclared_at k s) c.in_ok-key-in-Remove.ensures ∙ sym (ap (λ (x : WatchChange). applied (change_of x) s) c.in-Remove.is))

pub returns-in_ok-key-in-Remove-clause-whole : goal.returns-in_ok-key-in-Remove-clause-whole
returns-in_ok-key-in-Remove-clause-whole c =
    let w = c.args.works.now in
    let v = c.undeclare.new.self in
    let change = removes c.in-Remove.scope.0 c.in-Remove.serial.0 in
    let same : state_of v ≡ applied change (state_of w) = c.undeclare.ensures.state ∙ ap (λ (k : Key). undeclared_at k (state_of w)) c.in_ok-key-in-Remove.ensures in
    whole_with w v c.requires.whole c.undeclare.ensures.core c.undeclare.ensures.stands
    (subst (λ (s : State). Stays w.core.scopes (length w.core.store) s) (sym same)
    (applied_stays w.core.scopes (length w.core.store) change (state_of w) (rw c.in-Remove.is at c.requires.scope) (stays_of w c.requires.whole)))

pub returns-in_ok-path-in-Leave-clause-whole : goal.returns-in_ok-path-in-Leave-clause-whole
returns-in_ok-path-in-Leave-clause-whole c =
    let w = c.args.works.now in
    let v = c.leave.new.self in
    let change = leaves c.in-Leave.scope.0 in
    ok_and c.leave.result c.leave.ensures.state c.leave.ensures.stands
    (λ state stands.
    let same : state_of v ≡ applied change (state_of w) = state ∙ ap (λ p. left_at p (state_of w)) (c.in_ok-path-in-Leave.ensures ∙ c.path.ensures) in
    whole_with w v c.requires.whole c.leave.ensures.core stands
    (subst (λ (s : State). Stays w.core.scopes (length w.core.store) s) (sym same)
    (applied_stays w.core.scopes (length w.core.store) change (state_of w) (rw c.in-Leave.is at c.requires.scope) (stays_of w c.requires.whole))))
