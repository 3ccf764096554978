use Rattle.std.proofs.Common.{◌≡◌, ◌∙◌, ℕ, ap, false, length, subst, sym}
use Rattle.ng_core.proofs.MoreScopes.{ok_and}
use Rattle.ng_core.specs.Frames.{declared_of}
use Rattle.ng_core.specs.State.{adds}
use Rattle.ng_base.specs.declared.path.Key.{Key}
use Rattle.ng_changes.specs.Changes.{applied, key_in, kind_of, listening_in}
use Rattle.ng_changes.proofs.Answered.{ok_then}
use Rattle.ng_changes.proofs.Wholes.{Stays, applied_stays, stays_of, whole_with}
use Rattle.ng_link.specs.Calls.{declared_at}
use Rattle.ng_link.specs.State.{State, state_of}
use Rattle.ng_watch.specs.declared.watch.WatchKind.{WatchKind}
use Rattle.ng_changes.proofs.changing.add.Goals as goal

pub returns-clause-state : goal.returns-clause-state
returns-clause-state c =
    let s = state_of c.args.works.now in
    let d = declared_of c.args.w in
    let put : Key → WatchKind → ℕ → State = λ k kind o. declared_at k (record { kind = kind; program = d.watched; one_time = false; scope = o }) (listening_in d) s in
    let key : c.in_ok-key.key ≡ key_in s d.scope d.serial = c.in_ok-key.ensures in
    ok_then c.declare.result c.declare.ensures.state
    (λ state. state
    ∙ (ap (λ (k : Key). put k c.kind_of.result c.object.result.0) key
    ∙ (ap (λ (x : WatchKind). put (key_in s d.scope d.serial) x c.object.result.0) c.kind_of.ensures ∙ ap (λ (o : ℕ). put (key_in s d.scope d.serial) (kind_of d.kind) o) c.object.ensures)))

pub returns-clause-whole : goal.returns-clause-whole
returns-clause-whole c =
    let w = c.args.works.now in
    let v = c.declare.new.self in
    let s = state_of w in
    let d = declared_of c.args.w in
    let put : Key → WatchKind → ℕ → State = λ k kind o. declared_at k (record { kind = kind; program = d.watched; one_time = false; scope = o }) (listening_in d) s in
    let key : c.in_ok-key.key ≡ key_in s d.scope d.serial = c.in_ok-key.ensures in
    let kind : c.kind_of.result ≡ kind_of d.kind = c.kind_of.ensures in
    ok_and c.declare.result c.declare.ensures.state c.declare.ensures.stands
    (λ state stands.
    let same : state_of v ≡ applied (adds d) s =
    state ∙ (ap (λ (k : Key). put k c.kind_of.result c.object.result.0) key
    ∙ (ap (λ (x : WatchKind). put (key_in s d.scope d.serial) x c.object.result.0) kind
    ∙ ap (λ (o : ℕ). put (key_in s d.scope d.serial) (kind_of d.kind) o) c.object.ensures)) in
    whole_with w v c.requires.whole c.declare.ensures.core stands
    (subst (λ (x : State). Stays w.core.scopes (length w.core.store) x) (sym same)
    (applied_stays w.core.scopes (length w.core.store) (adds d) s c.requires.scope (stays_of w c.requires.whole))))
