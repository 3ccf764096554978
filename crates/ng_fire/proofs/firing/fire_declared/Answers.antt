use Rattle.std.proofs.Common.{◌≡◌, ◌∙◌, ◌<◌, ap, length, Some, subst, sym}
use Rattle.std.specs.Prelude.{option_map}
use Rattle.ng_core.specs.declared.core_state.Core.{Core}
use Rattle.ng_fire.proofs.Fired.{listener_scope}
use Rattle.ng_fire.specs.Fires.{listener_at}
use Rattle.ng_link.specs.State.{listening_of, state_of}
use Rattle.ng_fire.proofs.firing.fire_declared.Goals as goal

pub run_declared-requires-clause-scope : goal.run_declared-requires-clause-scope
run_declared-requires-clause-scope c =
    let w = c.args.works.now in
    let s = state_of w in
    let l = listening_of c.in-Some.listener in
    let at : listener_at s c.args.key.now ≡ Some l = sym c.in_ok-listener.ensures ∙ ap (option_map listening_of) c.in-Some.is in
    subst (λ (x : Core). c.in-Some.listener.scope.0 < length x.scopes) (sym c.keep_declared.ensures.core)
    (listener_scope (length w.core.scopes) s c.args.key.now l c.requires.whole.listeners at)
