use Rattle.std.proofs.Common.{◌∙◌, ap, length, List, subst, sym}
use Rattle.ng_base.specs.declared.path.Key.{Key}
use Rattle.ng_changes.proofs.Wholes.{Stays, stays_of, unset_stays, whole_with}
use Rattle.ng_settling.specs.Settling.{unset_all}
use Rattle.ng_link.specs.State.{State, state_of}
use Rattle.ng_settling.proofs.settling.unset_all.Goals as goal

pub loop-key-preserved : goal.loop-key-preserved
loop-key-preserved c =
    let w = c.loop-key.works in
    let v = c.unset.new.self in
    let n = w.core.scopes in
    let m = length w.core.store in
    let h = c.loop-key.invariant in
    record {
      state = ap (unset_all c.next.new.self) c.unset.ensures.state ∙ (sym (ap (λ (ks : List Key). unset_all ks (state_of w)) c.in-Some.ensures.steps) ∙ h.state);
      whole = whole_with w v h.whole c.unset.ensures.core c.unset.ensures.stands (subst (λ (s : State). Stays n m s) (sym c.unset.ensures.state) (unset_stays n m c.in-Some.key.now (state_of w) (stays_of w h.whole)));
      core = c.unset.ensures.core ∙ h.core;
      templates = c.unset.ensures.templates ∙ h.templates;
    }
