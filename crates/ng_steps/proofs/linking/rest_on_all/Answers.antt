use Rattle.std.proofs.Common.{◌≡◌, ◌∙◌, ◌+◌, ℕ, List, ◌∷◌, ap, drop, get_or, length, map, refl, subst, sym, arith}
use Rattle.ng_base.specs.declared.name.ScopeId.{ScopeId}
use Rattle.ng_core.specs.declared.core_state.Core.{Core}
use Rattle.ng_changes.proofs.Answered.{dropped}
use Rattle.ng_steps.specs.Links.{rested_on_all}
use Rattle.ng_steps.specs.LinkingOf.{AreBelow}
use Rattle.ng_build.proofs.Loops.{got_or}
use Rattle.ng_link.specs.State.{state_of}
use Rattle.ng_steps.proofs.linking.rest_on_all.Goals as goal

pub rest_on_dead-requires-clause-scope : goal.rest_on_dead-requires-clause-scope
rest_on_dead-requires-clause-scope c =
    let l = c.loop-scope in
    let items : List ScopeId = c.args.scopes.now in
    let rest : List ℕ = map (λ (n : ScopeId). n.0) (drop (l.scope-index + 1) items) in
    let s : ScopeId = get_or items l.scope-index (record { 0 = 0 }) in
    let e : map (λ (n : ScopeId). n.0) (drop l.scope-index items) ≡ s.0 ∷ rest = ap (map (λ (n : ScopeId). n.0)) (dropped items l.scope-index s c.loop-scope-test.true (got_or items l.scope-index (record { 0 = 0 }) c.loop-scope-test.true)) in
    (subst (λ (ns : List ℕ). AreBelow (length l.works.core.scopes) ns) e l.invariant.below).0

pub loop-scope-init : goal.loop-scope-init
loop-scope-init c = record { state = refl; below = c.requires.scopes; grown = omega arith; whole = c.requires.whole; templates = refl }

pub loop-scope-preserved : goal.loop-scope-preserved
loop-scope-preserved c =
    let l = c.loop-scope in
    let items : List ScopeId = c.args.scopes.now in
    let rest : List ℕ = map (λ (n : ScopeId). n.0) (drop (l.scope-index + 1) items) in
    let s : ScopeId = get_or items l.scope-index (record { 0 = 0 }) in
    let e : map (λ (n : ScopeId). n.0) (drop l.scope-index items) ≡ s.0 ∷ rest = ap (map (λ (n : ScopeId). n.0)) (dropped items l.scope-index s c.loop-scope-test.true (got_or items l.scope-index (record { 0 = 0 }) c.loop-scope-test.true)) in
    let one = c.in_ok-rest_on_dead.ensures in
    record {
      state = ap (rested_on_all rest) one.state ∙ (sym (ap (λ (ns : List ℕ). rested_on_all ns (state_of l.works)) e) ∙ l.invariant.state);
      below = subst (λ (k : Core). AreBelow (length k.scopes) rest) (sym c.rest_on_dead.ensures.core) (subst (λ (ns : List ℕ). AreBelow (length l.works.core.scopes) ns) e l.invariant.below).1;
      grown = (let more = one.grown in let all = l.invariant.grown in omega (arith, more, all));
      whole = one.whole;
      templates = c.rest_on_dead.ensures.templates ∙ l.invariant.templates;
    }
