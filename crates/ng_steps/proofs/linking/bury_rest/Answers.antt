use Rattle.std.proofs.Common.{◌≡◌, ◌<◌, ◌∙◌, ◌+◌, ℕ, List, ◌∷◌, ap, drop, get_or, length, map, refl, subst, sym, arith}
use Rattle.ng_base.specs.declared.name.ScopeId.{ScopeId}
use Rattle.ng_core.specs.Frames as cores
use Rattle.ng_changes.proofs.Answered.{dropped}
use Rattle.ng_steps.proofs.Linkings.{behind_first, behind_below}
use Rattle.ng_steps.specs.Links.{all_buried}
use Rattle.ng_steps.specs.LinkingOf.{AreBelow}
use Rattle.ng_build.proofs.Loops.{got_or}
use Rattle.ng_steps.proofs.linking.bury_rest.Goals as goal

pub bury-requires-clause-scope : goal.bury-requires-clause-scope
bury-requires-clause-scope c =
    let l = c.loop-i in
    let items : List ScopeId = c.args.scopes.now in
    let rest : List ℕ = map (λ (n : ScopeId). n.0) (drop (l.i + 1) items) in
    let lt : l.i < length items = omega arith in
    let s : ScopeId = get_or items l.i (record { 0 = 0 }) in
    let e : map (λ (n : ScopeId). n.0) (drop l.i items) ≡ s.0 ∷ rest = ap (map (λ (n : ScopeId). n.0)) (dropped items l.i s lt (got_or items l.i (record { 0 = 0 }) lt)) in
    (subst (λ (ns : List ℕ). AreBelow (length l.core.scopes) ns) e l.invariant.below).0

pub loop-i-init : goal.loop-i-init
loop-i-init c =
    let core = c.args.core.now in
    let items : List ScopeId = c.args.scopes.now in
    record {
      run = ap (λ (ns : List ℕ). all_buried ns (cores.state_of core)) (sym (behind_first items));
      below = behind_below (length core.scopes) items c.requires.scopes;
      sound = c.requires.sound;
      depth = refl;
      count = refl;
      grown = omega arith;
    }

pub loop-i-preserved : goal.loop-i-preserved
loop-i-preserved c =
    let l = c.loop-i in
    let items : List ScopeId = c.args.scopes.now in
    let rest : List ℕ = map (λ (n : ScopeId). n.0) (drop (l.i + 1) items) in
    let lt : l.i < length items = omega arith in
    let s : ScopeId = get_or items l.i (record { 0 = 0 }) in
    let e : map (λ (n : ScopeId). n.0) (drop l.i items) ≡ s.0 ∷ rest = ap (map (λ (n : ScopeId). n.0)) (dropped items l.i s lt (got_or items l.i (record { 0 = 0 }) lt)) in
    record {
      run = ap (all_buried rest) c.in_ok-bury.ensures.run ∙ (sym (ap (λ (ns : List ℕ). all_buried ns (cores.state_of l.core)) e) ∙ l.invariant.run);
      below = subst (λ (n : ℕ). AreBelow n rest) (sym c.bury.ensures.count) (subst (λ (ns : List ℕ). AreBelow (length l.core.scopes) ns) e l.invariant.below).1;
      sound = c.bury.ensures.sound;
      depth = c.bury.ensures.depth ∙ l.invariant.depth;
      count = c.bury.ensures.count ∙ l.invariant.count;
      grown = (let more = c.bury.ensures.grown in let all = l.invariant.grown in omega (arith, more, all));
    }
