use Rattle.std.proofs.Common.{◌≡◌, ◌≤◌, drop, length, map}
use Rattle.ng_base.specs.declared.name.ScopeId.{ScopeId}
use Rattle.ng_core.specs.Frames as cores
use Rattle.ng_core.specs.Frames.{IsSound}
use Rattle.ng_steps.specs.Links.{all_buried}
use Rattle.ng_steps.specs.LinkingOf.{AreBelow}
use Rattle.ng_steps.proofs.linking.bury_rest.Given as goal

abbrev pub invariant-loop-i : goal.invariant-loop-i
invariant-loop-i l = record {
  run : all_buried (map (λ (n : ScopeId). n.0) (drop l.i l.scopes)) (cores.state_of l.core) ≡ all_buried (drop 1 (map (λ (n : ScopeId). n.0) l.scopes)) (cores.state_of l.initial.core);
  below : AreBelow (length l.core.scopes) (map (λ (n : ScopeId). n.0) (drop l.i l.scopes));
  sound : IsSound l.core;
  depth : l.core.depth ≡ l.initial.core.depth;
  count : length l.core.scopes ≡ length l.initial.core.scopes;
  grown : length l.initial.core.store ≤ length l.core.store;
}
