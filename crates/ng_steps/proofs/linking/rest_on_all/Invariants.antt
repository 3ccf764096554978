use Rattle.std.proofs.Common.{◌≡◌, ◌≤◌, drop, length, map}
use Rattle.ng_base.specs.declared.name.ScopeId.{ScopeId}
use Rattle.ng_steps.specs.Links.{rested_on_all}
use Rattle.ng_steps.specs.LinkingOf.{AreBelow}
use Rattle.ng_changes.specs.Whole.{IsWhole}
use Rattle.ng_link.specs.State.{state_of, templates_of}
use Rattle.ng_steps.proofs.linking.rest_on_all.Given as goal

abbrev pub invariant-loop-scope : goal.invariant-loop-scope
invariant-loop-scope l = record {
  state : rested_on_all (map (λ (n : ScopeId). n.0) (drop l.scope-index l.scopes)) (state_of l.works) ≡ rested_on_all (map (λ (n : ScopeId). n.0) l.scopes) (state_of l.initial.works);
  below : AreBelow (length l.works.core.scopes) (map (λ (n : ScopeId). n.0) (drop l.scope-index l.scopes));
  grown : length l.initial.works.core.store ≤ length l.works.core.store;
  whole : IsWhole l.works;
  templates : templates_of l.works ≡ templates_of l.initial.works;
}
