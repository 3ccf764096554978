use Rattle.std.proofs.Common.{◌≡◌, ◌++◌, List, drop, map}
use Rattle.ng_base.specs.declared.name.ScopeId.{ScopeId}
use Rattle.ng_drawing.specs.Named.{Named}
use Rattle.ng_instances.specs.InstanceOf.{body_of, instances_of}
use Rattle.ng_link.specs.Events.{scopes_at}
use Rattle.ng_link.specs.Walking.{AreOf}
use Rattle.ng_link.proofs.filling.scopes_of.Given as goal

abbrev pub invariant-loop-body : goal.invariant-loop-body
invariant-loop-body l = record {
  scopes : (all : List Named) → map (λ (n : ScopeId). n.0) l.scopes.items ++ scopes_at (map body_of (drop l.body-index l.bodies)) (instances_of all l.instances.entries) ≡ scopes_at (map body_of l.bodies) (instances_of all l.instances.entries);
  ahead : AreOf l.instances.entries l.ahead;
}
