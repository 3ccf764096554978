use Rattle.std.proofs.Common.{ap, sym, ◌∙◌}
use Rattle.std.specs.Prelude.{option_map, unwrap_or}
use Rattle.ng_base.specs.declared.name.ScopeId.{ScopeId}
use Rattle.ng_build.proofs.Loops.{index_seen}
use Rattle.ng_instances.proofs.outlets.first_scope.Goals as goal

pub returns-in-None : goal.returns-in-None
returns-in-None c = ap (λ r. unwrap_or (option_map (λ s. s.now.0) r) 0) (sym c.in-None.is) ∙ index_seen (λ (s : ScopeId). s.0) c.args.scopes.now 0 0 c.get.result c.get.ensures.lookup.0 c.get.ensures.lookup.1

pub returns-in-Some : goal.returns-in-Some
returns-in-Some c = ap (λ r. unwrap_or (option_map (λ s. s.now.0) r) 0) (sym c.in-Some.is) ∙ index_seen (λ (s : ScopeId). s.0) c.args.scopes.now 0 0 c.get.result c.get.ensures.lookup.0 c.get.ensures.lookup.1
