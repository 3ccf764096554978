use Rattle.std.proofs.Common.{◌≡◌, ℕ, List, ap, ◌∙◌, map}
use Rattle.ng_base.specs.declared.name.ScopeId.{ScopeId}
use Rattle.ng_drawing.specs.declared.origin.Home.{Home}
use Rattle.ng_instances.specs.Registering.{Round}
use Rattle.ng_instances.proofs.outlets.round_inside.Goals as goal

abbrev round : Home → ℕ → List ℕ → Round
round h s os = record { home = h; scope = s; outsides = os }

round_is : (h i : Home) (s t : ℕ) (os ps : List ℕ) → h ≡ i → s ≡ t → os ≡ ps → round h s os ≡ round i t ps
round_is h i s t os ps a b d = ap (λ z. round z s os) a ∙ (ap (λ z. round i z os) b ∙ ap (λ z. round i t z) d)

pub returns : goal.returns
returns c = round_is _ _ _ _ _ _ c.in_ok-inner.ensures c.scope.ensures (ap (map (λ (s : ScopeId). s.0)) c.in_ok-copied_scopes.ensures)
