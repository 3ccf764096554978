use Rattle.std.proofs.Common.{◌≡◌, ℕ, List, ap, ◌∙◌, map}
use Rattle.ng_drawing.specs.declared.origin.Home.{Home}
use Rattle.ng_parts.specs.ActsOf.{outside_of}
use Rattle.ng_parts.specs.declared.acts.Outside.{Outside}
use Rattle.ng_instances.specs.BoundOf.{ground_of}
use Rattle.ng_instances.specs.Registering.{outside_in_ground, Round}
use Rattle.ng_instances.proofs.outlets.round_at.Goals as goal

abbrev round : Home → ℕ → List ℕ → Round
round h s os = record { home = h; scope = s; outsides = os }

round_is : (h i : Home) (s t : ℕ) (os ps : List ℕ) → h ≡ i → s ≡ t → os ≡ ps → round h s os ≡ round i t ps
round_is h i s t os ps a b d = ap (λ z. round z s os) a ∙ (ap (λ z. round i z os) b ∙ ap (λ z. round i t z) d)

pub returns : goal.returns
returns c =
    let which = outside_in_ground (ground_of c.args.ground.now) in
    round_is _ _ _ _ _ _ c.in_ok-copied.ensures c.scope.ensures (c.in_ok-all_outside.ensures ∙ ap (λ (os : List Outside). map which (map outside_of os)) c.as_slice.ensures.value)
