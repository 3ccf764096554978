use Rattle.std.proofs.Common.{◌∙◌, ℕ, List, sym, subst, map}
use Rattle.ng_link.specs.Arranging.{ArePlaces, IsPlaceOf}
use Rattle.ng_instances.specs.InstanceOf.{body_of}
use Rattle.ng_link.proofs.PlacesBy.{places_more, place_here}
use Rattle.ng_link.proofs.arranging.places_by.Goals as goal

pub loop-i-preserved : goal.loop-i-preserved
loop-i-preserved c =
    let bs = c.args.bodies.now in
    let i = c.loop-i.i in
    let b = c.index-bodies-i.result in
    let p = c.in_ok-copied.field-0 in
    let n = c.in_ok-place_at.field-0 in
    let here : IsPlaceOf (map body_of bs) b.path i = place_here bs i b c.loop-i-test.true c.index-bodies-i.is in
    let one : IsPlaceOf (map body_of bs) p n =
    subst (λ (k : ℕ). IsPlaceOf (map body_of bs) p k) (sym c.in_ok-place_at.ensures) (subst (λ (q : List ℕ). IsPlaceOf (map body_of bs) q i) (sym (c.in_ok-copied.ensures ∙ c.path.ensures)) here) in
    subst (λ es. ArePlaces (map body_of bs) es) (sym c.in_ok-insert.ensures.entries) (places_more (map body_of bs) p n one c.loop-i.places.entries c.loop-i.invariant)
