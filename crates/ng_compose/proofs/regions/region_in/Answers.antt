use Rattle.std.proofs.Common.{◌-◌, ◌∙◌, ℕ, ap, map}
use Rattle.ng_drawing.specs.declared.origin.Home.{Home}
use Rattle.ng_parts.specs.ActsOf.{outside_of}
use Rattle.ng_compose.specs.ComposedOf.{region_of}
use Rattle.ng_compose.proofs.ComposingTurns.{same_region}
use Rattle.ng_compose.proofs.regions.region_in.Goals as goal

pub returns : goal.returns
returns c =
    let r = region_of c.args.region.now in
    let same = c.in_ok-home.ensures in
    let count : ℕ = c.directive_count.result in
    let room = c.room_left.ensures ∙ (ap (λ (h : Home). h.room - count) same ∙ ap (λ (k : ℕ). r.home.room - k) c.directive_count.ensures) in
    let home = ap (λ (h : Home). record h { room = c.room_left.result }) same ∙ ap (λ (n : ℕ). record r.home { room = n }) room in
    same_region r.source _ _ _ _ c.args.scope home (ap (map outside_of) (c.in_ok-outsides.ensures ∙ c.as_slice.ensures.value))
