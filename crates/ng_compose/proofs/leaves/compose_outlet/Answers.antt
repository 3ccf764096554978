use Rattle.std.proofs.Common.{◌∙◌, List, ℕ, ap, map}
use Rattle.ng_drawing.specs.Template.{Part, anchor_part, SiteScopes}
use Rattle.ng_language.specs.Trees.{Trees}
use Rattle.ng_parse.specs.ProgramOf.{program}
use Rattle.ng_compose.specs.ComposedOf.{region_of, composed_of}
use Rattle.ng_drawing.specs.Moved.{moved_by}
use Rattle.ng_drawing.specs.Composing.{alone, sites_on}
use Rattle.ng_compose.proofs.ComposingTurns.{anchor_is}
use Rattle.ng_compose.proofs.leaves.compose_outlet.Goals as goal

pub returns : goal.returns
returns c =
    let r = region_of c.args.region.now in
    let old = composed_of c.args.made.now in
    let mid = composed_of c.add_sites.new.self in
    let new = composed_of c.add_outlet.new.self in
    let own : List ℕ = c.args.own.now in
    let sites = c.in_ok-add_sites.ensures ∙ ap (λ (m : SiteScopes). (sites_on r m own old).1) c.on.ensures in
    let moved = c.in_ok-own.ensures ∙ ap (λ ns. map (moved_by ns) own) c.as_slice.ensures.value in
    ap (λ (p : Part). (alone p, new)) (c.anchor.ensures ∙ (ap (λ (ns : List ℕ). anchor_part c.in_ok-n.n ns (map program c.in_ok-copied_programs.field-0.items)) moved ∙ ap (λ (ps : List Trees). anchor_part c.in_ok-n.n (map (moved_by mid.moved) own) ps) c.in_ok-copied_programs.ensures))
    ∙ anchor_is r c.args.outlet own (map program c.args.starts.now) old mid new c.in_ok-n.n sites c.in_ok-n.ensures
