use Rattle.std.proofs.Common.{◌∙◌, ◌++◌, List, ℕ, ap, map}
use Rattle.ng_drawing.specs.Template.{Part, Piece, text_part, SiteScopes}
use Rattle.ng_compose.specs.ComposedOf.{region_of, composed_of}
use Rattle.ng_drawing.specs.Moved.{moved_by, moved_piece}
use Rattle.ng_drawing.specs.Composing.{alone, sites_on, on}
use Rattle.ng_drawing.specs.Numbering.{hole_numbers}
use Rattle.ng_compose.proofs.ComposingTurns.{text_is}
use Rattle.ng_compose.proofs.leaves.compose_text.Goals as goal

pub returns : goal.returns
returns c =
    let r = region_of c.args.region.now in
    let old = composed_of c.args.made.now in
    let new = composed_of c.add_sites.new.self in
    let pieces : List Piece = c.args.pieces.now in
    let sites = c.in_ok-add_sites.ensures
    ∙ (ap (λ (m : SiteScopes). (sites_on r m c.as_slice.result.now old).1) c.on.ensures ∙ ap (λ (ns : List ℕ). (sites_on r (on r.scope) ns old).1) (c.as_slice.ensures.value ∙ (c.in_ok-add_holes.ensures ∙ ap (λ (ns : List ℕ). ns ++ hole_numbers pieces) c.new-numbers.ensures.items))) in
    let moved = c.in_ok-moved_pieces.ensures ∙ ap (λ ns. map (moved_piece (moved_by ns)) pieces) c.as_slice-2.ensures.value in
    ap (λ (p : Part). (alone p, new)) (c.text.ensures ∙ ap text_part moved) ∙ text_is r pieces old new sites
