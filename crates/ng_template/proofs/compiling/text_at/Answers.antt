use Rattle.std.proofs.Common.{◌<◌, ◌≤◌, ◌+◌, ◌∙◌, List, Ok, Err, ap, sym, map, length, arith}
use Rattle.std.proofs.lemmas.List.{length-map}
use Rattle.ng_drawing.specs.Template.{Site}
use Rattle.ng_drawing.specs.declared.kind.SiteKind.TheVariants as kinds
use Rattle.ng_interp.specs.Parts.{piece_of, pieces_in}
use Rattle.ng_directives.specs.Places.{first_place, other_places}
use Rattle.ng_directives.specs.Limits.{site_limit}
use Rattle.ng_parts.specs.Seen.{part_of}
use Rattle.ng_parts.specs.SiteOf.{site_of}
use Rattle.ng_elements.specs.HeadOf.{made_of}
use Rattle.ng_directives.specs.Texts.{judged, numbered, sites_in}
use Rattle.ng_template.proofs.TextFits.{text_full, text_placed}
use Rattle.ng_template.proofs.compiling.text_at.Goals as goal

pub returns-then-len-count_holes-gt-SITE_LIMIT : goal.returns-then-len-count_holes-gt-SITE_LIMIT
returns-then-len-count_holes-gt-SITE_LIMIT c free =
    let count = c.count_holes.ensures.count kinds.Text ∙ ap (λ xs. length (sites_in kinds.Text (map piece_of xs))) c.as_slice.ensures.value in
    let l : site_limit < length (map site_of c.args.made.sites.items) + length (sites_in kinds.Text (map piece_of c.in_ok-parts.parts.items))
    = omega (arith, count, length-map c.args.made.sites.items site_of) in
    let judged_now = ap (λ place. judged place (pieces_in c.args.whole.now)) (sym c.first_of-first.ensures.first) ∙ c.in_ok-parts.ensures.parts in
    text_full (made_of c.args.made) (judged (first_place c.args.made.places.now) (pieces_in c.args.whole.now)) (map piece_of c.in_ok-parts.parts.items) judged_now l ∙ ap Err (sym c.worn.ensures)

pub place_parts-requires-clause-fits : goal.place_parts-requires-clause-fits
place_parts-requires-clause-fits c =
    let count = c.count_holes.ensures.count kinds.Text ∙ ap (λ xs. length (sites_in kinds.Text (map piece_of xs))) c.as_slice.ensures.value in
    omega (arith, count)

pub returns : goal.returns
returns c =
    let count = c.count_holes.ensures.count kinds.Text ∙ ap (λ xs. length (sites_in kinds.Text (map piece_of xs))) c.as_slice.ensures.value in
    let l : length (map site_of c.args.made.sites.items) + length (sites_in kinds.Text (map piece_of c.in_ok-parts.parts.items)) ≤ site_limit
    = omega (arith, count, length-map c.args.made.sites.items site_of) in
    let named = c.in_ok-pieces.ensures.pieces ∙ ap (λ n. numbered n (map piece_of c.in_ok-parts.parts.items)) (sym (length-map c.args.made.sites.items site_of)) in
    let judged_now = ap (λ place. judged place (pieces_in c.args.whole.now)) (sym c.first_of-first.ensures.first) ∙ c.in_ok-parts.ensures.parts in
    let sites : List Site = map site_of c.in_ok-pieces.sites.items in
    text_placed (made_of c.args.made) (judged (first_place c.args.made.places.now) (pieces_in c.args.whole.now)) (map piece_of c.in_ok-parts.parts.items) judged_now
    c.in_ok-pieces.pieces (map site_of c.in_ok-pieces.sites.items) named c.in_ok-pieces.ensures.sites l
    ∙ (ap (λ p. Ok (p, record (made_of c.args.made) { places = other_places c.args.made.places.now; sites = sites })) (sym c.text.ensures)
    ∙ ap (λ places. Ok (part_of c.text.result, record (made_of c.args.made) { places = places; sites = sites })) (sym c.first_of-first.ensures.others))
