use Rattle.std.proofs.Common.{◌<◌, ◌≤◌, ◌+◌, ◌∙◌, Err, ap, sym, map, length, arith}
use Rattle.std.proofs.lemmas.List.{length-map}
use Rattle.ng_drawing.specs.declared.kind.SiteKind.TheVariants as kinds
use Rattle.ng_interp.specs.Parts.{piece_of}
use Rattle.ng_directives.specs.Limits.{site_limit}
use Rattle.ng_parts.specs.SiteOf.{site_of}
use Rattle.ng_directives.specs.Texts.{numbered, sites_in}
use Rattle.ng_elements.proofs.Fitting.{placed_full, placed_fits}
use Rattle.ng_elements.proofs.bindings.placed.Goals as goal

pub returns-then-len-count-gt-SITE_LIMIT : goal.returns-then-len-count-gt-SITE_LIMIT
returns-then-len-count-gt-SITE_LIMIT c free =
    let count = c.count_holes-count.ensures.count kinds.Text ∙ ap (λ xs. length (sites_in kinds.Text (map piece_of xs))) c.as_slice.ensures.value in
    let l : site_limit < length (map site_of c.args.sites.items) + length (sites_in kinds.Text (map piece_of c.args.parts.items)) = omega (arith, count, length-map c.args.sites.items site_of) in
    placed_full (map piece_of c.args.parts.items) (map site_of c.args.sites.items) l ∙ ap Err (sym c.worn.ensures)

pub place_parts-requires-clause-fits : goal.place_parts-requires-clause-fits
place_parts-requires-clause-fits c =
    let count = c.count_holes-count.ensures.count kinds.Text ∙ ap (λ xs. length (sites_in kinds.Text (map piece_of xs))) c.as_slice.ensures.value in
    omega (arith, count)

pub returns : goal.returns
returns c =
    let count = c.count_holes-count.ensures.count kinds.Text ∙ ap (λ xs. length (sites_in kinds.Text (map piece_of xs))) c.as_slice.ensures.value in
    let size = length-map c.args.sites.items site_of in
    let l : length (map site_of c.args.sites.items) + length (sites_in kinds.Text (map piece_of c.args.parts.items)) ≤ site_limit = omega (arith, count, size) in
    let named = c.in_ok-pieces.ensures.pieces ∙ ap (λ n. numbered n (map piece_of c.args.parts.items)) (sym size) in
    placed_fits (map piece_of c.args.parts.items) (map site_of c.args.sites.items) c.in_ok-pieces.pieces (map site_of c.in_ok-pieces.sites.items) named c.in_ok-pieces.ensures.sites l
