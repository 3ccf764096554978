use Rattle.std.proofs.Common.{◌≡◌, ◌<◌, ◌≤◌, ◌+◌, ◌++◌, ◌∙◌, Err, ap, sym, map, length, arith}
use Rattle.std.proofs.lemmas.List.{length-map}
use Rattle.std.specs.Prelude.{option_map}
use Rattle.ng_interp.specs.Parts.{piece_of}
use Rattle.ng_parts.specs.AttributeOf.{class_of}
use Rattle.ng_directives.specs.Directives.{kind_for, acts_with, with_written}
use Rattle.ng_parse.specs.ProgramOf.{program}
use Rattle.ng_parts.specs.Seen.{acts_of}
use Rattle.ng_directives.specs.Limits.{site_limit}
use Rattle.ng_parts.specs.SiteOf.{site_of}
use Rattle.ng_elements.specs.HeadOf.{head_of}
use Rattle.ng_directives.specs.Texts.{numbered, sites_in}
use Rattle.ng_elements.proofs.Fitting.{parts_full, parts_placed}
use Rattle.ng_elements.proofs.elements.with_parts.Goals as goal

pub returns-then-len-count-gt-SITE_LIMIT : goal.returns-then-len-count-gt-SITE_LIMIT
returns-then-len-count-gt-SITE_LIMIT c free =
    let count = c.count_holes-count.ensures.count (kind_for c.args.setting) ∙ ap (λ xs. length (sites_in (kind_for c.args.setting) (map piece_of xs))) c.as_slice.ensures.value in
    let l : site_limit < length (map site_of c.args.element.sites.items) + length (sites_in (kind_for c.args.setting) (map piece_of c.args.parts.items))
    = omega (arith, count, length-map c.args.element.sites.items site_of) in
    parts_full c.args.pick.now c.args.setting (map piece_of c.args.parts.items) (with_written (option_map program c.args.program) (head_of c.args.element)) l ∙ ap Err (sym c.worn.ensures)

pub place_parts-requires-clause-fits : goal.place_parts-requires-clause-fits
place_parts-requires-clause-fits c =
    let count = c.count_holes-count.ensures.count c.kind_for.result ∙ ap (λ xs. length (sites_in c.kind_for.result (map piece_of xs))) c.as_slice.ensures.value in
    omega (arith, count)

pub returns : goal.returns
returns c =
    let count = c.count_holes-count.ensures.count (kind_for c.args.setting) ∙ ap (λ xs. length (sites_in (kind_for c.args.setting) (map piece_of xs))) c.as_slice.ensures.value in
    let size = length-map c.args.element.sites.items site_of in
    let raw : length c.args.element.sites.items ≡ c.len-first.result = omega arith in
    let first : c.len-first.result ≡ length (map site_of c.args.element.sites.items) = omega (arith, size) in
    let fits : length (map site_of c.args.element.sites.items) + length (sites_in (kind_for c.args.setting) (map piece_of c.args.parts.items)) ≤ site_limit = omega (arith, count, size) in
    let named = c.in_ok-pieces.ensures.pieces ∙ ap (λ n. numbered n (map piece_of c.args.parts.items)) raw in
    let kind = ap (λ k. map site_of c.args.element.sites.items ++ sites_in k (map piece_of c.args.parts.items)) c.kind_for.ensures in
    parts_placed c.args.pick.now c.args.setting (map piece_of c.args.parts.items) (with_written (option_map program c.args.program) (head_of c.args.element)) c.len-first.result c.in_ok-pieces.pieces
    c.set.new.attributes (class_of c.add_to_class.new.class) c.bound_after.result c.switch_after.result c.add_numbers.new.own.items (acts_of c.with_model.result) (map site_of c.in_ok-pieces.sites.items) first
    named
    c.in_ok-set.ensures
    c.in_ok-add_to_class.ensures
    c.bound_after.ensures
    c.switch_after.ensures
    (c.in_ok-add_numbers.ensures (sites_in (kind_for c.args.setting) (map piece_of c.args.parts.items)) (sym count))
    (c.with_model.ensures ∙ ap (λ n. acts_with c.args.element.kind n (option_map program c.args.program) (acts_of c.args.element.acts)) first)
    (c.in_ok-pieces.ensures.sites ∙ kind)
    fits
