use Rattle.std.proofs.Common.{◌∙◌, true, false, Err, ap, sym, arith}
use Rattle.ng_drawing.specs.Template.{Fragment, Part, no_parts, part_then}
use Rattle.ng_template.specs.AroundOf.{block_of, blocks_of, case_of, outermost_of}
use Rattle.ng_elements.specs.Elements.{Made, fragment_made}
use Rattle.ng_template.specs.Compiles.{the_case, the_block, has_room, wrapped}
use Rattle.ng_parts.specs.FragmentOf.{sites_of, outlets_of, fragments_of}
use Rattle.ng_parts.specs.Seen.{part_of}
use Rattle.ng_elements.specs.HeadOf.{made_of}
use Rattle.ng_template.proofs.Wraps.{wrapped_by, wrapped_in, room_is, few_bodies}
use Rattle.ng_template.proofs.wrapping.wrap.Goals as goal

pub returns-then-not-has_room : goal.returns-then-not-has_room
returns-then-not-has_room c free =
    let a = c.args in
    let came : Part × Made = (part_of a.part, made_of a.made) in
    let last : Fragment = fragment_made (part_then (part_of a.part) no_parts, made_of a.made) in
    let full = room_is a.heads.items a.sites.items a.outlets.items a.made.bodies.items last c.as_slice.result.now c.as_slice-2.result.now c.len.result c.len-2.result false c.as_slice.ensures.value c.as_slice-2.ensures.value (omega arith) (omega arith) c.if-not-has_room.ensures in
    wrapped_by (outermost_of a.outermost) (blocks_of a.heads.items) (sites_of a.sites.items) (outlets_of a.outlets.items) came false full ∙ ap Err (sym c.worn.ensures)

pub with_bodies-requires : goal.with_bodies-requires
with_bodies-requires c =
    let a = c.args in
    let last : Fragment = fragment_made (part_then (part_of a.part) no_parts, made_of a.made) in
    few_bodies a.heads.items a.sites.items a.outlets.items a.made.bodies.items last
    (room_is a.heads.items a.sites.items a.outlets.items a.made.bodies.items last c.as_slice.result.now c.as_slice-2.result.now c.len.result c.len-2.result true c.as_slice.ensures.value c.as_slice-2.ensures.value (omega arith) (omega arith) c.if-not-has_room.ensures)

pub with_block-requires : goal.with_block-requires
with_block-requires c =
    let a = c.args in
    let last : Fragment = fragment_made (part_then (part_of a.part) no_parts, made_of a.made) in
    let room = room_is a.heads.items a.sites.items a.outlets.items a.made.bodies.items last c.as_slice.result.now c.as_slice-2.result.now c.len.result c.len-2.result true c.as_slice.ensures.value c.as_slice-2.ensures.value (omega arith) (omega arith) c.if-not-has_room.ensures in
    ap (has_room (sites_of a.sites.items) (outlets_of a.outlets.items)) c.in_ok-places.ensures.1 ∙ sym room

pub with_case-requires : goal.with_case-requires
with_case-requires c =
    let a = c.args in
    let last : Fragment = fragment_made (part_then (part_of a.part) no_parts, made_of a.made) in
    let room = room_is a.heads.items a.sites.items a.outlets.items a.made.bodies.items last c.as_slice.result.now c.as_slice-2.result.now c.len.result c.len-2.result true c.as_slice.ensures.value c.as_slice-2.ensures.value (omega arith) (omega arith) c.if-not-has_room.ensures in
    ap (has_room (sites_of a.sites.items) (outlets_of a.outlets.items)) c.in_ok-places.ensures.1 ∙ sym room

pub returns-in_ok-with_block-in-Block : goal.returns-in_ok-with_block-in-Block
returns-in_ok-with_block-in-Block c =
    let a = c.args in
    let came : Part × Made = (part_of a.part, made_of a.made) in
    let last : Fragment = fragment_made (part_then (part_of a.part) no_parts, made_of a.made) in
    let room = room_is a.heads.items a.sites.items a.outlets.items a.made.bodies.items last c.as_slice.result.now c.as_slice-2.result.now c.len.result c.len-2.result true c.as_slice.ensures.value c.as_slice-2.ensures.value (omega arith) (omega arith) c.if-not-has_room.ensures in
    let q : Part × Made = (part_of c.in_ok-with_block-in-Block.field-0.0, made_of c.in_ok-with_block-in-Block.field-0.1) in
    ap (λ o. wrapped (outermost_of o) (blocks_of a.heads.items) (sites_of a.sites.items) (outlets_of a.outlets.items) came) c.in-Block.is
    ∙ wrapped_in (the_block (block_of c.in-Block.block)) (blocks_of a.heads.items) (sites_of a.sites.items) (outlets_of a.outlets.items) came room c.in_ok-places.places.now (fragments_of c.in_ok-places.bodies.items) q
    c.in_ok-places.ensures.0 c.in_ok-places.ensures.1 c.in_ok-with_block-in-Block.ensures

pub returns-in_ok-with_case-in-Case : goal.returns-in_ok-with_case-in-Case
returns-in_ok-with_case-in-Case c =
    let a = c.args in
    let came : Part × Made = (part_of a.part, made_of a.made) in
    let last : Fragment = fragment_made (part_then (part_of a.part) no_parts, made_of a.made) in
    let room = room_is a.heads.items a.sites.items a.outlets.items a.made.bodies.items last c.as_slice.result.now c.as_slice-2.result.now c.len.result c.len-2.result true c.as_slice.ensures.value c.as_slice-2.ensures.value (omega arith) (omega arith) c.if-not-has_room.ensures in
    let q : Part × Made = (part_of c.in_ok-with_case-in-Case.field-0.0, made_of c.in_ok-with_case-in-Case.field-0.1) in
    ap (λ o. wrapped (outermost_of o) (blocks_of a.heads.items) (sites_of a.sites.items) (outlets_of a.outlets.items) came) c.in-Case.is
    ∙ wrapped_in (the_case c.in-Case.switch (case_of c.in-Case.case)) (blocks_of a.heads.items) (sites_of a.sites.items) (outlets_of a.outlets.items) came room c.in_ok-places.places.now (fragments_of c.in_ok-places.bodies.items) q
    c.in_ok-places.ensures.0 c.in_ok-places.ensures.1 c.in_ok-with_case-in-Case.ensures
