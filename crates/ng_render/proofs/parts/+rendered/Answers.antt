use Rattle.std.proofs.Common.{◌≡◌, ◌+◌, arith, rules, ap, sym, ◌∙◌, map, drop}
use Rattle.ng_drawing.specs.Drawing.{followed_by, shown_as, render_part, render}
use Rattle.ng_drawing.specs.Nodes.{nodes}
use Rattle.ng_drawing.specs.Template.{anchor_part}
use Rattle.ng_html.specs.Seen.{forest_of}
use Rattle.ng_parse.specs.ProgramOf.{program}
use Rattle.ng_parts.specs.Seen.{part_of}
use Rattle.ng_render.specs.OverOf.{now_over, groups_over}
use Rattle.ng_render.proofs.Walks.{behind, render_list, parts_walk, walk_turn, walk_last, part_within}
use Rattle.ng_render.proofs.Bodies.{part_anchor}
use Rattle.ng_render.proofs.parts.+rendered.Goals as goal

pub rendered-rendered_part-requires : goal.rendered-rendered_part-requires
rendered-rendered_part-requires t c =
    let h = part_within part_of c.as_slice-part-items.result.now c.loop-part.part-index c.part-item.result c.loop-part-test.true c.part-item.is in
    let e = ap nodes c.as_slice-part-items.ensures in
    (omega (arith, h, e, c.decreases), c.requires)

pub rendered-returns : goal.rendered-returns
rendered-returns t c =
    let now = now_over c.args.over.now in
    let groups = groups_over c.args.over.now in
    ap (render now groups) (sym c.as_slice-part-items.ensures)
    ∙ (sym c.loop-part.invariant
    ∙ walk_last (render_part now groups) (render_list now groups) (parts_walk now groups) part_of c.as_slice-part-items.result.now c.loop-part.part-index (forest_of c.loop-part.forest) c.loop-part-test.false)

pub rendered-loop-part-preserved : goal.rendered-loop-part-preserved
rendered-loop-part-preserved t c =
    let now = now_over c.args.over.now in
    let groups = groups_over c.args.over.now in
    let shows : render_part now groups (part_of c.part-item.result) ≡ shown_as (forest_of c.in-Some.more) = search rules in
    ap (λ f. behind followed_by f (render_list now groups (map part_of (drop (c.loop-part.part-index + 1) c.as_slice-part-items.result.now)))) c.in_ok-append.ensures
    ∙ (walk_turn (render_part now groups) (render_list now groups) (parts_walk now groups) part_of c.as_slice-part-items.result.now c.loop-part.part-index c.part-item.result
    (forest_of c.loop-part.forest) (forest_of c.in-Some.more) (omega arith) c.part-item.is shows
    ∙ c.loop-part.invariant)

pub rendered_part-returns-in-Anchor : goal.rendered_part-returns-in-Anchor
rendered_part-returns-in-Anchor t c =
    let own = ap (λ ks. anchor_part c.in-Anchor.outlet ks (map program c.in-Anchor.starts.items)) c.as_slice-in-Anchor.ensures.value in
    let is : part_of c.args.part.now ≡ anchor_part c.in-Anchor.outlet c.as_slice-in-Anchor.result.now (map program c.in-Anchor.starts.items)
    = ap part_of c.in-Anchor.is ∙ (part_anchor c.in-Anchor.outlet c.in-Anchor.own c.in-Anchor.starts ∙ sym own) in
    rw is (c.anchor_now.ensures (map program c.in-Anchor.starts.items))
