use Rattle.std.proofs.Common.{◌∙◌, ap, sym, map}
use Rattle.std.specs.Prelude.{slice_get}
use Rattle.ng_parse.specs.ProgramOf.{program}
use Rattle.ng_compose.specs.ComposedOf.{region_of, composed_of}
use Rattle.ng_drawing.specs.Composing.{alone, has_site}
use Rattle.ng_compose.proofs.ComposingTurns.{anchor_on, anchor_off}
use Rattle.ng_parts.specs.Seen.{part_of}
use Rattle.ng_compose.proofs.leaves.compose_anchor.Goals as goal

pub returns-in_ok-compose_outlet : goal.returns-in_ok-compose_outlet
returns-in_ok-compose_outlet c =
    let r = region_of c.args.region.now in
    let there = sym (c.has_site.ensures ∙ ap (λ ns. has_site c.args.own.now ns (slice_get r.source.outlets c.args.outlet)) c.as_slice.ensures.value) ∙ c.if-has_site.true in
    anchor_on r c.args.outlet c.args.own.now (map program c.args.starts.now) (composed_of c.args.made.now) (alone (part_of c.in_ok-compose_outlet.field-0), composed_of c.compose_outlet.new.made) there c.in_ok-compose_outlet.ensures

pub returns-else-has_site : goal.returns-else-has_site
returns-else-has_site c =
    let r = region_of c.args.region.now in
    let off = sym (c.has_site.ensures ∙ ap (λ ns. has_site c.args.own.now ns (slice_get r.source.outlets c.args.outlet)) c.as_slice.ensures.value) ∙ c.if-has_site.false in
    anchor_off r c.args.outlet c.args.own.now (map program c.args.starts.now) (composed_of c.args.made.now) off
