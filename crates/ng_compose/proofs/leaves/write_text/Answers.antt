use Rattle.std.proofs.Common.{◌∙◌, Bool, ap, sym}
use Rattle.ng_drawing.specs.Template.{no_parts}
use Rattle.ng_compose.specs.ComposedOf.{region_of, composed_of}
use Rattle.ng_drawing.specs.Composing.{alone, text_composed}
use Rattle.ng_parts.specs.Seen.{part_of}
use Rattle.ng_compose.proofs.ComposingTurns.{full_is, written_is}
use Rattle.ng_compose.proofs.leaves.write_text.Goals as goal

pub returns-in_ok-compose_text : goal.returns-in_ok-compose_text
returns-in_ok-compose_text c =
    let old = composed_of c.args.made.now in
    let mid = composed_of c.write_node.new.self in
    let on = ap (λ (b : Bool). (b, mid)) (sym c.if-write_node.true) ∙ c.write_node.ensures in
    written_is no_parts (text_composed (region_of c.args.region.now) c.args.pieces.now) old mid (alone (part_of c.in_ok-compose_text.field-0), composed_of c.compose_text.new.made) on c.in_ok-compose_text.ensures

pub returns-else-write_node : goal.returns-else-write_node
returns-else-write_node c =
    let old = composed_of c.args.made.now in
    let mid = composed_of c.write_node.new.self in
    full_is no_parts (text_composed (region_of c.args.region.now) c.args.pieces.now) old mid (ap (λ (b : Bool). (b, mid)) (sym c.if-write_node.false) ∙ c.write_node.ensures)
