use Rattle.std.proofs.Common.{◌≡◌, ◌∙◌, Bool, refl, ap, sym, subst, map}
use Rattle.std.specs.Prelude.{IfOk, option_map}
use Rattle.ng_drawing.specs.Template.{Parts, no_parts}
use Rattle.ng_parse.specs.ProgramOf.{program}
use Rattle.ng_compose.specs.ComposedOf.{region_of, composed_of, written_part}
use Rattle.ng_drawing.specs.Composing.{Composed, anchor_composed}
use Rattle.ng_parts.specs.Seen.{part_of}
use Rattle.ng_compose.proofs.ComposingTurns.{full_is, written_is}
use Rattle.ng_compose.proofs.leaves.write_anchor.Goals as goal

pub returns-then-write_node : goal.returns-then-write_node
returns-then-write_node c =
    let old = composed_of c.args.made.now in
    let mid = composed_of c.write_node.new.self in
    let on = ap (λ (b : Bool). (b, mid)) (sym c.if-write_node.true) ∙ c.write_node.ensures in
    let go = anchor_composed (region_of c.args.region.now) c.args.outlet c.args.own.now (map program c.args.starts.now) in
    subst (λ (x : Parts × Composed). IfOk c.compose_anchor.result (λ p. (written_part (option_map part_of p), composed_of c.compose_anchor.new.made) ≡ x)) (written_is no_parts go old mid (go mid) on refl) c.compose_anchor.ensures

pub returns-else-write_node : goal.returns-else-write_node
returns-else-write_node c =
    let old = composed_of c.args.made.now in
    let mid = composed_of c.write_node.new.self in
    full_is no_parts (anchor_composed (region_of c.args.region.now) c.args.outlet c.args.own.now (map program c.args.starts.now)) old mid (ap (λ (b : Bool). (b, mid)) (sym c.if-write_node.false) ∙ c.write_node.ensures)
