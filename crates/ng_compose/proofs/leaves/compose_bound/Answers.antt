use Rattle.std.proofs.Common.{◌∙◌, Bool, ap, sym}
use Rattle.ng_drawing.specs.Template.{Contents, Parts, children, bound, no_parts}
use Rattle.ng_compose.specs.ComposedOf.{composed_of}
use Rattle.ng_drawing.specs.Moved.{moved_by}
use Rattle.ng_drawing.specs.Composing.{◌▸◌, gives, numbers}
use Rattle.ng_parts.specs.Seen.{contents_of}
use Rattle.ng_compose.proofs.ComposingTurns.{full_is, written_is}
use Rattle.ng_compose.proofs.leaves.compose_bound.Goals as goal

pub returns-then-write_node : goal.returns-then-write_node
returns-then-write_node c =
    let old = composed_of c.args.made.now in
    let mid = composed_of c.write_node.new.self in
    let on = ap (λ (b : Bool). (b, mid)) (sym c.if-write_node.true) ∙ c.write_node.ensures in
    let number = c.number.ensures ∙ ap (λ ns. moved_by ns c.args.n) c.as_slice.ensures.value in
    written_is (children no_parts) (numbers ▸ λ f. gives (bound (f c.args.n))) old mid (contents_of c.bound.result, mid) on (ap (λ (k : Contents). (k, mid)) (c.bound.ensures ∙ ap bound number))

pub returns-else-write_node : goal.returns-else-write_node
returns-else-write_node c =
    let old = composed_of c.args.made.now in
    let mid = composed_of c.write_node.new.self in
    ap (λ (k : Contents). (k, mid)) (c.children.ensures ∙ ap (λ (ps : Parts). children ps) c.new.ensures)
    ∙ full_is (children no_parts) (numbers ▸ λ f. gives (bound (f c.args.n))) old mid (ap (λ (b : Bool). (b, mid)) (sym c.if-write_node.false) ∙ c.write_node.ensures)
