use Rattle.std.proofs.Common.{◌∙◌, Bool, ap, sym}
use Rattle.std.specs.Prelude.{List, ℕ}
use Rattle.ng_drawing.specs.Template.{comment_part, no_parts}
use Rattle.ng_compose.specs.ComposedOf.{composed_of}
use Rattle.ng_drawing.specs.Composing.{gives, alone}
use Rattle.ng_parts.specs.Seen.{part_of}
use Rattle.ng_compose.proofs.ComposingTurns.{full_is, written_is}
use Rattle.ng_compose.proofs.leaves.write_comment.Goals as goal

pub returns-in_ok-copied : goal.returns-in_ok-copied
returns-in_ok-copied c =
    let old = composed_of c.args.made.now in
    let mid = composed_of c.write_node.new.self in
    let on = ap (λ (b : Bool). (b, mid)) (sym c.if-write_node.true) ∙ c.write_node.ensures in
    let part = c.comment.ensures ∙ ap (λ (t : List ℕ). comment_part t) c.in_ok-copied.ensures in
    written_is no_parts (gives (alone (comment_part c.args.words.now))) old mid (alone (part_of c.comment.result), mid) on (ap (λ p. (alone p, mid)) part)

pub returns-else-write_node : goal.returns-else-write_node
returns-else-write_node c =
    let old = composed_of c.args.made.now in
    let mid = composed_of c.write_node.new.self in
    full_is no_parts (gives (alone (comment_part c.args.words.now))) old mid (ap (λ (b : Bool). (b, mid)) (sym c.if-write_node.false) ∙ c.write_node.ensures)
