use Rattle.std.proofs.Common.{Some}
use Rattle.std.proofs.lemmas.Result.{on_ok_weaker}
use Rattle.ng_dom.specs.Document.{rooms, next_name}
use Rattle.ng_dom.proofs.Adding.{remains, part_apart, free_room, standing_below}
use Rattle.ng_dom.proofs.dom.Dom.make_part.Goals as goal

pub returns-clause-apart : goal.returns-clause-apart
returns-clause-apart c =
    let d = c.args.self.now in
    let k = next_name d in
    let free = free_room d.nodes d.next d.fresh in
    let above = standing_below d.nodes d.next c.args.parent.made.0 d.fresh c.requires in
    on_ok_weaker c.make.result
    (λ told. (λ p f h. remains (rooms d) _ k _ free told p f h, part_apart (rooms d) _ (Some c.args.parent.made.0) k c.args.part _ (c.content_of-content.ensures k) above told, c.make.ensures.top))
    c.make.ensures.rooms
