use Rattle.std.proofs.Common.{None}
use Rattle.std.proofs.lemmas.Result.{on_ok_weaker}
use Rattle.ng_dom.specs.Document.{rooms, next_name}
use Rattle.ng_dom.proofs.Adding.{remains, part_apart, free_room}
use Rattle.ng_dom.proofs.dom.Dom.make_top.Goals as goal

pub returns-clause-apart : goal.returns-clause-apart
returns-clause-apart c =
    let d = c.args.self.now in
    let k = next_name d in
    let free = free_room d.nodes d.next d.fresh in
    on_ok_weaker c.make.result
    (λ told. (λ p f h. remains (rooms d) _ k _ free told p f h, part_apart (rooms d) _ None k c.args.part _ (c.content_of-content.ensures k) tt told, c.make.ensures.top))
    c.make.ensures.rooms
