use Rattle.std.proofs.Common.{◌≡◌, Option, None, Some, sym}
use Rattle.std.proofs.lemmas.Result.{on_ok_weaker}
use Rattle.ng_dom.specs.Document.{rooms, next_name, IsParent, IsElement}
use Rattle.ng_base.specs.declared.name.NodeId.{NodeId}
use Rattle.ng_dom.specs.declared.dom.Dom.{Dom}
use Rattle.ng_dom.proofs.Adding.{remains, part_reads, part_at_top, names_placed, free_room, standing_below, element_lives}
use Rattle.ng_dom.proofs.dom.Dom.add_part.Goals as goal

parent_element : (d : Dom) (o : Option NodeId) (p : NodeId) → o ≡ Some p → IsParent d o → IsElement d p.made.0
parent_element d None p e h = absurd (cc)
parent_element d (Some q) p e h = let one : q ≡ p = cc in rw (sym one) h

pub returns-in-None-clause-placed : goal.returns-in-None-clause-placed
returns-in-None-clause-placed c =
    let d = c.args.self.now in
    let k = next_name d in
    let free = free_room d.nodes d.next d.fresh in
    rw c.in-None.is
    (on_ok_weaker c.put_top.result
    (λ told. (
      λ p f h. remains (rooms d) _ k _ free told.0 p f h,
      λ f h. (names_placed c.args.at k c.args.part _ _ f h.0 told.1, part_at_top (rooms d) _ c.args.at k c.args.part _ (c.content_of-content.ensures k) free told.0 f h.1),
    ))
    c.put_top.ensures.placed)

pub returns-in-Some-clause-placed : goal.returns-in-Some-clause-placed
returns-in-Some-clause-placed c =
    let d = c.args.self.now in
    let k = next_name d in
    let free = free_room d.nodes d.next d.fresh in
    let above = standing_below d.nodes d.next c.in-Some.p.made.0 d.fresh (element_lives d.nodes c.in-Some.p.made.0 (parent_element d c.args.parent c.in-Some.p c.in-Some.is c.requires)) in
    rw c.in-Some.is
    (on_ok_weaker c.put_under.result
    (λ told. (λ o f h. part_reads (rooms d) _ c.in-Some.p.made.0 c.args.at k c.args.part _ (c.content_of-content.ensures k) free above told o f h, c.put_under.ensures.top))
    c.put_under.ensures.rooms)
