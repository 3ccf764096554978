use Rattle.std.proofs.Common.{◌≡◌, ◌∙◌, Some, None, sym, ap}
use Rattle.std.specs.Prelude.{option_map}
use Rattle.ng_instances.specs.Instances.{Linked}
use Rattle.ng_instances.specs.InstanceOf.{linked_of}
use Rattle.ng_link.proofs.HeldCut.{held_match}
use Rattle.ng_instances.proofs.Places.{linked_seen}
use Rattle.ng_link.proofs.unlinking.held_at.Goals as goal

pub returns-in-None : goal.returns-in-None
returns-in-None c = λ all holds.
    let seen = linked_seen all c.args.holder.now c.args.instances.now.entries ∙ ap (option_map (linked_of all c.args.holder.now)) (sym c.in-None.ensures.value) in
    let none : None ≡ Some holds.0 = sym seen ∙ holds.1 in
    cc

pub returns-in-Some : goal.returns-in-Some
returns-in-Some c = λ all holds.
    let one = c.in-Some.one.now in
    let seen = linked_seen all c.args.holder.now c.args.instances.now.entries ∙ ap (option_map (linked_of all c.args.holder.now)) (sym c.in-Some.ensures.value) in
    let two : Some (linked_of all c.args.holder.now one) ≡ Some holds.0 = sym seen ∙ holds.1 in
    let same : linked_of all c.args.holder.now one ≡ holds.0 = cc in
    held_match c.args.p.now c.as_slice.result.now one.outlets.items holds.0.page.outlets c.find_body.result c.as_slice.ensures.value (ap (λ (l : Linked). l.page.outlets) same) holds.2 c.find_body.ensures
