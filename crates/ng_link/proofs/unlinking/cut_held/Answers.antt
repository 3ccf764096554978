use Rattle.std.proofs.Common.{◌≡◌, ◌∙◌, Some, None, slice_get, sym, ap, refl}
use Rattle.std.specs.Prelude.{option_map, option_and_then}
use Rattle.ng_instances.specs.Instances.{Linked}
use Rattle.ng_instances.specs.InstanceOf.{instances_of, linked_of, spot_in}
use Rattle.ng_link.specs.Unlinking.{body_cut}
use Rattle.ng_link.proofs.HeldCut.{set_changed, none_changed, set_spots}
use Rattle.ng_instances.proofs.Places.{linked_seen}
use Rattle.ng_link.proofs.unlinking.cut_held.Goals as goal

pub returns-in-None-clause-instances : goal.returns-in-None-clause-instances
returns-in-None-clause-instances c = λ all.
    ap (λ m. instances_of all m.entries) c.get_mut.follows.holds-at-none
    ∙ none_changed all c.args.holder.now (body_cut c.args.o c.args.i) c.args.instances.now.entries (sym (c.in-None.ensures).value)

pub returns-in-None-clause-anchor : goal.returns-in-None-clause-anchor
returns-in-None-clause-anchor c = λ all x at.
    let seen = linked_seen all c.args.holder.now c.args.instances.now.entries ∙ ap (option_map (linked_of all c.args.holder.now)) (sym (c.in-None.ensures).value) in
    let none : None ≡ Some x = sym (ap (option_and_then (λ (l : Linked). slice_get l.page.outlets c.args.o)) seen) ∙ at in
    absurd (cc)

pub returns-in-Some-clause-instances : goal.returns-in-Some-clause-instances
returns-in-Some-clause-instances c = λ all.
    let one = c.in-Some.one.now in
    ap (instances_of all) (c.get_mut.follows.holds (record one { outlets = c.cut_outlet.new.outlets })).0
    ∙ set_changed all c.args.holder.now (body_cut c.args.o c.args.i) one c.cut_outlet.new.outlets c.cut_outlet.ensures.outlets c.args.instances.now.entries (sym (c.in-Some.ensures).value)

pub returns-in-Some-clause-spots : goal.returns-in-Some-clause-spots
returns-in-Some-clause-spots c = λ inner k.
    let one = c.in-Some.one.now in
    let new = record one { outlets = c.cut_outlet.new.outlets } in
    ap (λ es. spot_in inner es k) (c.get_mut.follows.holds new).0 ∙ set_spots inner c.args.holder.now one new c.args.instances.now.entries (sym (c.in-Some.ensures).value) refl k

pub returns-in-Some-clause-anchor : goal.returns-in-Some-clause-anchor
returns-in-Some-clause-anchor c = λ all x at.
    let one = c.in-Some.one.now in
    c.cut_outlet.ensures.anchor x
    (sym (ap (option_and_then (λ (l : Linked). slice_get l.page.outlets c.args.o)) (linked_seen all c.args.holder.now c.args.instances.now.entries ∙ ap (option_map (linked_of all c.args.holder.now)) (sym (c.in-Some.ensures).value))) ∙ at)
