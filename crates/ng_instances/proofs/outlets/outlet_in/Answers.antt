use Rattle.std.proofs.Common.{ap, sym, ◌∙◌, map, slice_get}
use Rattle.std.specs.Option.{option_copied}
use Rattle.std.specs.Prelude.{option_map}
use Rattle.ng_instances.specs.PlaceOf.{outlet_of_linked}
use Rattle.ng_instances.specs.InstanceOf.{outlet_of, linked_of}
use Rattle.ng_build.proofs.Loops.{place_seen}
use Rattle.ng_instances.proofs.Places.{linked_seen}
use Rattle.ng_instances.proofs.outlets.outlet_in.Goals as goal

pub returns-in-None : goal.returns-in-None
returns-in-None c = λ all.
    let h = c.args.holder.now in
    sym (ap (outlet_of_linked c.args.outlet) (linked_seen all h c.args.instances.now.entries ∙ ap (option_map (linked_of all h)) (sym c.get.ensures.value ∙ ap option_copied c.in-None.is)))

pub returns-in-Some : goal.returns-in-Some
returns-in-Some c = λ all.
    let h = c.args.holder.now in
    let found = c.get-in-Some.ensures.lookup in
    place_seen outlet_of c.deref.result.now c.args.outlet c.get-in-Some.result found.0 found.1
    ∙ (ap (λ os. slice_get (map outlet_of os) c.args.outlet) c.deref.ensures.value
    ∙ sym (ap (outlet_of_linked c.args.outlet) (linked_seen all h c.args.instances.now.entries ∙ ap (option_map (linked_of all h)) (sym c.get.ensures.value ∙ ap option_copied c.in-Some.is))))
