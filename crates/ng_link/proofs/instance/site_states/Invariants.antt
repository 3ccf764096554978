use Rattle.std.proofs.Common.{◌≡◌, ◌++◌, ℕ, map}
use Rattle.std.specs.Map.{keys_of as map_keys}
use Rattle.ng_drawing.specs.InstanceOf.{state_of as seen_state}
use Rattle.ng_instances.specs.Instances.{scope_number, key_in}
use Rattle.ng_instances.specs.Registering.{mark_in}
use Rattle.ng_instances.specs.InstanceOf.{page_of}
use Rattle.ng_link.specs.State.{site_state, state_of}
use Rattle.ng_link.proofs.instance.site_states.Given as goal

abbrev pub invariant-loop-serial : goal.invariant-loop-serial
invariant-loop-serial l =
    let p = page_of l.path l.one in
    let state = λ (n : ℕ). site_state (state_of l.works).watchers (state_of l.works).resting (state_of l.works).controls (scope_number p (mark_in p.marks n).over) (key_in p n) in
    map seen_state l.sites.items ++ map state l.serial-iterator ≡ map state (map_keys l.one.spots.entries)
