use Rattle.std.proofs.Common.{◌≡◌, [], take}
use Rattle.ng_chain.specs.Slots.{standing, serials}
use Rattle.ng_chain.proofs.slots.hollow.Given as goal

abbrev pub invariant-loop-i : goal.invariant-loop-i
invariant-loop-i g l = record {
  emptied : standing (take l.i l.slots.items) ≡ [];
  same : serials l.slots.items ≡ serials l.initial.slots.items;
}
