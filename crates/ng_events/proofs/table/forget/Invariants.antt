use Rattle.std.proofs.Common.{◌≡◌, ℕ, cond, None, drop}
use Rattle.std.specs.BTreeMap.{get}
use Rattle.std.specs.Ordering.{nat_cmp}
use Rattle.ng_chain.specs.Slots.{standing}
use Rattle.ng_events.specs.Stands.{is_named}
use Rattle.ng_events.proofs.table.forget.Given as goal

abbrev pub invariant-loop-slot : goal.invariant-loop-slot
invariant-loop-slot l =
    (q : ℕ) → cond (is_named q (standing (drop l.slot-index l.slots))) None (get nat_cmp l.homes q) ≡ cond (is_named q (standing l.slots)) None (get nat_cmp l.initial.homes q)
