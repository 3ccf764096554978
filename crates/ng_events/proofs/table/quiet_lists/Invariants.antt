use Rattle.std.proofs.Common.{◌≡◌}
use Rattle.std.specs.BTreeMap.{values}
use Rattle.ng_events.specs.Stands.{empty_at}
use Rattle.ng_events.specs.Sound.{AreThere, HaveHomes}
use Rattle.ng_events.proofs.table.quiet_lists.Given as goal

abbrev pub invariant-loop-list : goal.invariant-loop-list
invariant-loop-list l = record {
  rest : empty_at l.list-iterator l.stands.items ≡ empty_at (values l.places) l.initial.stands.items;
  there : AreThere l.stands.items l.homes;
  known : HaveHomes l.stands.items l.homes;
}
