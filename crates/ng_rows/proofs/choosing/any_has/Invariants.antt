use Rattle.std.proofs.Common.{◌≡◌, drop, map}
use Rattle.std.specs.List.{list_any}
use Rattle.ng_blocks.specs.Switching.{matches}
use Rattle.ng_rows.specs.Chosen.{cases_due}
use Rattle.ng_instances.specs.Due.{due_of}
use Rattle.ng_rows.proofs.choosing.any_has.Given as goal

abbrev pub invariant-loop-due : goal.invariant-loop-due
invariant-loop-due l = list_any (matches l.value) (cases_due (map due_of (drop l.due-index l.all))) ≡ list_any (matches l.value) (cases_due (map due_of l.all))
