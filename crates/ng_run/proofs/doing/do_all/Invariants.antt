use Rattle.std.proofs.Common.{◌≡◌, map, take}
use Rattle.ng_run.specs.Doing.{HasDone}
use Rattle.ng_page.specs.Ready.{IsReady}
use Rattle.ng_run.specs.ReplyOf.{LeavesPage}
use Rattle.ng_printing.specs.Left.{Left}
use Rattle.ng_script.specs.Acts.{entry_of}
use Rattle.ng_run.proofs.doing.do_all.Given as goal

abbrev pub invariant-loop-command : goal.invariant-loop-command
invariant-loop-command g l = record {
  number : l.number ≡ l.command-index;
  ready : IsReady l.page;
  faults : g.K.Sink.faults l.sink ≡ g.K.Sink.faults l.initial.sink;
  done : (left : Left) → LeavesPage l.initial.page left → HasDone g.K.Sink.taken l.initial.sink l.sink l.flags.trace (take l.command-index (map entry_of l.list)) left l.page l.well;
}
