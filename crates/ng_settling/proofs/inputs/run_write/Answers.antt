use Rattle.std.proofs.Common.{◌-◌, length, subst, sym}
use Rattle.ng_core.specs.Frames as cores
use Rattle.ng_core.specs.Frames.{Acts}
use Rattle.ng_act.specs.Running.{act_run, same}
use Rattle.ng_core.specs.State.{with_locals}
use Rattle.ng_parse.specs.ProgramOf.{program}
use Rattle.ng_members.specs.Leaves.{LocalsStand}
use Rattle.ng_settling.proofs.Writes.{write_acts}
use Rattle.ng_settling.proofs.inputs.run_write.Goals as goal

pub act-requires-clause-locals : goal.act-requires-clause-locals
act-requires-clause-locals c = subst (LocalsStand (length c.args.core.now.store)) (sym c.in_ok-locals.ensures) (c.requires.value, tt)

pub returns-clause-run : goal.returns-clause-run
returns-clause-run c =
    let s = cores.state_of c.args.core.now in
    let n = cores.state_of c.act.new.core in
    write_acts c.act.result n s c.act.new.locals c.args.core.now.depth c.args.scope.0 (program c.args.p.now) c.args.value c.requires.idle c.act.ensures.outer
    (subst (λ ls. Acts same c.act.result (with_locals c.act.new.locals n) (act_run (64 - c.args.core.now.depth) c.args.scope.0 ls (program c.args.p.now) s)) c.in_ok-locals.ensures c.act.ensures.run)
