use Rattle.std.proofs.Common.{subst}
use Rattle.ng_base.specs.Outside.{TookAll, StopsAtFailure}
use Rattle.ng_script.specs.Acts.{entry_of}
use Rattle.ng_run.proofs.Putting.{one_stopped}
use Rattle.ng_run.proofs.doing.do_one.Goals as goal

pub returns-clause-did : goal.returns-clause-did
returns-clause-did g c =
    let taken = g.K.Sink.taken in
    let faults = g.K.Sink.faults in
    let old = c.args.sink.now in
    let new = c.put_all.new.sink in
    let part = subst (λ b. TookAll (taken old) (taken new) b) c.as_slice.ensures.value c.in-Err-put_all.ensures.part in
    let stops = subst (λ b. StopsAtFailure taken faults old new b) c.as_slice.ensures.value c.in-Err-put_all.ensures.stops in
    one_stopped taken faults old new c.args.flags.trace c.args.number (entry_of c.args.command.now) c.args.page.now c.do_command.new.page c.in-Ok.lines c.in-Ok.ensures part stops
