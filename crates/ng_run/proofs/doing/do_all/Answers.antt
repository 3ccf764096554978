use Rattle.std.proofs.Common.{◌+◌, ap, sym, ◌∙◌, subst, map, take, Err}
use Rattle.ng_inputs.specs.Acts.{AreSound}
use Rattle.ng_script.specs.Acts.{entry_of}
use Rattle.ng_run.specs.Doing.{DidAll, HasDone}
use Rattle.ng_run.proofs.Listing.{sound_at, done_more, halted}
use Rattle.ng_run.proofs.doing.do_all.Goals as goal

pub do_one-requires-clause-sound : goal.do_one-requires-clause-sound
do_one-requires-clause-sound g c =
    sound_at c.as_slice-list.result.now c.loop-command.command-index c.command-item.result c.loop-command-test.true c.command-item.is (subst AreSound (sym c.as_slice-list.ensures) c.requires.sound)

pub returns-in-Err-clause-did : goal.returns-in-Err-clause-did
returns-in-Err-clause-did g c left leaves =
    let before = c.loop-command.invariant in
    let k = c.loop-command.command-index in
    let cs = c.as_slice-list.result.now in
    subst (λ es. DidAll g.K.Sink.taken g.K.Sink.faults c.args.sink.now c.do_one.new.sink c.args.flags.trace es left c.do_one.new.page (Err c.in-Err.halt)) c.as_slice-list.ensures
    (halted cs k c.command-item.result c.loop-command-test.true c.command-item.is g.K.Sink.taken g.K.Sink.faults c.args.flags.trace c.args.sink.now c.loop-command.sink c.do_one.new.sink left c.loop-command.page c.do_one.new.page c.loop-command.well
    (c.loop-command.number + 1) (ap (λ n. n + 1) before.number) (before.done left leaves) before.faults c.in-Err.halt c.in-Err.ensures.did)

pub loop-command-preserved : goal.loop-command-preserved
loop-command-preserved g c =
    let before = c.loop-command.invariant in
    let k = c.loop-command.command-index in
    let cs = c.as_slice-list.result.now in
    record {
      number = ap (λ n. n + 1) before.number;
      ready = c.in-Ok.ensures.did.5.ready;
      faults = c.in-Ok.ensures.faults ∙ before.faults;
      done = λ left leaves. subst (λ b. HasDone g.K.Sink.taken c.args.sink.now c.do_one.new.sink c.args.flags.trace (take (k + 1) (map entry_of cs)) left c.do_one.new.page b) (sym c.both-well.ensures)
          (done_more cs k c.command-item.result c.loop-command-test.true c.command-item.is g.K.Sink.taken g.K.Sink.faults c.args.flags.trace c.args.sink.now c.loop-command.sink c.do_one.new.sink left c.loop-command.page c.do_one.new.page c.loop-command.well
          (c.loop-command.number + 1) (ap (λ n. n + 1) before.number) (before.done left leaves) c.in-Ok.one c.in-Ok.ensures.did);
    }
