use Rattle.std.proofs.Common.{sym, subst, Some}
use Rattle.std.specs.Io.KnownBytes.{Appends}
use Rattle.ng_base.specs.Outside.{TookAll, StopsAtFailure}
use Rattle.ng_run.specs.Doing.{WritesPage}
use Rattle.ng_run.proofs.Writing.{none_put, all_put, stopped_at, wanted_at, ended_so}
use Rattle.ng_run.proofs.run.write_page.Goals as goal

pub returns-in-Err-clause-steps : goal.returns-in-Err-clause-steps
returns-in-Err-clause-steps g c left leaves =
    let taken = g.K.Sink.taken in
    let faults = g.K.Sink.faults in
    let old = c.args.sink.now in
    let new = c.put_all.new.sink in
    let part = subst (λ b. TookAll (taken old) (taken new) b) c.as_slice.ensures.value c.in-Err.ensures.part in
    let stops = subst (λ b. StopsAtFailure taken faults old new b) c.as_slice.ensures.value c.in-Err.ensures.stops in
    ended_so taken faults old new c.args.opened left c.ended.result.status 7 c.ended.result.page c.ended.ensures.status c.ended.ensures.page (none_put taken faults old new new c.args.opened left part stops)

pub returns-in-Ok-do_all-clause-steps : goal.returns-in-Ok-do_all-clause-steps
returns-in-Ok-do_all-clause-steps g c left leaves =
    let taken = g.K.Sink.taken in
    let old = c.args.sink.now in
    let mid = c.put_all.new.sink in
    let put = subst (λ b. Appends (taken old) (taken mid) b) c.as_slice.ensures.value c.in-Ok.ensures.all in
    subst (λ s. WritesPage taken g.K.Sink.faults old c.do_all.new.sink s (Some c.do_all.new.page) c.args.opened left) (sym c.steps_status.ensures)
    (all_put taken g.K.Sink.faults old mid c.do_all.new.sink c.args.opened left put c.in-Ok-do_all.well c.do_all.new.page (c.in-Ok-do_all.ensures.did left leaves))

pub returns-in-Err-Put-clause-steps : goal.returns-in-Err-Put-clause-steps
returns-in-Err-Put-clause-steps g c left leaves =
    let taken = g.K.Sink.taken in
    let faults = g.K.Sink.faults in
    let old = c.args.sink.now in
    let mid = c.put_all.new.sink in
    let new = c.do_all.new.sink in
    let put = subst (λ b. Appends (taken old) (taken mid) b) c.as_slice.ensures.value c.in-Ok.ensures.all in
    ended_so taken faults old new c.args.opened left c.ended-in-Err-Put.result.status 7 c.ended-in-Err-Put.result.page c.ended-in-Err-Put.ensures.status c.ended-in-Err-Put.ensures.page
    (stopped_at taken faults old mid new c.args.opened left put c.in-Err-Put.field-0 c.do_all.new.page c.in-Err-Put.field-0-is (c.in-Err-Put.ensures.did left leaves) c.in-Ok.ensures.no_fault)

pub returns-clause-steps : goal.returns-clause-steps
returns-clause-steps g c left leaves =
    let taken = g.K.Sink.taken in
    let faults = g.K.Sink.faults in
    let old = c.args.sink.now in
    let mid = c.put_all.new.sink in
    let new = c.do_all.new.sink in
    let put = subst (λ b. Appends (taken old) (taken mid) b) c.as_slice.ensures.value c.in-Ok.ensures.all in
    ended_so taken faults old new c.args.opened left c.ended-in-Err-Memory.result.status 8 c.ended-in-Err-Memory.result.page c.ended-in-Err-Memory.ensures.status c.ended-in-Err-Memory.ensures.page
    (wanted_at taken faults old mid new c.args.opened left put c.in-Err-Memory.field-0 c.do_all.new.page c.in-Err-Memory.field-0-is (c.in-Err-Memory.ensures.did left leaves))
