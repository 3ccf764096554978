use Rattle.std.proofs.Common.{◌<◌, ◌∙◌, length, map, subst, sym, ap}
use Rattle.std.proofs.lemmas.Result.{on_ok_weaker}
use Rattle.ng_core.specs.Frames as cores
use Rattle.ng_parse.specs.ProgramOf.{program}
use Rattle.ng_settling.proofs.Writes.{write_rises}
use Rattle.ng_changes.proofs.Wholes.{whole_ran}
use Rattle.ng_settling.proofs.Written.{written_ends, written_goes_on}
use Rattle.ng_settling.specs.Inputs.{write_run}
use Rattle.ng_link.specs.State.{state_of}
use Rattle.ng_settling.proofs.inputs.write_model.Goals as goal

pub follow-requires : goal.follow-requires
follow-requires c =
    let w = c.args.works.now in
    let s = cores.state_of w.core in
    let p = program c.args.p.now in
    let e = c.run_write-end.ensures in
    whole_ran w c.run_write-end.new.core c.run_write-end.result (write_run c.args.scope.0 p c.args.value s) c.requires.whole e.run (write_rises c.args.scope.0 p c.args.value s) e.sound e.idle e.grown

pub run_all-requires-clause-scope : goal.run_all-requires-clause-scope
run_all-requires-clause-scope c = subst (λ n. c.args.scope.0 < n) (sym (ap length c.in_ok-followed.ensures.scopes ∙ c.run_write-end.ensures.count)) c.requires.scope

pub returns-then-followed-clause-state : goal.returns-then-followed-clause-state
returns-then-followed-clause-state c =
    let w = c.args.works.now in
    let p = program c.args.p.now in
    let r = write_run c.args.scope.0 p c.args.value (cores.state_of w.core) in
    let done = c.in_ok-followed.ensures.state r c.run_write-end.ensures.run in
    written_ends r c.args.scope.0 (map program c.args.changes.now) (state_of w) (state_of c.follow.new.works) (sym done.1 ∙ c.if-followed.true) done.0

pub returns-clause-state : goal.returns-clause-state
returns-clause-state c =
    let w = c.args.works.now in
    let p = program c.args.p.now in
    let r = write_run c.args.scope.0 p c.args.value (cores.state_of w.core) in
    let done = c.in_ok-followed.ensures.state r c.run_write-end.ensures.run in
    on_ok_weaker c.run_all.result
    (λ rest. written_goes_on r c.args.scope.0 (map program c.args.changes.now) (state_of w) (state_of c.follow.new.works) (state_of c.run_all.new.works) (sym done.1 ∙ c.if-followed.false) done.0 rest)
    c.run_all.ensures.state

pub returns-clause-linked : goal.returns-clause-linked
returns-clause-linked c = on_ok_weaker c.run_all.result (λ more. more ∙ c.in_ok-followed.ensures.linked) c.run_all.ensures.linked
