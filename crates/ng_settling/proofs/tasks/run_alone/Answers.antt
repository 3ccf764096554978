use Rattle.std.proofs.Common.{List, [], subst}
use Rattle.ng_act.specs.Asked.{a_body}
use Rattle.ng_core.specs.Frames as cores
use Rattle.ng_core.specs.Frames.{Acts}
use Rattle.ng_act.specs.Running.{as_value_run, same}
use Rattle.ng_changes.proofs.Runs.{asked_rises}
use Rattle.ng_changes.proofs.Wholes.{whole_run}
use Rattle.ng_changes.specs.Runs.{asked_first}
use Rattle.ng_parse.specs.ProgramOf.{program}
use Rattle.ng_members.specs.Leaves.{Local}
use Rattle.ng_settling.proofs.tasks.run_alone.Goals as goal

pub follow-requires : goal.follow-requires
follow-requires c =
    let w = c.args.works.now in
    let a = a_body c.args.scope.0 [] (program c.args.p.now) in
    let e = c.run_first-end.ensures in
    let acts = subst (λ (ls : List Local). Acts same c.run_first-end.result (cores.state_of c.run_first-end.new.core) (as_value_run (asked_first (a_body c.args.scope.0 ls (program c.args.p.now)) (cores.state_of w.core)))) c.new.ensures e.run in
    whole_run w c.run_first-end.new.core c.run_first-end.result (asked_first a (cores.state_of w.core)) c.requires.whole acts (asked_rises a (cores.state_of w.core)) e.sound e.idle e.grown
