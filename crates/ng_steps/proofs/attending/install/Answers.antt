use Rattle.std.proofs.Common.{◌∙◌, List, ap, map}
use Rattle.ng_core.proofs.MoreScopes.{ok_and}
use Rattle.ng_core.specs.Frames as cores
use Rattle.ng_core.specs.State as act
use Rattle.ng_changes.proofs.Answered.{ok_then}
use Rattle.ng_steps.proofs.SetRuns.{installs_rises}
use Rattle.ng_changes.proofs.Wholes.{whole_left}
use Rattle.ng_steps.specs.Attending.{installs_all}
use Rattle.ng_link.specs.Calls.{with_core}
use Rattle.ng_link.specs.State.{state_of}
use Rattle.ng_parts.specs.Directing.{Function}
use Rattle.ng_parts.specs.ProgramsOf.{function_of}
use Rattle.ng_steps.proofs.attending.install.Goals as goal

pub returns-clause-state : goal.returns-clause-state
returns-clause-state c =
    let s = state_of c.args.works.now in
    ok_then c.install_all.result c.install_all.ensures.run
    (λ run. ap (λ (k : act.State). with_core k s) (run ∙ ap (λ (fs : List Function). installs_all c.args.scope.0 fs s.core) c.in_ok-functions.ensures))

pub returns-clause-whole : goal.returns-clause-whole
returns-clause-whole c =
    let w = c.args.works.now in
    let fs : List Function = map function_of c.in_ok-functions.functions.items in
    ok_and c.install_all.result c.install_all.ensures.run c.install_all.ensures.sound
    (λ run sound. whole_left w c.install_all.new.core (installs_all c.args.scope.0 fs (cores.state_of w.core)) c.requires.whole run (installs_rises c.args.scope.0 fs (cores.state_of w.core)) sound (c.install_all.ensures.depth ∙ c.requires.whole.idle) c.install_all.ensures.grown)
