use Rattle.std.proofs.Common.{◌∙◌, ap, sym}
use Rattle.ng_core.specs.Frames as cores
use Rattle.ng_changes.specs.Changes.{changed}
use Rattle.ng_changes.specs.Runs.{destroyed}
use Rattle.ng_link.specs.Calls.{with_core}
use Rattle.ng_link.specs.State.{state_of}
use Rattle.ng_commands.specs.Commands.{destroys_scope}
use Rattle.ng_commands.proofs.Ran.{whole_stays, page_asked}
use Rattle.ng_commands.proofs.StepsStay.{destroyed_stays}
use Rattle.ng_commands.proofs.running.destroy_scope.Goals as goal

pub apply_changes-requires : goal.apply_changes-requires
apply_changes-requires c =
    let w = c.args.works.now in
    let s = cores.state_of w.core in
    whole_stays w c.destroy_first.new.core (destroyed c.args.scope.0 s) (sym c.in_ok-destroy_first.ensures.run) (destroyed_stays c.args.scope.0 s)
    c.destroy_first.ensures.sound c.destroy_first.ensures.idle c.destroy_first.ensures.count c.destroy_first.ensures.grown c.requires.page.works.whole

pub returns-clause-page : goal.returns-clause-page
returns-clause-page c =
    let w = c.args.works.now in
    page_asked (destroys_scope c.args.scope.0) w c.apply_changes.new.works (c.in_ok-apply_changes.ensures.state ∙ ap (λ x. changed (with_core x (state_of w))) c.in_ok-destroy_first.ensures.run)
    c.in_ok-apply_changes.ensures.whole c.apply_changes.ensures.templates c.requires.page
