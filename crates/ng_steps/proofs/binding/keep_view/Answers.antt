use Rattle.std.proofs.Common.{◌∙◌}
use Rattle.ng_base.specs.ViewOf.{view_of}
use Rattle.ng_core.specs.Frames as cores
use Rattle.ng_core.specs.Keeping.{stores}
use Rattle.ng_changes.proofs.RisingPrograms.{stores-rises}
use Rattle.ng_changes.proofs.Wholes.{whole_acts}
use Rattle.ng_steps.proofs.binding.keep_view.Goals as goal

pub returns-clause-whole : goal.returns-clause-whole
returns-clause-whole c =
    let w = c.args.works.now in
    let v = view_of c.args.value.now in
    whole_acts view_of w c.keep.new.core c.keep.result (stores v (cores.state_of w.core)) c.requires.whole c.keep.ensures.run (stores-rises v (cores.state_of w.core)) c.keep.ensures.sound (c.keep.ensures.depth ∙ c.requires.whole.idle) c.keep.ensures.grown
