use Rattle.std.proofs.Common.{◌∙◌}
use Rattle.ng_dom.specs.Drawing.{shows}
use Rattle.ng_link.specs.State.{state_of, looks_in}
use Rattle.ng_link.proofs.Displayed.{names_live}
use Rattle.ng_link.proofs.works.Works.live_nodes.Goals as goal

pub returns : goal.returns
returns c =
    let w = c.args.self.now in
    c.live.ensures.counts (shows (looks_in (state_of w)) c.requires.stands.0) c.requires.stands.1.built.holds ∙ names_live w c.requires.stands.0 c.requires.stands.1
