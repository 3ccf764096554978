use Rattle.ng_link.specs.State.{templates_of}
use Rattle.ng_link.proofs.works.Works.site_here.Goals as goal

pub returns : goal.returns
returns c = c.site_here.ensures (templates_of c.args.self.now)
