use Rattle.ng_page.proofs.Rendering.{settled_renders}
use Rattle.ng_page.proofs.laws.settled_page_shows_its_rendering.Goals as goal

pub returns : goal.returns
returns c = settled_renders
