use Rattle.ng_link.proofs.Displayed.{page_names}
use Rattle.ng_link.proofs.laws.page_has_its_names.Goals as goal

pub returns : goal.returns
returns c = page_names
