use Rattle.ng_html.proofs.Back.{prints_back}
use Rattle.ng_html.proofs.writing.prints_back.Goals as goal

pub returns : goal.returns
returns c = prints_back
