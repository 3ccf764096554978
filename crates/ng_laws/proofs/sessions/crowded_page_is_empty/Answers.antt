use Rattle.ng_laws.proofs.Crowded.{crowded}
use Rattle.ng_laws.proofs.sessions.crowded_page_is_empty.Goals as goal

pub returns : goal.returns
returns c = crowded
