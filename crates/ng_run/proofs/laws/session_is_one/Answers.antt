use Rattle.ng_run.proofs.Sessions.{session_one}
use Rattle.ng_run.proofs.laws.session_is_one.Goals as goal

pub returns : goal.returns
returns c = session_one
