use Rattle.ng_laws.proofs.Opening.{digest_some, session_some}
use Rattle.ng_laws.proofs.sessions.files_have_a_session.Goals as goal

pub returns-clause-ends : goal.returns-clause-ends
returns-clause-ends c = digest_some

pub returns-clause-there : goal.returns-clause-there
returns-clause-there c = session_some
