use Rattle.ng_tags.proofs.EventComplete.{lexed_complete}
use Rattle.ng_tags.proofs.laws.spelled_is_read.Goals as goal

pub returns : goal.returns
returns c = lexed_complete
