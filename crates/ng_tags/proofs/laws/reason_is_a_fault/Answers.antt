use Rattle.ng_tags.proofs.FaultyComplete.{faulty_complete}
use Rattle.ng_tags.proofs.laws.reason_is_a_fault.Goals as goal

pub returns : goal.returns
returns c = λ total x cs f h. let r = faulty_complete total x cs f h in (r.tag, r.rest, r.read, r.faulty)
