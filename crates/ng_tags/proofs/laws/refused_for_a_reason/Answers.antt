use Rattle.ng_tags.proofs.Refused.{refused_sound}
use Rattle.ng_tags.proofs.RefusedComplete.{refused_complete}
use Rattle.ng_tags.proofs.laws.refused_for_a_reason.Goals as goal

pub returns : goal.returns
returns c = λ total x cs f. (refused_sound total x cs f, refused_complete total x cs f)
