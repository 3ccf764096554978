use Rattle.std.proofs.Common.{subst}
use Rattle.ng_tags.specs.Doctypes.{AfterDoctype}
use Rattle.ng_tags.proofs.DoctypeLaws.{doctype_sound, doctype_complete}
use Rattle.ng_tags.proofs.laws.doctype_is_passed.Goals as goal

pub returns : goal.returns
returns c = λ cs r. (λ e. subst (AfterDoctype cs) e (doctype_sound cs), doctype_complete cs r)
