-- The laws of events that are cited here.
use Rattle.std.proofs.Common.{◌≡◌, List, subst}
use Rattle.std.specs.Prelude.{Result}
use Rattle.ng_base.specs.Cells.{Cell}
use Rattle.ng_tags.specs.Doctypes.{AfterDoctype}
use Rattle.ng_tags.specs.Lexing.{after_doctype}
use Rattle.ng_tags.specs.declared.fault.HtmlFault.{HtmlFault}
use Rattle.ng_tags.proofs.DoctypeLaws.{doctype_sound}
pub use Rattle.ng_tags.proofs.EventLess.{lexed_less}
pub use Rattle.ng_tags.proofs.EventSound.{lexed_sound}
pub use Rattle.ng_tags.proofs.EventComplete.{lexed_complete, lexeme_some}
pub use Rattle.ng_tags.proofs.Refused.{refused_sound}
pub use Rattle.ng_tags.proofs.RefusedComplete.{refused_complete}
pub use Rattle.ng_tags.proofs.DoctypeLaws.{doctype_complete}

-- what stands behind a doctype
pub doctype_is : (cs : List Cell) (r : Result (List Cell) HtmlFault) → after_doctype cs ≡ r → AfterDoctype cs r
doctype_is cs r h = subst (AfterDoctype cs) h (doctype_sound cs)
