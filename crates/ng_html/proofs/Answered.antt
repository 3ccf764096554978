-- What an answer says, where it is the one of the reading.
use Rattle.std.proofs.Common.{ℕ, List, ◌∙◌, sym}
use Rattle.std.specs.Prelude.{Result, Ok, Err}
use Rattle.ng_base.specs.Meets.{Gives}
use Rattle.ng_tags.specs.declared.fault.HtmlFault.{HtmlFault}
use Rattle.ng_html.specs.Free.{is_free}
use Rattle.ng_html.specs.Laws.{Found, Only, Refused, OneRefusal}
use Rattle.ng_html.specs.Reading.{read_bytes}
use Rattle.ng_html.specs.Seen.{forest_of}
use Rattle.ng_html.specs.TreeSeen.{source_of}
use Rattle.ng_html.specs.declared.source.Source.{Source}
use Rattle.ng_html.proofs.Whole.{html_of, html_read}
use Rattle.ng_html.proofs.Refused.{refuses}
use Rattle.ng_html.proofs.OneRefusal.{refused_read}

found : (bs : List ℕ) (r : Result Source HtmlFault) → Gives is_free source_of (read_bytes bs) r → Found bs r
found bs (Ok s) g = html_of bs (forest_of s.forest) s.places g
found bs (Err e) g = tt

only : (bs : List ℕ) (r : Result Source HtmlFault) → Gives is_free source_of (read_bytes bs) r → Only bs r
only bs (Ok s) g f ps h = sym (html_read bs f ps h) ∙ g
only bs (Err e) g f ps h = λ n. sym (html_read bs f ps h) ∙ g n

refused : (bs : List ℕ) (r : Result Source HtmlFault) → Gives is_free source_of (read_bytes bs) r → Refused bs r
refused bs (Ok s) g = tt
refused bs (Err e) g = λ n. refuses bs e (g n)

one : (bs : List ℕ) (r : Result Source HtmlFault) → Gives is_free source_of (read_bytes bs) r → OneRefusal bs r
one bs (Ok s) g f h = sym (refused_read bs f h) ∙ g
one bs (Err e) g f h = λ n. sym (refused_read bs f h) ∙ g n

-- all that is said of an answer
pub record IsAnswer (bs : List ℕ) (r : Result Source HtmlFault) : Type 0 where
  pub found : Found bs r
  pub only : Only bs r
  pub refused : Refused bs r
  pub one : OneRefusal bs r
  pub exact : Gives is_free source_of (read_bytes bs) r

pub answered : (bs : List ℕ) (r : Result Source HtmlFault) → Gives is_free source_of (read_bytes bs) r → IsAnswer bs r
answered bs r g = record { found = found bs r g; only = only bs r g; refused = refused bs r g; one = one bs r g; exact = g }
