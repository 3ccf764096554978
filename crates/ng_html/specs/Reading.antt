-- Reading a document from the left: the forest and the places of its nodes, or the first refusal.
use Rattle.std.specs.Prelude.{Bool, false, ℕ, zero, suc, ◌==◌, ◌&&◌, List, [], ◌∷◌, ◌++◌, length, take, Result, Ok, Err, if◌then◌else◌}
use Rattle.std.specs.Str.{chars, is_utf8}
use Rattle.std.specs.Str.Lossy.{utf8_valid_len}
use Rattle.ng_base.specs.Meets.{◌>>=◌}
use Rattle.ng_base.specs.Cells.{Cell, cells}
use Rattle.ng_markup.specs.Forest.{Forest}
use Rattle.ng_tags.specs.Free.{fault}
use Rattle.ng_tags.specs.Lexing.{event_at, after_doctype}
use Rattle.ng_tags.specs.declared.event.Event.{Event}
use Rattle.ng_tags.specs.declared.event.Event.TheVariants as event
use Rattle.ng_tags.specs.declared.fault.HtmlFault.{HtmlFault}
use Rattle.ng_tags.specs.declared.fault.HtmlKind.TheVariants as kind
use Rattle.ng_html.specs.Building.{State, take_event, finished, empty}

-- the places of the nodes that begin with an event
abbrev pub begin : Event → List ℕ
begin (event.Start t) = t.place ∷ []
begin (event.Raw t [] q) = t.place ∷ []
begin (event.Raw t (c ∷ cs) q) = t.place ∷ q ∷ []
begin (event.End n p) = []
begin (event.Text t p) = p ∷ []
begin (event.Comment t p) = p ∷ []

-- one event after another, of so many at the most
abbrev pub reads : ℕ → ℕ → State → List ℕ → List Cell → Result (Forest × List ℕ) HtmlFault
reads total zero s ps cs = Err (fault kind.Unclosed total)
reads total (suc k) s ps [] = finished total s >>= λ f. Ok (f, ps)
reads total (suc k) s ps (c ∷ cs) = event_at total c cs >>= λ r. take_event s r.0 >>= λ t. reads total k t (ps ++ begin r.0) r.1

-- with room for all that is left
abbrev pub read_on : ℕ → State → List ℕ → List Cell → Result (Forest × List ℕ) HtmlFault
read_on total s ps cs = reads total (suc (length cs)) s ps cs

-- what stands behind a doctype
abbrev pub read_cells : ℕ → List Cell → Result (Forest × List ℕ) HtmlFault
read_cells total cs = after_doctype cs >>= λ rest. read_on total empty [] rest

-- how many bytes stand before the first zero byte
abbrev pub before_zero : List ℕ → ℕ
before_zero [] = 0
before_zero (b ∷ bs) = if b == 0 then 0 else suc (before_zero bs)

-- how many bytes stand before the first zero byte and the first ill-formed sequence
abbrev pub sound_len : List ℕ → ℕ
sound_len bytes = before_zero (take (utf8_valid_len bytes) bytes)

-- the characters of a text as they read, with their places
abbrev pub cells_of : List ℕ → List Cell
cells_of bytes = cells (length bytes) false (chars bytes)

-- UTF-8 without a zero byte
abbrev pub is_plain_text : List ℕ → Bool
is_plain_text bytes = is_utf8 bytes && before_zero bytes == length bytes

-- the forest and the places of a document
unfoldable pub read_bytes : List ℕ → Result (Forest × List ℕ) HtmlFault
read_bytes bytes = if is_plain_text bytes then read_cells (length bytes) (cells_of bytes) else Err (fault kind.Utf8 (sound_len bytes))
