-- What is refused, and where: all before is read, and what stands at the place cannot be.
use Rattle.std.specs.Prelude.{◌≡◌, ◌≤◌, ◌<◌, ◌⊎◌, ⊤, Bool, true, false, not, ◌&&◌, ℕ, List, [], ◌∷◌, ◌++◌, length, Some, Ok, Err, if◌then◌else◌}
use Rattle.ng_base.specs.Cells.{Cell}
use Rattle.ng_markup.specs.Tables.{is_void, is_omittable}
use Rattle.ng_markup.specs.Forest.{Forest}
use Rattle.ng_tags.specs.Free.{fault}
use Rattle.ng_tags.specs.Lexing.{event_at}
use Rattle.ng_tags.specs.Doctypes.{AfterDoctype}
use Rattle.ng_tags.specs.Refusals.{Refused}
use Rattle.ng_tags.specs.Spelling.{Lexeme}
use Rattle.ng_tags.specs.declared.event.Event.{Event}
use Rattle.ng_tags.specs.declared.event.Event.TheVariants as event
use Rattle.ng_tags.specs.declared.event.Tag.{Tag}
use Rattle.ng_tags.specs.declared.fault.HtmlFault.{HtmlFault}
use Rattle.ng_tags.specs.declared.fault.HtmlKind.TheVariants as kind
use Rattle.ng_html.specs.Closing.{is_closing}
use Rattle.ng_html.specs.Building.{Around, open_limit}
use Rattle.ng_html.specs.Reading.{cells_of, sound_len}
use Rattle.ng_html.specs.Grammar.{IsPlainText}
use Rattle.ng_html.specs.Standing.{Stands}

-- the cells us spell the events, where ws stands behind them
abbrev pub WrittenBefore : List Event → List Cell → List Cell → Type 0
WrittenBefore [] us ws = us ≡ []
WrittenBefore (e ∷ es) us ws = (xs : List Cell) × (ys : List Cell) × (us ≡ xs ++ ys) × Lexeme e xs (ys ++ ws) × WrittenBefore es ys ws

-- what a start tag of this name leaves open
abbrev pub left_open : List ℕ → List Around → List Around
left_open n [] = []
left_open n (o ∷ os) = if is_closing n o.name then left_open n os else o ∷ os

-- an end tag has its element
abbrev pub CanEnd : List ℕ → List Around → Type 0
CanEnd n [] = ⊥
CanEnd n (o ∷ os) = (o.name ≡ n) ⊎ ((is_omittable o.name ≡ true) × CanEnd n os)

-- the input may end here
abbrev pub CanFinish : List Around → Type 0
CanFinish [] = ⊤
CanFinish (o ∷ os) = (is_omittable o.name ≡ true) × CanFinish os

-- what is wrong with a tag where these elements are open, which may end in `/>` or not: too many are open; else it ends
-- itself; else something is wrong inside
abbrev pub IsWrongTag : List Around → Tag → Bool → HtmlFault → Type 0
IsWrongTag os t may_close f =
    ((open_limit ≤ length os) × (f ≡ fault kind.TooDeep t.place))
    ⊎ ((length os < open_limit) × ((t.closed && not may_close) ≡ true) × (f ≡ fault kind.SelfClosed t.place))
    ⊎ ((length os < open_limit) × ((t.closed && not may_close) ≡ false) × (t.fault ≡ Some f))

abbrev pub IsWrongEvent : List Around → Event → HtmlFault → Type 0
IsWrongEvent os (event.Start t) f = IsWrongTag (left_open t.name os) t (is_void t.name) f
IsWrongEvent os (event.Raw t x q) f = IsWrongTag (left_open t.name os) t false f
IsWrongEvent os (event.End n p) f = (CanEnd n os → ⊥) × (f ≡ fault kind.Unmatched p)
IsWrongEvent os (event.Text t p) f = ⊥
IsWrongEvent os (event.Comment t p) f = ⊥

-- where no event begins, no element that is open ends
abbrev pub no_event : List Event
no_event = event.Text [] 0 ∷ []

-- what is wrong at ws, where these elements are open before the events of rest: the end comes too early, no event begins
-- there, or one that cannot stand there
abbrev pub IsWrong : ℕ → List Around → List Event → List Cell → HtmlFault → Type 0
IsWrong total os rest [] f = (rest ≡ []) × (CanFinish os → ⊥) × (f ≡ fault kind.Unclosed total)
IsWrong total os rest (c ∷ cs) f =
    ((rest ≡ no_event) × Refused total c cs f)
    ⊎ ((e : Event) × (more : List Cell) × (rest ≡ e ∷ []) × (event_at total c cs ≡ Ok (e, more)) × IsWrongEvent os e f)

-- all before ws is read, and what stands there is wrong
abbrev pub RefusesCells : ℕ → List Cell → HtmlFault → Type 0
RefusesCells total cs f =
    (us : List Cell) × (ws : List Cell) × (es : List Event) × (rest : List Event) × (os : List Around) × (done : Forest)
    × (cs ≡ us ++ ws) × WrittenBefore es us ws × Stands os done (es ++ rest) rest × IsWrong total os rest ws f

-- the refusal of these bytes: they are no text, or have a doctype without its end, or something behind it is wrong
abbrev pub Refuses : List ℕ → HtmlFault → Type 0
Refuses bytes f =
    ((IsPlainText bytes → ⊥) × (f ≡ fault kind.Utf8 (sound_len bytes)))
    ⊎ (IsPlainText bytes × AfterDoctype (cells_of bytes) (Err f))
    ⊎ (IsPlainText bytes × (cs : List Cell) × AfterDoctype (cells_of bytes) (Ok cs) × RefusesCells (length bytes) cs f)
