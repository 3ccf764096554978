-- Laws of the lexer.
use Rattle.std.specs.Prelude.{◌≡◌, ◌<◌, ◌↔◌, ℕ, List, ◌∷◌, ◌++◌, length, Some, Result, Ok, Err}
use Rattle.ng_base.specs.Cells.{Cell}
use Rattle.ng_tags.specs.Doctypes.{AfterDoctype}
use Rattle.ng_tags.specs.Faults.{IsFaulty}
use Rattle.ng_tags.specs.Lexing.{event_at, after_doctype}
use Rattle.ng_tags.specs.Refusals.{Refused}
use Rattle.ng_tags.specs.Spelling.{Lexeme, IsWhole}
use Rattle.ng_tags.specs.declared.event.Event.{Event}
use Rattle.ng_tags.specs.declared.event.Event.TheVariants as event
use Rattle.ng_tags.specs.declared.event.Tag.{Tag}
use Rattle.ng_tags.specs.declared.fault.HtmlFault.{HtmlFault}

-- an event leaves less than there was
abbrev pub LeavesLess : Type 0
LeavesLess = (total : ℕ) (c : Cell) (cs : List Cell) (e : Event) (rest : List Cell) → event_at total c cs ≡ Ok (e, rest) → length rest < length (c ∷ cs)

-- what is read as an event without a fault spells it
abbrev pub ReadIsSpelled : Type 0
ReadIsSpelled = (total : ℕ) (c : Cell) (cs : List Cell) (e : Event) (rest : List Cell) → event_at total c cs ≡ Ok (e, rest) → IsWhole e → (us : List Cell) × (c ∷ cs ≡ us ++ rest) × Lexeme e us rest

-- what spells an event is read as it
abbrev pub SpelledIsRead : Type 0
SpelledIsRead = (total : ℕ) (e : Event) (us rest : List Cell) (c : Cell) (vs : List Cell) → Lexeme e us rest → us ≡ c ∷ vs → event_at total c (vs ++ rest) ≡ Ok (e, rest)

-- an event is refused exactly where there is a reason, and so
abbrev pub RefusedForAReason : Type 0
RefusedForAReason = (total : ℕ) (c : Cell) (cs : List Cell) (f : HtmlFault) → (event_at total c cs ≡ Err f) ↔ Refused total c cs f

-- the first fault of a start tag has a reason
abbrev pub FaultHasAReason : Type 0
FaultHasAReason = (total : ℕ) (c : Cell) (cs : List Cell) (t : Tag) (rest : List Cell) (f : HtmlFault) → event_at total c cs ≡ Ok (event.Start t, rest) → t.fault ≡ Some f → IsFaulty total c cs f

-- where there is a reason, a start tag is read with that fault
abbrev pub ReasonIsAFault : Type 0
ReasonIsAFault = (total : ℕ) (c : Cell) (cs : List Cell) (f : HtmlFault) → IsFaulty total c cs f → (t : Tag) × (rest : List Cell) × (event_at total c cs ≡ Ok (event.Start t, rest)) × (t.fault ≡ Some f)

-- what a doctype at the front does
abbrev pub DoctypeIsPassed : Type 0
DoctypeIsPassed = (cs : List Cell) (r : Result (List Cell) HtmlFault) → (after_doctype cs ≡ r) ↔ AfterDoctype cs r
