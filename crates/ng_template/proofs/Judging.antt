-- What is judged of a text is what it is refused for.
use Rattle.std.proofs.Common.{◌≡◌, ℕ, Bool, true, false, cond, List, Option, None, Some, Result, Ok, Err, refl, ap}
use Rattle.ng_interp.specs.Parts.{Piece}
use Rattle.ng_interp.specs.declared.pieces.InterpFault.{InterpFault}
use Rattle.ng_language.specs.Trees.{Trees}
use Rattle.ng_evaluation.specs.Purity.{all_filters_known}
use Rattle.ng_template.specs.Order.{text_refusal}
use Rattle.ng_directives.specs.Programs.{program_refusal, judged_program}
use Rattle.ng_directives.specs.Texts.{refused, wrong, judged_as, judged}
use Rattle.ng_directives.specs.declared.fault.TplFault.{TplFault}
use Rattle.ng_directives.specs.declared.fault.TplKind.{TplKind}
use Rattle.ng_directives.specs.declared.fault.TplKind.TheVariants.{UnknownFilter}

-- parts of a text with which nothing is wrong, or what is wrong, at its place
pub data Judged (place : ℕ) (r : Result (List Piece) InterpFault) : Result (List Piece) TplFault → Type 0 where
  fine : {ps : List Piece} → r ≡ Ok ps → text_refusal r ≡ None → Judged place r (Ok ps)
  faulty : {kind : TplKind} → text_refusal r ≡ Some kind → Judged place r (Err (refused kind place))

judged_as_is : (place : ℕ) (ps : List Piece) (o : Option TplKind) → wrong ps ≡ o → Judged place (Ok ps) (judged_as place o ps)
judged_as_is place ps None e = fine refl e
judged_as_is place ps (Some kind) e = faulty e

pub judged_is : (place : ℕ) (r : Result (List Piece) InterpFault) → Judged place r (judged place r)
judged_is place (Ok ps) = judged_as_is place ps (wrong ps) refl
judged_is place (Err f) = faulty refl

-- the same of a text that is a program
pub data JudgedProgram (place : ℕ) (o : Option Trees) : Result Trees TplFault → Type 0 where
  program_fine : {b : Trees} → program_refusal o ≡ None → JudgedProgram place o (Ok b)
  program_faulty : {kind : TplKind} → program_refusal o ≡ Some kind → JudgedProgram place o (Err (refused kind place))

known_is : (place : ℕ) (b : Trees) (known : Bool) → all_filters_known b ≡ known → JudgedProgram place (Some b) (cond known (Ok b) (Err (refused UnknownFilter place)))
known_is place b true e = program_fine (ap (λ c. cond c None (Some UnknownFilter)) e)
known_is place b false e = program_faulty (ap (λ c. cond c None (Some UnknownFilter)) e)

pub judged_program_is : (place : ℕ) (o : Option Trees) → JudgedProgram place o (judged_program place o)
judged_program_is place None = program_faulty refl
judged_program_is place (Some b) = known_is place b (all_filters_known b) refl
