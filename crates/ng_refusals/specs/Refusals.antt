-- Which token a refusal of the parser stands at.
use Rattle.std.specs.Prelude.{◌≡◌, ℕ, List, [], ◌∷◌, ◌++◌, length, slice_index_or, Err}
use Rattle.ng_language.specs.Trees.{Trees}
use Rattle.ng_language.specs.Grammar.{IsProgram}
use Rattle.ng_language.specs.Parsing.{parsed, parse_fault}
use Rattle.ng_language.specs.declared.syntax.Sign.TheVariants as sign
use Rattle.ng_language.specs.declared.syntax.Token.{Token}
use Rattle.ng_language.specs.declared.syntax.Token.TheVariants as token
use Rattle.ng_language.specs.declared.syntax.ParseKind.TheVariants as kinds

-- a program may begin with these tokens: with some behind them they are one
abbrev pub Begins : List Token → Type 0
Begins us = (xs : List Token) × (bs : Trees) × IsProgram bs (us ++ xs)

-- the tokens have this one at this place, and it is the first that fits nothing: a program may begin with what stands
-- before it, and with it none does
abbrev pub IsFirstUnfit : Token → List Token → List ℕ → ℕ → ℕ → Type 0
IsFirstUnfit t ts ps end place = (us : List Token) × (vs : List Token) × (ts ≡ us ++ t ∷ vs) × (place ≡ slice_index_or ps (length us) end) × Begins us × (Begins (us ++ t ∷ []) → ⊥)

-- an unexpected token is the first that fits nothing
abbrev pub UnexpectedIsUnfit : Type 0
UnexpectedIsUnfit = (ts : List Token) (ps : List ℕ) (end place : ℕ) → parsed ts ps end ≡ Err (parse_fault kinds.Unexpected place) → (t : Token) × IsFirstUnfit t ts ps end place

-- where something can't be assigned, a `=` is the first that fits nothing
abbrev pub NotAssignableIsUnfit : Type 0
NotAssignableIsUnfit = (ts : List Token) (ps : List ℕ) (end place : ℕ) → parsed ts ps end ≡ Err (parse_fault kinds.NotAssignable place) → IsFirstUnfit (token.Sign sign.Assign) ts ps end place

-- a text that ended too early is no program, and a program may begin with it
abbrev pub EndedIsBegun : Type 0
EndedIsBegun = (ts : List Token) (ps : List ℕ) (end place : ℕ) → parsed ts ps end ≡ Err (parse_fault kinds.Ended place) → (place ≡ end) × Begins ts × ((bs : Trees) → IsProgram bs ts → ⊥)
