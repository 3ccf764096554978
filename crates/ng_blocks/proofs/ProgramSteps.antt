-- The program of a text, from its bytes.
use Rattle.std.proofs.Common.{◌≡◌, ℕ, List, length, refl, ap, ◌∙◌, false, Ok, Err}
use Rattle.std.specs.Str.{chars, IsUtf8}
use Rattle.std.proofs.lemmas.Str.{encodes-chars}
use Rattle.ng_base.specs.declared.fault.Memory.{Memory}
use Rattle.ng_language.specs.Lexing as lexing
use Rattle.ng_language.specs.Parsing as parsing
use Rattle.ng_language.specs.declared.syntax.Token.{Token}
use Rattle.ng_language.specs.declared.syntax.LexFault.{LexFault}
use Rattle.ng_language.specs.declared.syntax.LexKind.{LexKind}
use Rattle.ng_language.specs.declared.syntax.LexKind.TheVariants as lex_kinds
use Rattle.ng_language.specs.declared.syntax.ParseKind.{ParseKind}
use Rattle.ng_language.specs.declared.syntax.ParseKind.TheVariants as parse_kinds
use Rattle.ng_blocks.specs.Repeats.{parsed_program, lexed_program, program_of}
use Rattle.ng_blocks.specs.declared.repeats.RepeatFault.TheVariants.{Expression}

pub lex_kind_free : (k : LexKind) → ((m : Memory) → k ≡ lex_kinds.Memory m → ⊥) → lexing.is_memory k ≡ false
lex_kind_free lex_kinds.BadChar n = refl
lex_kind_free lex_kinds.OpenText n = refl
lex_kind_free lex_kinds.BadEscape n = refl
lex_kind_free lex_kinds.BigNumber n = refl
lex_kind_free lex_kinds.Fraction n = refl
lex_kind_free (lex_kinds.Memory m) n = absurd (n m refl)

pub parse_kind_free : (k : ParseKind) → ((m : Memory) → k ≡ parse_kinds.Memory m → ⊥) → parsing.is_memory k ≡ false
parse_kind_free parse_kinds.Unexpected n = refl
parse_kind_free parse_kinds.Ended n = refl
parse_kind_free parse_kinds.NotAssignable n = refl
parse_kind_free parse_kinds.TooDeep n = refl
parse_kind_free (parse_kinds.Memory m) n = absurd (n m refl)

module _ (t : List ℕ) (u : IsUtf8 t) where
  in_bytes : program_of (chars t) ≡ lexed_program (length t) (lexing.lexed (length t) (chars t))
  in_bytes = ap (λ (x : List ℕ). lexed_program (length x) (lexing.lexed (length x) (chars t))) (encodes-chars t u)

  pub lex_refused : (f : LexFault) → lexing.lexed (length t) (chars t) ≡ Err f → program_of (chars t) ≡ Err Expression
  lex_refused f e = in_bytes ∙ ap (lexed_program (length t)) e

  module _ (ts : List Token × List ℕ) (e : lexing.lexed (length t) (chars t) ≡ Ok ts) where
    pub parse_is : program_of (chars t) ≡ parsed_program (parsing.parsed ts.0 ts.1 (length t))
    parse_is = in_bytes ∙ ap (lexed_program (length t)) e
