-- The expressions of a script: programs whose filters are there.
use Rattle.std.specs.Prelude.{ℕ, List, length, Result, Ok, Err, encode_utf8_all, if◌then◌else◌}
use Rattle.ng_base.specs.Meets.{◌>>=◌}
use Rattle.ng_base.specs.declared.fault.Memory.TheVariants.{Refused}
use Rattle.ng_language.specs.Trees.{Trees}
use Rattle.ng_language.specs.Lexing as lexing
use Rattle.ng_language.specs.Parsing as parsing
use Rattle.ng_language.specs.Spelling.{Written}
use Rattle.ng_language.specs.Grammar.{IsParsed}
use Rattle.ng_language.specs.declared.syntax.Token.{Token}
use Rattle.ng_language.specs.declared.syntax.LexFault.{LexFault}
use Rattle.ng_language.specs.declared.syntax.ParseFault.{ParseFault}
use Rattle.ng_evaluation.specs.Purity.{FiltersKnown, all_filters_known, are_pure}
use Rattle.ng_script.specs.declared.fault.ScriptKind.{ScriptKind}
use Rattle.ng_script.specs.declared.fault.ScriptKind.TheVariants as kinds

-- the characters spell a program of the expression language, and each filter that it names is there
abbrev pub IsExpression : Trees → List ℕ → Type 0
IsExpression p cs = (ts : List Token) × (ps : List ℕ) × Written (length (encode_utf8_all cs)) ts ps cs × IsParsed p ts × FiltersKnown p

-- a refusal of the lexer or the parser, in a script
abbrev pub lex_kind : LexFault → ScriptKind
lex_kind f = if lexing.is_free f then kinds.Memory Refused else kinds.BadExpression

abbrev pub parse_kind : ParseFault → ScriptKind
parse_kind f = if parsing.is_free f then kinds.Memory Refused else kinds.BadExpression

abbrev pub tokens_or : Result (List Token × List ℕ) LexFault → Result (List Token × List ℕ) ScriptKind
tokens_or (Ok ts) = Ok ts
tokens_or (Err f) = Err kinds.BadExpression

abbrev pub program_or : Result Trees ParseFault → Result Trees ScriptKind
program_or (Ok p) = Ok p
program_or (Err f) = Err kinds.BadExpression

-- a program that names a filter that is not there is none
abbrev pub with_known : Trees → Result Trees ScriptKind
with_known p = if all_filters_known p then Ok p else Err kinds.BadExpression

-- the program that a text spells, whatever filters it names
abbrev pub spelled_in : List ℕ → Result Trees ScriptKind
spelled_in cs = tokens_or (lexing.lexed (length (encode_utf8_all cs)) cs) >>= λ ts. program_or (parsing.parsed ts.0 ts.1 (length (encode_utf8_all cs)))

-- the program of a text
abbrev pub program_of : List ℕ → Result Trees ScriptKind
program_of cs = spelled_in cs >>= with_known

-- a probe changes nothing
abbrev pub pure_program_of : List ℕ → Result Trees ScriptKind
pure_program_of cs = program_of cs >>= λ p. if are_pure p then Ok p else Err kinds.BadExpression
