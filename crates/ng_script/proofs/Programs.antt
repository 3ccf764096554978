-- What the lexer and the parser answer, in a script.
use Rattle.std.proofs.Common.{◌≡◌, ◌∙◌, ap, refl, ℕ, List, length, Bool, true, false, if◌then◌else◌, encode_utf8_all}
use Rattle.std.specs.Prelude.{Result, Ok, Err}
use Rattle.ng_base.specs.Meets.{◌>>=◌}
use Rattle.ng_base.specs.declared.fault.Memory.TheVariants.{Refused}
use Rattle.ng_language.specs.Trees.{Trees}
use Rattle.ng_language.specs.Lexing as lexing
use Rattle.ng_language.specs.Parsing as parsing
use Rattle.ng_language.specs.declared.syntax.Token.{Token}
use Rattle.ng_language.specs.declared.syntax.LexFault.{LexFault}
use Rattle.ng_language.specs.declared.syntax.ParseFault.{ParseFault}
use Rattle.ng_script.specs.Free.{is_want}
use Rattle.ng_script.specs.Expressions.{lex_kind, parse_kind, tokens_or, program_or, spelled_in}
use Rattle.ng_script.specs.declared.fault.ScriptKind.{ScriptKind}
use Rattle.ng_script.specs.declared.fault.ScriptKind.TheVariants as kinds

abbrev folded : Bool → ScriptKind
folded b = if b then kinds.Memory Refused else kinds.BadExpression

not_wanting : (k : ScriptKind) (b : Bool) → k ≡ folded b → is_want k ≡ false → (b ≡ false) × (k ≡ kinds.BadExpression)
not_wanting k true e h = let wants : is_want k ≡ true = ap is_want e in absurd (cc)
not_wanting k false e h = (refl, e)

pub lex_refused : (k : ScriptKind) (f : LexFault) → k ≡ lex_kind f → is_want k ≡ false → (lexing.is_free f ≡ false) × (k ≡ kinds.BadExpression)
lex_refused k f e h = not_wanting k (lexing.is_free f) e h

pub parse_refused : (k : ScriptKind) (f : ParseFault) → k ≡ parse_kind f → is_want k ≡ false → (parsing.is_free f ≡ false) × (k ≡ kinds.BadExpression)
parse_refused k f e h = not_wanting k (parsing.is_free f) e h

abbrev read_in : ℕ → List ℕ → Result (List Token × List ℕ) LexFault → Result Trees ScriptKind
read_in n cs r = tokens_or r >>= λ ts. program_or (parsing.parsed ts.0 ts.1 n)

pub no_tokens : (n : ℕ) (cs : List ℕ) (f : LexFault) → length (encode_utf8_all cs) ≡ n → lexing.lexed n cs ≡ Err f → spelled_in cs ≡ Err kinds.BadExpression
no_tokens n cs f e h = ap (λ m. read_in m cs (lexing.lexed m cs)) e ∙ ap (read_in n cs) h

pub of_tokens : (n : ℕ) (cs : List ℕ) (ts : List Token) (ps : List ℕ) → length (encode_utf8_all cs) ≡ n → lexing.lexed n cs ≡ Ok (ts, ps) → spelled_in cs ≡ program_or (parsing.parsed ts ps n)
of_tokens n cs ts ps e h = ap (λ m. read_in m cs (lexing.lexed m cs)) e ∙ ap (read_in n cs) h
