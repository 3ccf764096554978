-- What a call of the lexer gave, against the spelling of tokens.
use Rattle.std.proofs.Common.{ℕ, List, ◌∙◌, sym, Result, Ok, Err}
use Rattle.std.specs.Prelude.{IfOk}
use Rattle.ng_base.specs.Meets.{Gives}
use Rattle.ng_language.specs.Lexing.{lexed, is_free}
use Rattle.ng_language.specs.Spelling.{Written}
use Rattle.ng_language.proofs.SignSound.{lexed_is}
use Rattle.ng_language.proofs.LexComplete.{lexed_only}
use Rattle.ng_language.specs.declared.syntax.Token.{Token}
use Rattle.ng_language.specs.declared.syntax.LexFault.{LexFault}
use Rattle.ng_lex.specs.TokensOf.{tokens_of}
use Rattle.ng_lex.specs.declared.lexing.Tokens.{Tokens}

pub found : (total : ℕ) (cs : List ℕ) (r : Result Tokens LexFault) → Gives is_free tokens_of (lexed total cs) r → IfOk r (λ t. Written total t.tokens.items t.places.items cs)
found total cs (Ok t) g = lexed_is total cs t.tokens.items t.places.items g
found total cs (Err e) g = tt

pub only : (total : ℕ) (cs : List ℕ) (ts : List Token) (ps : List ℕ) (r : Result Tokens LexFault) → Gives is_free tokens_of (lexed total cs) r → Written total ts ps cs → Gives is_free tokens_of (Ok (ts, ps)) r
only total cs ts ps (Ok t) g h = sym (lexed_only total cs ts ps h) ∙ g
only total cs ts ps (Err e) g h = λ n. sym (lexed_only total cs ts ps h) ∙ g n
