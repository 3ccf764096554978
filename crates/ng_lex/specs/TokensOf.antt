-- The tokens and places that the lexer's answer stands for.
use Rattle.std.specs.Prelude.{ℕ, List}
use Rattle.ng_language.specs.declared.syntax.Token.{Token}
use Rattle.ng_lex.specs.declared.lexing.Tokens.{Tokens}

abbrev pub tokens_of : Tokens → List Token × List ℕ
tokens_of t = (t.tokens.items, t.places.items)
