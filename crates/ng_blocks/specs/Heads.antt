-- The names before `in`: one, or two in parentheses.
use Rattle.std.specs.Prelude.{ℕ, List, [], ◌∷◌, Option, None, Some, length, encode_utf8_all, Result, Ok, Err}
use Rattle.ng_language.specs.Choice.{when_some}
use Rattle.ng_language.specs.Lexing.{lexed}
use Rattle.ng_language.specs.Tokens.{after, name_at}
use Rattle.ng_language.specs.declared.syntax.Sign.TheVariants as sign
use Rattle.ng_language.specs.declared.syntax.Token.{Token}
use Rattle.ng_language.specs.declared.syntax.LexFault.{LexFault}
use Rattle.ng_blocks.specs.declared.repeats.Head.{Head}

-- the answer, where no token is left
abbrev pub only : {A : Type 0} → List Token → A → Option A
only [] a = Some a
only (t ∷ ts) a = None

abbrev pub one_name : List Token → Option (List ℕ)
one_name ts = when_some (name_at ts) (λ n. only n.1 n.0) None

abbrev pub two_names : List Token → Option (List ℕ × List ℕ)
two_names ts =
    when_some (after sign.OpenRound ts)
    (λ a. when_some (name_at a)
    (λ k. when_some (after sign.Comma k.1)
    (λ b. when_some (name_at b)
    (λ n. when_some (after sign.CloseRound n.1) (λ e. only e (k.0, n.0)) None)
    None)
    None)
    None)
    None

abbrev pub head_in : List Token → Option Head
head_in ts =
    when_some (one_name ts) (λ n. Some (record { key = None; name = n }))
    (when_some (two_names ts) (λ p. Some (record { key = Some p.0; name = p.1 })) None)

abbrev pub head_lexed : Result (List Token × List ℕ) LexFault → Option Head
head_lexed (Ok ts) = head_in ts.0
head_lexed (Err f) = None

-- the names that a text spells
abbrev pub head_of : List ℕ → Option Head
head_of cs = head_lexed (lexed (length (encode_utf8_all cs)) cs)
