-- Tokens that are names, one after another.
use Rattle.std.proofs.Common.{◌≡◌, ◌<◌, ℕ, List, [], ◌∷◌, length, refl, Some, None, arith}
use Rattle.ng_language.specs.Tokens.{after, name_at}
use Rattle.ng_language.specs.declared.syntax.Sign.TheVariants as sign
use Rattle.ng_language.specs.declared.syntax.Token.{Token}
use Rattle.ng_blocks.specs.Heads.{only, two_names}

-- two names, where each step goes on
pub two_by : (ts a b c d e : List Token) (k n : List ℕ) → after sign.OpenRound ts ≡ Some a → name_at a ≡ Some (k, b) → after sign.Comma b ≡ Some c → name_at c ≡ Some (n, d) → after sign.CloseRound d ≡ Some e → two_names ts ≡ only e (k, n)
two_by ts a b c d e k n p q r s t = rw (p, q, r, s, t) refl

-- tokens are left
pub only_long : {A : Type 0} (e : List Token) (x : A) → 0 < length e → only e x ≡ None
only_long [] x h = absurd (omega arith)
only_long (t ∷ ts) x h = refl
