-- The statements of a program are read without a look behind the token that is refused.
use Rattle.std.proofs.Common.{◌≡◌, ℕ, zero, suc, Bool, true, false, List, [], ◌∷◌, ◌++◌, length, refl, ap, ◌∙◌, sym, arith, inl, inr}
use Rattle.std.proofs.lemmas.Bool.Decides.{nat_tests}
use Rattle.std.specs.Prelude.{Some, None, Result, Ok, Err, nat_eq, if◌then◌else◌}
use Rattle.ng_base.specs.Meets.{◌>>=◌}
use Rattle.ng_base.proofs.Binds.{if_true, if_false}
use Rattle.ng_language.specs.Choice.{when_some}
use Rattle.ng_language.specs.Trees.{Tree}
use Rattle.ng_language.specs.Tokens.{same_sign, after}
use Rattle.ng_language.specs.Reading.{Read, unfit, statement, statements, separated}
use Rattle.ng_language.specs.declared.syntax.Sign.{Sign}
use Rattle.ng_language.specs.declared.syntax.Sign.TheVariants as sign
use Rattle.ng_language.specs.declared.syntax.Token.{Token}
use Rattle.ng_language.specs.declared.syntax.Token.TheVariants as token
use Rattle.ng_language.specs.declared.syntax.Refusal.{Refusal}
use Rattle.ng_language.proofs.Sound.{got}
use Rattle.ng_refusals.proofs.Local.{refusal, left, then_read, Local, Alike, Looks, local_unfit, local_then, local_look}
use Rattle.ng_refusals.proofs.Readers.{statement_local}

pub filled : (t : Token) (ts : List Token) → nat_eq (length (t ∷ ts)) 0 ≡ false
filled t ts = grind (arith, nat_tests)

-- all statements are read, and nothing is left
abbrev ended : Result (List Tree) Refusal → Read (List Tree)
ended r = r >>= λ bs. got [] bs

abbrev further : ℕ → List Tree → Tree × List Token → Result (List Tree) Refusal
further k bs r = separated k (bs ++ r.0 ∷ []) r.1

abbrev ended_further : ℕ → List Tree → Tree → List Token → Read (List Tree)
ended_further k bs a us = ended (separated k (bs ++ a ∷ []) us)

ended_then : (k : ℕ) (bs : List Tree) (r : Read Tree) → ended (r >>= further k bs) ≡ then_read r (ended_further k bs)
ended_then k bs (Ok x) = refl
ended_then k bs (Err e) = refl

nothing_left : (bs : List Tree) → Local (List Tree) (λ ts. got [] bs)
nothing_left bs = record { falls = λ ts. omega arith; alike = λ us t vs ws. inl (omega arith) }

-- behind a `;` stand further statements, and before it what the reader gives
semicolon_local : (bs : List Tree) (f : List Token → Result (List Tree) Refusal) (d : List Token → Result (List Tree) Refusal) (e : List Token → Read (List Tree)) →
    Local (List Tree) (λ us. ended (f us)) → Local (List Tree) e → ((ts : List Token) → ended (d ts) ≡ e ts) → Local (List Tree) (λ ts. ended (if nat_eq (length ts) 0 then Ok bs else when_some (after sign.Semicolon ts) f (d ts)))
unfolding after
semicolon_local bs f d e lf le same = local_look h (λ ts. got [] bs) (nothing_left bs) refl looks
  where
    h : List Token → Read (List Tree)
    h ts = ended (if nat_eq (length ts) 0 then Ok bs else when_some (after sign.Semicolon ts) f (d ts))

    signs : (u : Sign) (b : Bool) → same_sign sign.Semicolon u ≡ b → Looks (List Tree) h (token.Sign u)
    signs u true g = inl ((λ us. ended (f us)), lf, λ ts. rw (filled (token.Sign u) ts, if_true (same_sign sign.Semicolon u) (Some ts) None g))
    signs u false g = inr (e, le, λ ts. rw (filled (token.Sign u) ts, if_false (same_sign sign.Semicolon u) (Some ts) None g) (same (token.Sign u ∷ ts)))

    looks : (x : Token) → Looks (List Tree) h x
    looks (token.Name n) = inr (e, le, λ ts. rw (filled (token.Name n) ts) (same (token.Name n ∷ ts)))
    looks (token.Number n) = inr (e, le, λ ts. rw (filled (token.Number n) ts) (same (token.Number n ∷ ts)))
    looks (token.Text n) = inr (e, le, λ ts. rw (filled (token.Text n) ts) (same (token.Text n ∷ ts)))
    looks (token.Sign u) = signs u (same_sign sign.Semicolon u) refl

mutual
  statements_local : (k : ℕ) (bs : List Tree) → Local (List Tree) (λ ts. ended (statements k bs ts))
  statements_local zero bs = local_unfit (List Tree)
  statements_local (suc k) bs =
      semicolon_local bs (statements k bs) (λ ts. statement k ts >>= further k bs) (λ ts. then_read (statement k ts) (ended_further k bs)) (statements_local k bs)
      (local_then (statement k) (ended_further k bs) (statement_local k) (λ a. separated_local k (bs ++ a ∷ []))) (λ ts. ended_then k bs (statement k ts))

  separated_local : (k : ℕ) (bs : List Tree) → Local (List Tree) (λ ts. ended (separated k bs ts))
  separated_local zero bs = local_unfit (List Tree)
  separated_local (suc k) bs = semicolon_local bs (statements k bs) unfit unfit (statements_local k bs) (local_unfit (List Tree)) (λ ts. refl)

left_over : (kind : Bool) (n : ℕ) → left (ended (Err (refusal kind n))) ≡ n
left_over true n = refl
left_over false n = refl

-- where a token is refused, it is refused whatever stands behind it
pub unread : (k : ℕ) (bs cs : List Tree) (us : List Token) (t : Token) (vs ws : List Token) (kind : Bool) → statements k bs (us ++ t ∷ vs) ≡ Err (refusal kind (length (t ∷ vs))) → statements k bs (us ++ t ∷ ws) ≡ Ok cs → ⊥
unread k bs cs us t vs ws kind h g = go ((statements_local k bs).alike us t vs ws)
  where
    go : Alike t vs ws (ended (statements k bs (us ++ t ∷ vs))) (ended (statements k bs (us ++ t ∷ ws))) → ⊥
    go (inl p) = omega (arith, ap (λ r. left (ended r)) h, left_over kind (length (t ∷ vs)))
    go (inr (inl b)) = let e : ended (Err (refusal kind (length (t ∷ vs)))) ≡ got (b.us ++ t ∷ vs) b.a = sym (ap ended h) ∙ b.first in cc
    go (inr (inr b)) = let e : got [] cs ≡ Err (refusal b.kind (length (b.us ++ t ∷ ws))) = sym (ap ended g) ∙ b.second in cc
