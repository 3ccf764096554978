-- What was read before a refusal begins a program.
use Rattle.std.proofs.Common.{◌≡◌, ℕ, zero, suc, List, [], ◌∷◌, ◌++◌, length, refl, ap, ◌∙◌, sym, subst, append-nil, inl, inr}
use Rattle.std.specs.Prelude.{Result, Ok, Err, ◌⊎◌, nat_eq}
use Rattle.ng_base.specs.Meets.{◌>>=◌}
use Rattle.ng_base.proofs.Binds.{bind_err, chosen}
use Rattle.ng_language.specs.Choice.{when_some}
use Rattle.ng_language.specs.Trees.{Tree, Trees, no_trees, tree_then}
use Rattle.ng_language.specs.Tokens.{after}
use Rattle.ng_language.specs.Reading.{unfit, statement, statements, separated}
use Rattle.ng_language.specs.Grammar.{Spells, IsProgram, no_statement, last_statement, empty_statement, statement_then}
use Rattle.ng_language.specs.declared.syntax.Sign.TheVariants as sign
use Rattle.ng_language.specs.declared.syntax.Token.{Token}
use Rattle.ng_language.specs.declared.syntax.Token.TheVariants as token
use Rattle.ng_language.specs.declared.syntax.Refusal.{Refusal}
use Rattle.ng_language.proofs.Whole.{sound}
use Rattle.ng_refusals.proofs.Completable.{Completable, at_once, behind, also, unfit_err, after_err, ATree}
use Rattle.ng_refusals.proofs.Heads.{completed}

abbrev pub AProgram : List Token → Type 0
AProgram ys = (bs : Trees) × IsProgram bs ys

-- what stands behind a statement: nothing, or a `;` and further statements
abbrev ATail : List Token → Type 0
ATail ys = (ys ≡ []) ⊎ ((us : List Token) × (ys ≡ token.Sign sign.Semicolon ∷ us) × AProgram us)

statement_and : (t : Tree) (us ys : List Token) → Spells t us → ATail ys → AProgram (us ++ ys)
statement_and t us ys s (inl h) = (tree_then t no_trees, subst (λ (xs : List Token). IsProgram (tree_then t no_trees) xs) (sym (ap (λ xs. us ++ xs) h ∙ append-nil us)) (last_statement t us s))
statement_and t us ys s (inr p) = (tree_then t p.2.0, subst (λ (xs : List Token). IsProgram (tree_then t p.2.0) (us ++ xs)) (sym p.1) (statement_then t p.2.0 us p.0 s p.2.1))

last_so : (ys : List Token) → ATree 1 ys → AProgram ys
last_so ys t = (tree_then t.0 no_trees, last_statement t.0 ys t.2)

abbrev all_of : List Tree → Result (List Tree) Refusal
all_of bs = Ok bs

abbrev further : ℕ → List Tree → Tree × List Token → Result (List Tree) Refusal
further k bs r = separated k (bs ++ r.0 ∷ []) r.1

mutual
  pub begun : (k : ℕ) (bs : List Tree) (ts : List Token) (e : Refusal) → statements k bs ts ≡ Err e → Completable AProgram e ts
  begun zero bs ts e h = at_once AProgram e ts [] (unfit_err ts e h) (no_trees, no_statement)
  begun (suc k) bs ts e h =
      elim (chosen (nat_eq (length ts) 0) (all_of bs) (when_some (after sign.Semicolon ts) (λ us. statements k bs us) (statement k ts >>= further k bs)) (Err e) h) [
        | inl g ↦ absurd (cc)
        | inr g ↦
            elim (after_err sign.Semicolon ts (λ us. statements k bs us) (statement k ts >>= further k bs) e g.1) [
              | inl p ↦ behind AProgram e (token.Sign sign.Semicolon ∷ []) p.0 ts p.1 (also AProgram (λ ys. AProgram (token.Sign sign.Semicolon ∷ ys)) e p.0 (λ ys q. (q.0, empty_statement q.0 ys q.1)) (begun k bs p.0 e p.2))
              | inr p ↦
                  elim (bind_err (statement k ts) (further k bs) e p) [
                    | inl q ↦ also (ATree 1) AProgram e ts last_so ((completed k).statements ts e q)
                    | inr q ↦
                        let x = (sound k).statements ts q.0.1 q.0.0 q.1 in
                        behind AProgram e x.us q.0.1 ts x.whole (also ATail (λ ys. AProgram (x.us ++ ys)) e q.0.1 (λ ys t. statement_and q.0.0 x.us ys x.spells t) (tail_begun k (bs ++ q.0.0 ∷ []) q.0.1 e q.2))
                  ]
            ]
      ]

  tail_begun : (k : ℕ) (bs : List Tree) (ts : List Token) (e : Refusal) → separated k bs ts ≡ Err e → Completable ATail e ts
  tail_begun zero bs ts e h = at_once ATail e ts [] (unfit_err ts e h) (inl refl)
  tail_begun (suc k) bs ts e h =
      elim (chosen (nat_eq (length ts) 0) (all_of bs) (when_some (after sign.Semicolon ts) (λ us. statements k bs us) (unfit ts)) (Err e) h) [
        | inl g ↦ absurd (cc)
        | inr g ↦
            elim (after_err sign.Semicolon ts (λ us. statements k bs us) (unfit ts) e g.1) [
              | inl p ↦ behind ATail e (token.Sign sign.Semicolon ∷ []) p.0 ts p.1 (also AProgram (λ ys. ATail (token.Sign sign.Semicolon ∷ ys)) e p.0 (λ ys q. inr (ys, refl, q)) (begun k bs p.0 e p.2))
              | inr p ↦ at_once ATail e ts [] (unfit_err ts e p) (inl refl)
            ]
      ]
