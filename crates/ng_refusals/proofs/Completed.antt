-- What each reader read before it refused can be completed.
use Rattle.std.proofs.Common.{◌≡◌, ◌≤◌, ℕ, suc, true, false, List, [], ◌∷◌, ◌++◌, length, refl, ap, ◌∙◌, sym, subst, arith, append_assoc, append-nil, inl, inr, lit≤}
use Rattle.std.specs.Prelude.{Ok, Err, codes, if◌then◌else◌}
use Rattle.ng_base.specs.Meets.{◌>>=◌}
use Rattle.ng_base.proofs.Binds.{chosen}
use Rattle.ng_language.specs.Trees.{Tree, Trees, PairTree, a_number, choice_of, assigned, filtered, no_trees, tree_then, trees_from}
use Rattle.ng_language.specs.Tokens.{tightness}
use Rattle.ng_language.specs.Reading.{Read, expect, is_assignable, statement, filters, named_filter, arguments, expression, assignment, ternary, choice, operators, operand, operations, unary, primary, postfix, called, values, items, pairs, pair, valued, head}
use Rattle.ng_language.specs.Grammar.{rank, label_token, Spells}
use Rattle.ng_language.specs.declared.syntax.Sign.TheVariants as sign
use Rattle.ng_language.specs.declared.syntax.Token.{Token}
use Rattle.ng_language.specs.declared.syntax.Token.TheVariants as token
use Rattle.ng_language.specs.declared.syntax.Label.{Label}
use Rattle.ng_language.specs.declared.syntax.Level.{Level}
use Rattle.ng_language.specs.declared.syntax.Level.TheVariants as levels
use Rattle.ng_language.specs.declared.syntax.Refusal.{Refusal}
use Rattle.ng_language.proofs.Sound.{got}
use Rattle.ng_language.proofs.Complete.{trees_back}
use Rattle.ng_language.proofs.Whole.{sound}
use Rattle.ng_refusals.proofs.Local.{refused, then_read}
use Rattle.ng_refusals.proofs.Completable.{StandsAt, Completable, at_once, behind, with_more, also, not_assignable_err, then_err, after_err, expect_err, name_err, ATree, SomeArguments, SomeValues, ManyValues, SomeItems, SomePairs, APair, naught, as_it_is}

-- the tree that was read is enough
pub enough : (l : ℕ) (a : Tree) (ws : List Token) (e : Refusal) (ts : List Token) → l ≤ rank a → Spells a ws → StandsAt e ts → Completable (λ ys. ATree l (ws ++ ys)) e ts
enough l a ws e ts h s i = at_once (λ ys. ATree l (ws ++ ys)) e ts [] i (as_it_is l a ws h s)

pub looser : (l m : ℕ) (e : Refusal) (ts : List Token) → l ≤ m → Completable (ATree m) e ts → Completable (ATree l) e ts
looser l m e ts h c = also (ATree m) (ATree l) e ts (λ ys q. (q.0, omega (arith, q.1), q.2)) c

-- what was read first stands before, and in one row with it
pub joined_rows : (l : ℕ) (us vs : List Token) (e : Refusal) (ts : List Token) → Completable (λ ys. ATree l ((us ++ vs) ++ ys)) e ts → Completable (λ ys. ATree l (us ++ (vs ++ ys))) e ts
joined_rows l us vs e ts c = also (λ ys. ATree l ((us ++ vs) ++ ys)) (λ ys. ATree l (us ++ (vs ++ ys))) e ts (λ ys q. subst (ATree l) (append_assoc us vs ys) q) c

-- with room for so many calls, what a reader read before it refused can be completed
pub record IsCompleted (k : ℕ) : Type 0 where
  pub statements : (ts : List Token) (e : Refusal) → statement k ts ≡ Err e → Completable (ATree 1) e ts
  pub filterings : (a : Tree) (ws ts : List Token) (e : Refusal) → Spells a ws → filters k a ts ≡ Err e → Completable (λ ys. ATree 1 (ws ++ ys)) e ts
  pub named : (a : Tree) (ws ts : List Token) (e : Refusal) → Spells a ws → named_filter k a ts ≡ Err e → Completable (λ ys. ATree 1 (ws ++ token.Sign sign.Bar ∷ ys)) e ts
  pub argued : (bs : List Tree) (ts : List Token) (e : Refusal) → arguments k bs ts ≡ Err e → Completable SomeArguments e ts
  pub expressions : (ts : List Token) (e : Refusal) → expression k ts ≡ Err e → Completable (ATree 2) e ts
  pub assignments : (a : Tree) (ws ts : List Token) (e : Refusal) → 3 ≤ rank a → Spells a ws → assignment k a ts ≡ Err e → Completable (λ ys. ATree 2 (ws ++ ys)) e ts
  pub ternaries : (ts : List Token) (e : Refusal) → ternary k ts ≡ Err e → Completable (ATree 3) e ts
  pub choices : (a : Tree) (ws ts : List Token) (e : Refusal) → 4 ≤ rank a → Spells a ws → choice k a ts ≡ Err e → Completable (λ ys. ATree 3 (ws ++ ys)) e ts
  pub operated : (l : Level) (ts : List Token) (e : Refusal) → operators k l ts ≡ Err e → Completable (ATree (tightness l)) e ts
  pub operands : (l : Level) (ts : List Token) (e : Refusal) → operand k l ts ≡ Err e → Completable (ATree (suc (tightness l))) e ts
  pub more_operated : (l : Level) (a : Tree) (ws ts : List Token) (e : Refusal) → tightness l ≤ rank a → Spells a ws → operations k l a ts ≡ Err e → Completable (λ ys. ATree (tightness l) (ws ++ ys)) e ts
  pub unaries : (ts : List Token) (e : Refusal) → unary k ts ≡ Err e → Completable (ATree 10) e ts
  pub primaries : (ts : List Token) (e : Refusal) → primary k ts ≡ Err e → Completable (ATree 11) e ts
  pub postfixes : (a : Tree) (ws ts : List Token) (e : Refusal) → 11 ≤ rank a → Spells a ws → postfix k a ts ≡ Err e → Completable (λ ys. ATree 11 (ws ++ ys)) e ts
  pub callings : (ts : List Token) (e : Refusal) → called k ts ≡ Err e → Completable SomeValues e ts
  pub valued_all : (bs : List Tree) (ts : List Token) (e : Refusal) → values k bs ts ≡ Err e → Completable ManyValues e ts
  pub itemed : (bs : List Tree) (ts : List Token) (e : Refusal) → items k bs ts ≡ Err e → Completable SomeItems e ts
  pub paired : (ps : List PairTree) (ts : List Token) (e : Refusal) → pairs k ps ts ≡ Err e → Completable SomePairs e ts
  pub one_pair : (ts : List Token) (e : Refusal) → pair k ts ≡ Err e → Completable APair e ts
  pub one_value : (l : Label) (ts : List Token) (e : Refusal) → valued k l ts ≡ Err e → Completable (λ ys. APair (label_token l ∷ ys)) e ts
  pub heads : (ts : List Token) (e : Refusal) → head k ts ≡ Err e → Completable (ATree 11) e ts

-- one more call: statements and filters
pub statement_completed : (k : ℕ) → IsCompleted k → (ts : List Token) (e : Refusal) → statement (suc k) ts ≡ Err e → Completable (ATree 1) e ts
statement_completed k ih ts e h =
    elim (then_err (expression k ts) (λ a us. filters k a us) e h) [
      | inl p ↦ looser 1 2 e ts (lit≤ tt) (ih.expressions ts e p)
      | inr p ↦ let x = (sound k).expressions ts p.1 p.0 p.2 in behind (ATree 1) e x.us p.1 ts x.whole (ih.filterings p.0 x.us p.1 e x.spells p.3)
    ]

pub filters_completed : (k : ℕ) → IsCompleted k → (a : Tree) (ws ts : List Token) (e : Refusal) → Spells a ws → filters (suc k) a ts ≡ Err e → Completable (λ ys. ATree 1 (ws ++ ys)) e ts
filters_completed k ih a ws ts e s h =
    elim (after_err sign.Bar ts (λ us. named_filter k a us) (got ts a) e h) [
      | inl p ↦ behind (λ ys. ATree 1 (ws ++ ys)) e (token.Sign sign.Bar ∷ []) p.0 ts p.1 (ih.named a ws p.0 e s p.2)
      | inr p ↦ absurd (cc)
    ]

abbrev named_after : ℕ → Tree → List ℕ × List Token → Read Tree
named_after k a n = arguments k [] n.1 >>= λ r. filters k (filtered a n.0 (trees_from r.0)) r.1

pub no_filter_named : (a : Tree) (ws ts : List Token) (e : Refusal) → Spells a ws → StandsAt e ts → Completable (λ ys. ATree 1 (ws ++ token.Sign sign.Bar ∷ ys)) e ts
no_filter_named a ws ts e s i = at_once (λ ys. ATree 1 (ws ++ token.Sign sign.Bar ∷ ys)) e ts (token.Name (codes "a") ∷ []) i (filtered a (codes "a") no_trees, lit≤ tt, (ws, [], s, refl, refl))

pub named_completed : (k : ℕ) → IsCompleted k → (a : Tree) (ws ts : List Token) (e : Refusal) → Spells a ws → named_filter (suc k) a ts ≡ Err e → Completable (λ ys. ATree 1 (ws ++ token.Sign sign.Bar ∷ ys)) e ts
named_completed k ih a ws ts e s h =
    elim (name_err ts (named_after k a) e h) [
      | inl i ↦ no_filter_named a ws ts e s i
      | inr p ↦ behind (λ ys. ATree 1 (ws ++ token.Sign sign.Bar ∷ ys)) e (token.Name p.0 ∷ []) p.1 ts p.2 (then_argued p.0 p.1 p.3)
    ]
  where
    then_argued : (n : List ℕ) (us : List Token) → named_after k a (n, us) ≡ Err e → Completable (λ ys. ATree 1 (ws ++ token.Sign sign.Bar ∷ token.Name n ∷ ys)) e us
    then_argued n us g =
        elim (then_err (arguments k [] us) (λ bs vs. filters k (filtered a n (trees_from bs)) vs) e g) [
          | inl q ↦ also SomeArguments (λ ys. ATree 1 (ws ++ token.Sign sign.Bar ∷ token.Name n ∷ ys)) e us (λ ys c. (filtered a n c.0, lit≤ tt, (ws, ys, s, c.1, refl))) (ih.argued [] us e q)
          | inr q ↦
              let x = (sound k).argued [] q.0 us q.1 q.2 in
              let same : trees_from q.0 ≡ x.more = ap trees_from x.all ∙ trees_back x.more in
              let front : List Token = token.Sign sign.Bar ∷ token.Name n ∷ x.us in
              let spelled : Spells (filtered a n (trees_from q.0)) (ws ++ front) = subst (λ (t : Trees). Spells (filtered a n t) (ws ++ front)) (sym same) (ws, x.us, s, x.spells, refl) in
              behind (λ ys. ATree 1 (ws ++ token.Sign sign.Bar ∷ token.Name n ∷ ys)) e x.us q.1 us x.whole (joined_rows 1 ws front e q.1 (ih.filterings (filtered a n (trees_from q.0)) (ws ++ front) q.1 e spelled q.3))
        ]

one_argument : (ys : List Token) → ATree 2 ys → SomeArguments (token.Sign sign.Colon ∷ ys)
one_argument ys c = (tree_then c.0 no_trees, (ys, [], (c.1, c.2), refl, ap (λ xs. token.Sign sign.Colon ∷ xs) (sym (append-nil ys))))

pub arguments_completed : (k : ℕ) → IsCompleted k → (bs : List Tree) (ts : List Token) (e : Refusal) → arguments (suc k) bs ts ≡ Err e → Completable SomeArguments e ts
arguments_completed k ih bs ts e h =
    elim (after_err sign.Colon ts (λ us. expression k us >>= λ r. arguments k (bs ++ r.0 ∷ []) r.1) (got ts bs) e h) [
      | inl p ↦ behind SomeArguments e (token.Sign sign.Colon ∷ []) p.0 ts p.1 (then_more p.0 p.2)
      | inr p ↦ absurd (cc)
    ]
  where
    then_more : (us : List Token) → (expression k us >>= λ r. arguments k (bs ++ r.0 ∷ []) r.1) ≡ Err e → Completable (λ ys. SomeArguments (token.Sign sign.Colon ∷ ys)) e us
    then_more us g =
        elim (then_err (expression k us) (λ a vs. arguments k (bs ++ a ∷ []) vs) e g) [
          | inl q ↦ also (ATree 2) (λ ys. SomeArguments (token.Sign sign.Colon ∷ ys)) e us one_argument (ih.expressions us e q)
          | inr q ↦
              let x = (sound k).expressions us q.1 q.0 q.2 in
              behind (λ ys. SomeArguments (token.Sign sign.Colon ∷ ys)) e x.us q.1 us x.whole
              (also SomeArguments (λ ys. SomeArguments (token.Sign sign.Colon ∷ (x.us ++ ys))) e q.1 (λ ys c. (tree_then q.0 c.0, (x.us, ys, (x.low, x.spells), c.1, refl))) (ih.argued (bs ++ q.0 ∷ []) q.1 e q.3))
        ]

-- expressions, ternaries
pub expression_completed : (k : ℕ) → IsCompleted k → (ts : List Token) (e : Refusal) → expression (suc k) ts ≡ Err e → Completable (ATree 2) e ts
expression_completed k ih ts e h =
    elim (then_err (ternary k ts) (λ a us. assignment k a us) e h) [
      | inl p ↦ looser 2 3 e ts (lit≤ tt) (ih.ternaries ts e p)
      | inr p ↦ let x = (sound k).ternaries ts p.1 p.0 p.2 in behind (ATree 2) e x.us p.1 ts x.whole (ih.assignments p.0 x.us p.1 e x.low x.spells p.3)
    ]

pub assignment_completed : (k : ℕ) → IsCompleted k → (a : Tree) (ws ts : List Token) (e : Refusal) → 3 ≤ rank a → Spells a ws → assignment (suc k) a ts ≡ Err e → Completable (λ ys. ATree 2 (ws ++ ys)) e ts
assignment_completed k ih a ws ts e low s h =
    elim (after_err sign.Assign ts (λ us. if is_assignable a then (expression k us >>= λ r. Ok (assigned a r.0, r.1)) else refused false (length ts)) (got ts a) e h) [
      | inl p ↦
          elim (chosen (is_assignable a) (expression k p.0 >>= λ r. Ok (assigned a r.0, r.1)) (refused false (length ts)) (Err e) p.2) [
            | inl g ↦ behind (λ ys. ATree 2 (ws ++ ys)) e (token.Sign sign.Assign ∷ []) p.0 ts p.1 (then_assigned p.0 g.0 g.1)
            | inr g ↦ enough 2 a ws e ts (omega arith) s (not_assignable_err ts p.0 e p.1 g.1)
          ]
      | inr p ↦ absurd (cc)
    ]
  where
    then_assigned : (us : List Token) → is_assignable a ≡ true → then_read (expression k us) (λ b vs. got vs (assigned a b)) ≡ Err e → Completable (λ ys. ATree 2 (ws ++ token.Sign sign.Assign ∷ ys)) e us
    then_assigned us i g =
        elim (then_err (expression k us) (λ b vs. got vs (assigned a b)) e g) [
          | inl q ↦ also (ATree 2) (λ ys. ATree 2 (ws ++ token.Sign sign.Assign ∷ ys)) e us (λ ys c. (assigned a c.0, lit≤ tt, (ws, ys, i, s, (c.1, c.2), refl))) (ih.expressions us e q)
          | inr q ↦ absurd (cc)
        ]

pub ternary_completed : (k : ℕ) → IsCompleted k → (ts : List Token) (e : Refusal) → ternary (suc k) ts ≡ Err e → Completable (ATree 3) e ts
ternary_completed k ih ts e h =
    elim (then_err (operators k levels.Or ts) (λ a us. choice k a us) e h) [
      | inl p ↦ looser 3 4 e ts (lit≤ tt) (ih.operated levels.Or ts e p)
      | inr p ↦ let x = (sound k).operated levels.Or ts p.1 p.0 p.2 in behind (ATree 3) e x.us p.1 ts x.whole (ih.choices p.0 x.us p.1 e x.low x.spells p.3)
    ]

-- the second part of a choice, behind the `?`
abbrev chosen_after : ℕ → Tree → Tree → List Token → Read Tree
chosen_after k c a us = expect sign.Colon us >>= λ vs. expression k vs >>= λ r. Ok (choice_of c a r.0, r.1)

pub choice_completed : (k : ℕ) → IsCompleted k → (c : Tree) (ws ts : List Token) (e : Refusal) → 4 ≤ rank c → Spells c ws → choice (suc k) c ts ≡ Err e → Completable (λ ys. ATree 3 (ws ++ ys)) e ts
choice_completed k ih c ws ts e low s h =
    elim (after_err sign.Question ts (λ us. then_read (expression k us) (chosen_after k c)) (got ts c) e h) [
      | inl p ↦ behind (λ ys. ATree 3 (ws ++ ys)) e (token.Sign sign.Question ∷ []) p.0 ts p.1 (
          elim (then_err (expression k p.0) (chosen_after k c) e p.2) [
            | inl q ↦ with_more (ATree 2) (λ ys. ATree 3 (ws ++ token.Sign sign.Question ∷ ys)) e p.0 (token.Sign sign.Colon ∷ naught) (λ ys a. (choice_of c a.0 (a_number 0), lit≤ tt, (ws, ys, naught, (low, s), (a.1, a.2), (lit≤ tt, refl), refl))) (ih.expressions p.0 e q)
            | inr q ↦ let x = (sound k).expressions p.0 q.1 q.0 q.2 in behind (λ ys. ATree 3 (ws ++ token.Sign sign.Question ∷ ys)) e x.us q.1 p.0 x.whole (second q.0 x.us q.1 x.low x.spells q.3)
          ])
      | inr p ↦ absurd (cc)
    ]
  where
    second : (a : Tree) (us vs : List Token) → 2 ≤ rank a → Spells a us → chosen_after k c a vs ≡ Err e → Completable (λ ys. ATree 3 (ws ++ token.Sign sign.Question ∷ (us ++ ys))) e vs
    second a us vs la sa g =
        elim (expect_err sign.Colon vs (λ xs. expression k xs >>= λ r. Ok (choice_of c a r.0, r.1)) e g) [
          | inl i ↦ at_once (λ ys. ATree 3 (ws ++ token.Sign sign.Question ∷ (us ++ ys))) e vs (token.Sign sign.Colon ∷ naught) i (choice_of c a (a_number 0), lit≤ tt, (ws, us, naught, (low, s), (la, sa), (lit≤ tt, refl), refl))
          | inr p ↦ behind (λ ys. ATree 3 (ws ++ token.Sign sign.Question ∷ (us ++ ys))) e (token.Sign sign.Colon ∷ []) p.0 vs p.1 (
              elim (then_err (expression k p.0) (λ b xs. got xs (choice_of c a b)) e p.2) [
                | inl q ↦ also (ATree 2) (λ ys. ATree 3 (ws ++ token.Sign sign.Question ∷ (us ++ token.Sign sign.Colon ∷ ys))) e p.0 (λ ys b. (choice_of c a b.0, lit≤ tt, (ws, us, ys, (low, s), (la, sa), (b.1, b.2), refl))) (ih.expressions p.0 e q)
                | inr q ↦ absurd (cc)
              ])
        ]
