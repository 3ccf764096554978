-- What heads and lists have read before a refusal can be completed.
use Rattle.std.proofs.Common.{◌≡◌, ◌≤◌, ℕ, zero, suc, List, [], ◌∷◌, ◌++◌, refl, ap, ◌∙◌, sym, arith, append_assoc, append-nil, inl, inr, lit≤}
use Rattle.std.specs.Prelude.{Ok, Err, codes}
use Rattle.ng_base.specs.Meets.{◌>>=◌}
use Rattle.ng_language.specs.Choice.{when_some}
use Rattle.ng_language.specs.Trees.{Tree, Trees, PairTree, Pairs, a_number, a_list, a_record, in_brackets, no_trees, tree_then, no_pairs, pair_then, labelled, shorthand, computed, trees_from, pairs_from}
use Rattle.ng_language.specs.Tokens.{after, tightness}
use Rattle.ng_language.specs.Reading.{Read, expect, word_tree, leaf, label, lone_label, statement, expression, called, values, items, pairs, pair, valued, head}
use Rattle.ng_language.specs.Grammar.{rank, label_token, Spells, SpellsItems, SpellsOthers, SpellsPair, SpellsPairs, SpellsOtherPairs}
use Rattle.ng_language.specs.declared.syntax.Sign.TheVariants as sign
use Rattle.ng_language.specs.declared.syntax.Token.{Token}
use Rattle.ng_language.specs.declared.syntax.Token.TheVariants as token
use Rattle.ng_language.specs.declared.syntax.Label.{Label}
use Rattle.ng_language.specs.declared.syntax.Refusal.{Refusal}
use Rattle.ng_language.proofs.Sound.{got, rank_one}
use Rattle.ng_language.proofs.Climb.{tight_low}
use Rattle.ng_language.proofs.Whole.{sound}
use Rattle.ng_refusals.proofs.Local.{then_read}
use Rattle.ng_refusals.proofs.Completable.{StandsAt, Completable, at_once, behind, with_more, also, unfit_err, then_err, after_err, expect_err, label_err, leaf_err, lone_err, ATree, SomeArguments, SomeValues, ManyValues, SomeItems, SomePairs, APair, naught, naught_so}
use Rattle.ng_refusals.proofs.Completed.{IsCompleted, enough, no_filter_named, statement_completed, filters_completed, named_completed, arguments_completed, expression_completed, assignment_completed, ternary_completed, choice_completed}
use Rattle.ng_refusals.proofs.Joints.{operators_completed, operand_completed, operations_completed, unary_completed, primary_completed, postfix_completed}

-- the arguments of a call
one_value_so : (t : Tree) (ys : List Token) → Spells t ys → ManyValues (ys ++ token.Sign sign.CloseRound ∷ [])
one_value_so t ys s = (ys, (t, no_trees, (ys, [], s, refl, sym (append-nil ys))), refl)

more_values_so : (t : Tree) (us ys : List Token) → Spells t us → ManyValues ys → ManyValues (us ++ token.Sign sign.Comma ∷ ys)
more_values_so t us ys s m =
    let vs : List Token = token.Sign sign.Comma ∷ m.0 in
    let inner = m.1.2 in
    (us ++ vs, (t, tree_then m.1.0 m.1.1, (us, vs, s, (inner.0, inner.1, inner.2, inner.3, ap (λ xs. token.Sign sign.Comma ∷ xs) inner.4), refl)), ap (λ xs. us ++ token.Sign sign.Comma ∷ xs) m.2 ∙ sym (append_assoc us vs (token.Sign sign.CloseRound ∷ [])))

abbrev next_value : ℕ → List Tree → Tree → List Token → Read (List Tree)
next_value k bs a us = when_some (after sign.Comma us) (λ vs. values k (bs ++ a ∷ []) vs) (expect sign.CloseRound us >>= λ vs. got vs (bs ++ a ∷ []))

pub values_completed : (k : ℕ) → IsCompleted k → (bs : List Tree) (ts : List Token) (e : Refusal) → values (suc k) bs ts ≡ Err e → Completable ManyValues e ts
values_completed k ih bs ts e h =
    elim (then_err (statement k ts) (next_value k bs) e h) [
      | inl q ↦ with_more (ATree 1) ManyValues e ts (token.Sign sign.CloseRound ∷ []) (λ ys t. one_value_so t.0 ys t.2) (ih.statements ts e q)
      | inr q ↦ let x = (sound k).statements ts q.1 q.0 q.2 in behind ManyValues e x.us q.1 ts x.whole (
          elim (after_err sign.Comma q.1 (λ us. values k (bs ++ q.0 ∷ []) us) (expect sign.CloseRound q.1 >>= λ us. got us (bs ++ q.0 ∷ [])) e q.3) [
            | inl p ↦ behind (λ ys. ManyValues (x.us ++ ys)) e (token.Sign sign.Comma ∷ []) p.0 q.1 p.1 (also ManyValues (λ ys. ManyValues (x.us ++ token.Sign sign.Comma ∷ ys)) e p.0 (λ ys m. more_values_so q.0 x.us ys x.spells m) (ih.valued_all (bs ++ q.0 ∷ []) p.0 e p.2))
            | inr p ↦
                elim (expect_err sign.CloseRound q.1 (λ us. got us (bs ++ q.0 ∷ [])) e p) [
                  | inl i ↦ at_once (λ ys. ManyValues (x.us ++ ys)) e q.1 (token.Sign sign.CloseRound ∷ []) i (one_value_so q.0 x.us x.spells)
                  | inr i ↦ absurd (cc)
                ]
          ])
    ]

some_values : (ys : List Token) → ManyValues ys → SomeValues ys
some_values ys m = (m.0, (tree_then m.1.0 m.1.1, m.1.2), m.2)

pub called_completed : (k : ℕ) → IsCompleted k → (ts : List Token) (e : Refusal) → called (suc k) ts ≡ Err e → Completable SomeValues e ts
called_completed k ih ts e h =
    elim (after_err sign.CloseRound ts (λ us. got us []) (values k [] ts) e h) [
      | inl p ↦ absurd (cc)
      | inr p ↦ also ManyValues SomeValues e ts some_values (ih.valued_all [] ts e p)
    ]

-- the items of a list
one_item_so : (t : Tree) (ys : List Token) → Spells t ys → SomeItems (ys ++ token.Sign sign.CloseSquare ∷ [])
one_item_so t ys s = (ys, (tree_then t no_trees, (ys, [], s, inl refl, sym (append-nil ys))), refl)

as_others : (ts : Trees) (us : List Token) → SpellsItems ts us → SpellsOthers ts (token.Sign sign.Comma ∷ us)
as_others no_trees us s = inr (ap (λ xs. token.Sign sign.Comma ∷ xs) s)
as_others (tree_then t ts) us s = (s.0, s.1, s.2, s.3, ap (λ xs. token.Sign sign.Comma ∷ xs) s.4)

more_items_so : (t : Tree) (us ys : List Token) → Spells t us → SomeItems ys → SomeItems (us ++ token.Sign sign.Comma ∷ ys)
more_items_so t us ys s m =
    let vs : List Token = token.Sign sign.Comma ∷ m.0 in
    (us ++ vs, (tree_then t m.1.0, (us, vs, s, as_others m.1.0 m.0 m.1.1, refl)), ap (λ xs. us ++ token.Sign sign.Comma ∷ xs) m.2 ∙ sym (append_assoc us vs (token.Sign sign.CloseSquare ∷ [])))

abbrev next_item : ℕ → List Tree → Tree → List Token → Read (List Tree)
next_item k bs a us = when_some (after sign.Comma us) (λ vs. items k (bs ++ a ∷ []) vs) (expect sign.CloseSquare us >>= λ vs. got vs (bs ++ a ∷ []))

pub items_completed : (k : ℕ) → IsCompleted k → (bs : List Tree) (ts : List Token) (e : Refusal) → items (suc k) bs ts ≡ Err e → Completable SomeItems e ts
items_completed k ih bs ts e h =
    elim (after_err sign.CloseSquare ts (λ us. got us bs) (then_read (statement k ts) (next_item k bs)) e h) [
      | inl p ↦ absurd (cc)
      | inr p ↦ then_items p
    ]
  where
    then_items : then_read (statement k ts) (next_item k bs) ≡ Err e → Completable SomeItems e ts
    then_items g =
        elim (then_err (statement k ts) (next_item k bs) e g) [
          | inl q ↦ with_more (ATree 1) SomeItems e ts (token.Sign sign.CloseSquare ∷ []) (λ ys t. one_item_so t.0 ys t.2) (ih.statements ts e q)
          | inr q ↦ let x = (sound k).statements ts q.1 q.0 q.2 in behind SomeItems e x.us q.1 ts x.whole (
              elim (after_err sign.Comma q.1 (λ us. items k (bs ++ q.0 ∷ []) us) (expect sign.CloseSquare q.1 >>= λ us. got us (bs ++ q.0 ∷ [])) e q.3) [
                | inl p ↦ behind (λ ys. SomeItems (x.us ++ ys)) e (token.Sign sign.Comma ∷ []) p.0 q.1 p.1 (also SomeItems (λ ys. SomeItems (x.us ++ token.Sign sign.Comma ∷ ys)) e p.0 (λ ys m. more_items_so q.0 x.us ys x.spells m) (ih.itemed (bs ++ q.0 ∷ []) p.0 e p.2))
                | inr p ↦
                    elim (expect_err sign.CloseSquare q.1 (λ us. got us (bs ++ q.0 ∷ [])) e p) [
                      | inl i ↦ at_once (λ ys. SomeItems (x.us ++ ys)) e q.1 (token.Sign sign.CloseSquare ∷ []) i (one_item_so q.0 x.us x.spells)
                      | inr i ↦ absurd (cc)
                    ]
              ])
        ]

-- the pairs of a record
one_pair_so : (p : PairTree) (ys : List Token) → SpellsPair p ys → SomePairs (ys ++ token.Sign sign.CloseCurly ∷ [])
one_pair_so p ys s = (ys, (pair_then p no_pairs, (ys, [], s, inl refl, sym (append-nil ys))), refl)

as_other_pairs : (ps : Pairs) (us : List Token) → SpellsPairs ps us → SpellsOtherPairs ps (token.Sign sign.Comma ∷ us)
as_other_pairs no_pairs us s = inr (ap (λ xs. token.Sign sign.Comma ∷ xs) s)
as_other_pairs (pair_then p ps) us s = (s.0, s.1, s.2, s.3, ap (λ xs. token.Sign sign.Comma ∷ xs) s.4)

more_pairs_so : (p : PairTree) (us ys : List Token) → SpellsPair p us → SomePairs ys → SomePairs (us ++ token.Sign sign.Comma ∷ ys)
more_pairs_so p us ys s m =
    let vs : List Token = token.Sign sign.Comma ∷ m.0 in
    (us ++ vs, (pair_then p m.1.0, (us, vs, s, as_other_pairs m.1.0 m.0 m.1.1, refl)), ap (λ xs. us ++ token.Sign sign.Comma ∷ xs) m.2 ∙ sym (append_assoc us vs (token.Sign sign.CloseCurly ∷ [])))

abbrev next_pair : ℕ → List PairTree → PairTree → List Token → Read (List PairTree)
next_pair k bs a us = when_some (after sign.Comma us) (λ vs. pairs k (bs ++ a ∷ []) vs) (expect sign.CloseCurly us >>= λ vs. got vs (bs ++ a ∷ []))

pub pairs_completed : (k : ℕ) → IsCompleted k → (bs : List PairTree) (ts : List Token) (e : Refusal) → pairs (suc k) bs ts ≡ Err e → Completable SomePairs e ts
pairs_completed k ih bs ts e h =
    elim (after_err sign.CloseCurly ts (λ us. got us bs) (then_read (pair k ts) (next_pair k bs)) e h) [
      | inl p ↦ absurd (cc)
      | inr p ↦ then_pairs p
    ]
  where
    then_pairs : then_read (pair k ts) (next_pair k bs) ≡ Err e → Completable SomePairs e ts
    then_pairs g =
        elim (then_err (pair k ts) (next_pair k bs) e g) [
          | inl q ↦ with_more APair SomePairs e ts (token.Sign sign.CloseCurly ∷ []) (λ ys p. one_pair_so p.0 ys p.1) (ih.one_pair ts e q)
          | inr q ↦ let x = (sound k).one_pair q.0 ts q.1 q.2 in behind SomePairs e x.us q.1 ts x.whole (
              elim (after_err sign.Comma q.1 (λ us. pairs k (bs ++ q.0 ∷ []) us) (expect sign.CloseCurly q.1 >>= λ us. got us (bs ++ q.0 ∷ [])) e q.3) [
                | inl p ↦ behind (λ ys. SomePairs (x.us ++ ys)) e (token.Sign sign.Comma ∷ []) p.0 q.1 p.1 (also SomePairs (λ ys. SomePairs (x.us ++ token.Sign sign.Comma ∷ ys)) e p.0 (λ ys m. more_pairs_so q.0 x.us ys x.spells m) (ih.paired (bs ++ q.0 ∷ []) p.0 e p.2))
                | inr p ↦
                    elim (expect_err sign.CloseCurly q.1 (λ us. got us (bs ++ q.0 ∷ [])) e p) [
                      | inl i ↦ at_once (λ ys. SomePairs (x.us ++ ys)) e q.1 (token.Sign sign.CloseCurly ∷ []) i (one_pair_so q.0 x.us x.spells)
                      | inr i ↦ absurd (cc)
                    ]
              ])
        ]

-- a computed name, a closing bracket, a colon and a value
abbrev Computed : List Token → Type 0
Computed ys = APair (token.Sign sign.OpenSquare ∷ ys)

abbrev value_of : ℕ → Tree → List Token → Read PairTree
value_of k i ws = expression k ws >>= λ r. Ok (computed i r.0, r.1)

abbrev colon_of : ℕ → Tree → List Token → Read PairTree
colon_of k i vs = expect sign.Colon vs >>= λ ws. value_of k i ws

abbrev close_of : ℕ → Tree → List Token → Read PairTree
close_of k i us = expect sign.CloseSquare us >>= λ vs. colon_of k i vs

colon_naught : List Token
colon_naught = token.Sign sign.Colon ∷ naught

computed_completed : (k : ℕ) → IsCompleted k → (us : List Token) (e : Refusal) → then_read (expression k us) (close_of k) ≡ Err e → Completable Computed e us
unfolding colon_naught
computed_completed k ih us e h =
    elim (then_err (expression k us) (close_of k) e h) [
      | inl q ↦ with_more (ATree 2) Computed e us (token.Sign sign.CloseSquare ∷ colon_naught) (λ ys i. (computed i.0 (a_number 0), (ys, naught, (i.1, i.2), (lit≤ tt, refl), refl))) (ih.expressions us e q)
      | inr q ↦ let x = (sound k).expressions us q.1 q.0 q.2 in behind Computed e x.us q.1 us x.whole (closed q.0 x.us q.1 x.low x.spells q.3)
    ]
  where
    last : (i : Tree) (ws vs : List Token) → 2 ≤ rank i → Spells i ws → value_of k i vs ≡ Err e → Completable (λ ys. Computed (ws ++ token.Sign sign.CloseSquare ∷ token.Sign sign.Colon ∷ ys)) e vs
    last i ws vs low s g =
        elim (then_err (expression k vs) (λ b xs. got xs (computed i b)) e g) [
          | inl q ↦ also (ATree 2) (λ ys. Computed (ws ++ token.Sign sign.CloseSquare ∷ token.Sign sign.Colon ∷ ys)) e vs (λ ys b. (computed i b.0, (ws, ys, (low, s), (b.1, b.2), refl))) (ih.expressions vs e q)
          | inr q ↦ absurd (cc)
        ]

    closed : (i : Tree) (ws vs : List Token) → 2 ≤ rank i → Spells i ws → close_of k i vs ≡ Err e → Completable (λ ys. Computed (ws ++ ys)) e vs
    closed i ws vs low s g =
        elim (expect_err sign.CloseSquare vs (λ xs. colon_of k i xs) e g) [
          | inl j ↦ at_once (λ ys. Computed (ws ++ ys)) e vs (token.Sign sign.CloseSquare ∷ colon_naught) j (computed i (a_number 0), (ws, naught, (low, s), (lit≤ tt, refl), refl))
          | inr p ↦ behind (λ ys. Computed (ws ++ ys)) e (token.Sign sign.CloseSquare ∷ []) p.0 vs p.1 (
              elim (expect_err sign.Colon p.0 (λ xs. value_of k i xs) e p.2) [
                | inl j ↦ at_once (λ ys. Computed (ws ++ token.Sign sign.CloseSquare ∷ ys)) e p.0 colon_naught j (computed i (a_number 0), (ws, naught, (low, s), (lit≤ tt, refl), refl))
                | inr q ↦ behind (λ ys. Computed (ws ++ token.Sign sign.CloseSquare ∷ ys)) e (token.Sign sign.Colon ∷ []) q.0 p.0 q.1 (last i ws q.0 low s q.2)
              ])
        ]

some_pair : (e : Refusal) (ts : List Token) → StandsAt e ts → Completable APair e ts
some_pair e ts i = at_once APair e ts (token.Name (codes "a") ∷ []) i (shorthand (codes "a") (word_tree (codes "a")), (refl, refl))

pub pair_completed : (k : ℕ) → IsCompleted k → (ts : List Token) (e : Refusal) → pair (suc k) ts ≡ Err e → Completable APair e ts
pair_completed k ih ts e h =
    elim (after_err sign.OpenSquare ts (λ us. then_read (expression k us) (close_of k)) (then_read (label ts) (λ l us. valued k l us)) e h) [
      | inl p ↦ behind APair e (token.Sign sign.OpenSquare ∷ []) p.0 ts p.1 (computed_completed k ih p.0 e p.2)
      | inr p ↦
          elim (label_err ts (λ l us. valued k l us) e p) [
            | inl i ↦ some_pair e ts i
            | inr q ↦ behind APair e (label_token q.0 ∷ []) q.1 ts q.2 (ih.one_value q.0 q.1 e q.3)
          ]
    ]

labelled_naught : (l : Label) (e : Refusal) (ts : List Token) → StandsAt e ts → Completable (λ ys. APair (label_token l ∷ ys)) e ts
unfolding colon_naught
labelled_naught l e ts i = at_once (λ ys. APair (label_token l ∷ ys)) e ts colon_naught i (labelled l (a_number 0), (naught, (lit≤ tt, refl), refl))

pub valued_completed : (k : ℕ) → IsCompleted k → (l : Label) (ts : List Token) (e : Refusal) → valued (suc k) l ts ≡ Err e → Completable (λ ys. APair (label_token l ∷ ys)) e ts
valued_completed k ih l ts e h =
    elim (after_err sign.Colon ts (λ us. then_read (expression k us) (λ b vs. got vs (labelled l b))) (lone_label l ts) e h) [
      | inl p ↦ behind (λ ys. APair (label_token l ∷ ys)) e (token.Sign sign.Colon ∷ []) p.0 ts p.1 (
          elim (then_err (expression k p.0) (λ b vs. got vs (labelled l b)) e p.2) [
            | inl q ↦ also (ATree 2) (λ ys. APair (label_token l ∷ token.Sign sign.Colon ∷ ys)) e p.0 (λ ys b. (labelled l b.0, (ys, (b.1, b.2), refl))) (ih.expressions p.0 e q)
            | inr q ↦ absurd (cc)
          ])
      | inr p ↦ labelled_naught l e ts (lone_err l ts e p)
    ]

-- heads
abbrev close_round : Tree → List Token → Read Tree
close_round a us = expect sign.CloseRound us >>= λ vs. Ok (in_brackets a, vs)

round_head : (k : ℕ) → IsCompleted k → (us : List Token) (e : Refusal) → then_read (statement k us) close_round ≡ Err e → Completable (λ ys. ATree 11 (token.Sign sign.OpenRound ∷ ys)) e us
round_head k ih us e h =
    let close : List Token = token.Sign sign.CloseRound ∷ [] in
    elim (then_err (statement k us) close_round e h) [
      | inl q ↦ with_more (ATree 1) (λ ys. ATree 11 (token.Sign sign.OpenRound ∷ ys)) e us close (λ ys t. (in_brackets t.0, lit≤ tt, (ys, t.2, refl))) (ih.statements us e q)
      | inr q ↦ let x = (sound k).statements us q.1 q.0 q.2 in behind (λ ys. ATree 11 (token.Sign sign.OpenRound ∷ ys)) e x.us q.1 us x.whole (
          elim (expect_err sign.CloseRound q.1 (λ vs. got vs (in_brackets q.0)) e q.3) [
            | inl i ↦ at_once (λ ys. ATree 11 (token.Sign sign.OpenRound ∷ (x.us ++ ys))) e q.1 close i (in_brackets q.0, lit≤ tt, (x.us, x.spells, refl))
            | inr p ↦ absurd (cc)
          ])
    ]

square_head : (k : ℕ) → IsCompleted k → (us : List Token) (e : Refusal) → then_read (items k [] us) (λ bs vs. got vs (a_list (trees_from bs))) ≡ Err e → Completable (λ ys. ATree 11 (token.Sign sign.OpenSquare ∷ ys)) e us
square_head k ih us e h =
    elim (then_err (items k [] us) (λ bs vs. got vs (a_list (trees_from bs))) e h) [
      | inl q ↦ also SomeItems (λ ys. ATree 11 (token.Sign sign.OpenSquare ∷ ys)) e us (λ ys c. (a_list c.1.0, lit≤ tt, (c.0, c.1.1, ap (λ xs. token.Sign sign.OpenSquare ∷ xs) c.2))) (ih.itemed [] us e q)
      | inr q ↦ absurd (cc)
    ]

curly_head : (k : ℕ) → IsCompleted k → (us : List Token) (e : Refusal) → then_read (pairs k [] us) (λ ps vs. got vs (a_record (pairs_from ps))) ≡ Err e → Completable (λ ys. ATree 11 (token.Sign sign.OpenCurly ∷ ys)) e us
curly_head k ih us e h =
    elim (then_err (pairs k [] us) (λ ps vs. got vs (a_record (pairs_from ps))) e h) [
      | inl q ↦ also SomePairs (λ ys. ATree 11 (token.Sign sign.OpenCurly ∷ ys)) e us (λ ys c. (a_record c.1.0, lit≤ tt, (c.0, c.1.1, ap (λ xs. token.Sign sign.OpenCurly ∷ xs) c.2))) (ih.paired [] us e q)
      | inr q ↦ absurd (cc)
    ]

abbrev in_square : ℕ → List Token → Read Tree
in_square k us = then_read (items k [] us) (λ bs vs. got vs (a_list (trees_from bs)))

abbrev in_curly : ℕ → List Token → Read Tree
in_curly k us = then_read (pairs k [] us) (λ ps vs. got vs (a_record (pairs_from ps)))

pub head_completed : (k : ℕ) → IsCompleted k → (ts : List Token) (e : Refusal) → head (suc k) ts ≡ Err e → Completable (ATree 11) e ts
head_completed k ih ts e h =
    elim (after_err sign.OpenRound ts (λ us. then_read (statement k us) close_round) (when_some (after sign.OpenSquare ts) (in_square k) (when_some (after sign.OpenCurly ts) (in_curly k) (leaf ts))) e h) [
      | inl p ↦ behind (ATree 11) e (token.Sign sign.OpenRound ∷ []) p.0 ts p.1 (round_head k ih p.0 e p.2)
      | inr p ↦
          elim (after_err sign.OpenSquare ts (in_square k) (when_some (after sign.OpenCurly ts) (in_curly k) (leaf ts)) e p) [
            | inl q ↦ behind (ATree 11) e (token.Sign sign.OpenSquare ∷ []) q.0 ts q.1 (square_head k ih q.0 e q.2)
            | inr q ↦
                elim (after_err sign.OpenCurly ts (in_curly k) (leaf ts) e q) [
                  | inl r ↦ behind (ATree 11) e (token.Sign sign.OpenCurly ∷ []) r.0 ts r.1 (curly_head k ih r.0 e r.2)
                  | inr r ↦ at_once (ATree 11) e ts naught (leaf_err ts e r) (naught_so 11 (lit≤ tt))
                ]
          ]
    ]

-- any number of calls
no_room : IsCompleted zero
no_room =
    record {
      statements = λ ts e h. at_once (ATree 1) e ts naught (unfit_err ts e h) (naught_so 1 (lit≤ tt));
      filterings = λ a ws ts e s h. enough 1 a ws e ts (rank_one a) s (unfit_err ts e h);
      named = λ a ws ts e s h. no_filter_named a ws ts e s (unfit_err ts e h);
      argued = λ bs ts e h. at_once SomeArguments e ts [] (unfit_err ts e h) (no_trees, refl);
      expressions = λ ts e h. at_once (ATree 2) e ts naught (unfit_err ts e h) (naught_so 2 (lit≤ tt));
      assignments = λ a ws ts e l s h. enough 2 a ws e ts (omega arith) s (unfit_err ts e h);
      ternaries = λ ts e h. at_once (ATree 3) e ts naught (unfit_err ts e h) (naught_so 3 (lit≤ tt));
      choices = λ a ws ts e l s h. enough 3 a ws e ts (omega arith) s (unfit_err ts e h);
      operated = λ l ts e h. at_once (ATree (tightness l)) e ts naught (unfit_err ts e h) (naught_so (tightness l) (omega (arith, tight_low l)));
      operands = λ l ts e h. at_once (ATree (suc (tightness l))) e ts naught (unfit_err ts e h) (naught_so (suc (tightness l)) (omega (arith, tight_low l)));
      more_operated = λ l a ws ts e m s h. enough (tightness l) a ws e ts m s (unfit_err ts e h);
      unaries = λ ts e h. at_once (ATree 10) e ts naught (unfit_err ts e h) (naught_so 10 (lit≤ tt));
      primaries = λ ts e h. at_once (ATree 11) e ts naught (unfit_err ts e h) (naught_so 11 (lit≤ tt));
      postfixes = λ a ws ts e l s h. enough 11 a ws e ts l s (unfit_err ts e h);
      callings = λ ts e h. at_once SomeValues e ts (token.Sign sign.CloseRound ∷ []) (unfit_err ts e h) ([], (no_trees, refl), refl);
      valued_all = λ bs ts e h. at_once ManyValues e ts (naught ++ token.Sign sign.CloseRound ∷ []) (unfit_err ts e h) (one_value_so (a_number 0) naught refl);
      itemed = λ bs ts e h. at_once SomeItems e ts (token.Sign sign.CloseSquare ∷ []) (unfit_err ts e h) ([], (no_trees, refl), refl);
      paired = λ ps ts e h. at_once SomePairs e ts (token.Sign sign.CloseCurly ∷ []) (unfit_err ts e h) ([], (no_pairs, refl), refl);
      one_pair = λ ts e h. some_pair e ts (unfit_err ts e h);
      one_value = λ l ts e h. labelled_naught l e ts (unfit_err ts e h);
      heads = λ ts e h. at_once (ATree 11) e ts naught (unfit_err ts e h) (naught_so 11 (lit≤ tt));
    }

pub completed : (k : ℕ) → IsCompleted k
completed zero = no_room
completed (suc k) =
    let ih = completed k in
    record {
      statements = statement_completed k ih;
      filterings = filters_completed k ih;
      named = named_completed k ih;
      argued = arguments_completed k ih;
      expressions = expression_completed k ih;
      assignments = assignment_completed k ih;
      ternaries = ternary_completed k ih;
      choices = choice_completed k ih;
      operated = operators_completed k ih;
      operands = operand_completed k ih;
      more_operated = operations_completed k ih;
      unaries = unary_completed k ih;
      primaries = primary_completed k ih;
      postfixes = postfix_completed k ih;
      callings = called_completed k ih;
      valued_all = values_completed k ih;
      itemed = items_completed k ih;
      paired = pairs_completed k ih;
      one_pair = pair_completed k ih;
      one_value = valued_completed k ih;
      heads = head_completed k ih;
    }
