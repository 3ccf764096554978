-- What is read is spelled so: heads, lists and programs.
use Rattle.std.proofs.Common.{◌≡◌, ◌≤◌, ◌+◌, ◌*◌, ℕ, zero, suc, true, false, List, [], ◌∷◌, ◌++◌, length, refl, ap, ◌∙◌, sym, subst, arith, append_assoc, append-nil, inl, inr, lit≤}
use Rattle.std.specs.Prelude.{Result, Ok, Err, ◌⊎◌, codes}
use Rattle.ng_base.specs.Meets.{◌>>=◌}
use Rattle.ng_language.specs.Trees.{Tree, Trees, PairTree, Pairs, a_number, a_text, a_name, the_scope, a_constant, a_list, a_record, in_brackets, no_trees, tree_then, labelled, shorthand, computed, no_pairs, pair_then, trees_from, pairs_from}
use Rattle.ng_language.specs.Tokens.{after, label_at}
use Rattle.ng_language.specs.Reading.{Read, unfit, expect, leaf, label, lone_label, word_tree, statement, expression, called, values, items, pairs, pair, valued, head, statements, separated}
use Rattle.ng_language.specs.Choice.{when_some}
use Rattle.ng_language.specs.Grammar.{rank, label_token, Spells, SpellsValues, SpellsMore, SpellsItems, SpellsOthers, SpellsPair, SpellsPairs, SpellsOtherPairs, IsProgram, IsParsed, no_statement, last_statement, empty_statement, statement_then}
use Rattle.ng_language.specs.declared.syntax.Sign.TheVariants as sign
use Rattle.ng_language.specs.declared.syntax.Token.{Token}
use Rattle.ng_language.specs.declared.syntax.Token.TheVariants as token
use Rattle.ng_language.specs.declared.syntax.Label.{Label}
use Rattle.ng_language.specs.declared.syntax.Label.TheVariants as labels
use Rattle.std.specs.Str.{bytes_eq}
use Rattle.ng_language.specs.declared.syntax.Constant.TheVariants as constants
use Rattle.ng_language.specs.declared.syntax.Refusal.{Refusal}
use Rattle.ng_language.proofs.Sound.{got, ok_first, ok_rest, some_or, expected, Spelled, moved, here, SpelledValues, SpelledCalled, SpelledItems, SpelledPairs, SpelledPair, IsSound, statement_sound, filters_sound, named_sound, arguments_sound, expression_sound, assignment_sound, ternary_sound, choice_sound, operators_sound, operand_sound, operations_sound, unary_sound, primary_sound, postfix_sound}
use Rattle.ng_language.proofs.Fronts.{after_some, label_some}
use Rattle.ng_language.specs.Parsing.{one_too_many, located, low, parsed, parse_fault}
use Rattle.ng_language.specs.declared.syntax.ParseFault.{ParseFault}
use Rattle.ng_language.specs.declared.syntax.ParseKind.TheVariants as kinds
use Rattle.ng_language.specs.Heights.{heights}
use Rattle.std.specs.Prelude.{nat_eq, nat_le, slice_index_or}
use Rattle.std.proofs.lemmas.Bool.Decides.{nat_tests}
use Rattle.ng_base.proofs.Binds.{bind_ok, chosen, guarded, if_held}
use Rattle.ng_language.proofs.Complete.{list_of, pair_list, trees_back, pairs_back, parsed_so}

-- trees of one token
abbrev IsWordTree : Tree → Type 0
IsWordTree (a_name n) = Unit {0}
IsWordTree the_scope = Unit {0}
IsWordTree (a_constant d) = Unit {0}
IsWordTree _ = ⊥

word_spells : (n : List ℕ) (t e : Tree) → word_tree n ≡ t → t ≡ e → bytes_eq n (codes "$locals") ≡ false → IsWordTree t → (11 ≤ rank e) × Spells e (token.Name n ∷ [])
word_spells n t e w same l k = subst (λ (x : Tree). (11 ≤ rank x) × Spells x (token.Name n ∷ [])) same (kind t k w)
  where
    kind : (t : Tree) → IsWordTree t → word_tree n ≡ t → (11 ≤ rank t) × Spells t (token.Name n ∷ [])
    kind (a_name m) k w = (lit≤ tt, (n, refl, w, l))
    kind the_scope k w = (lit≤ tt, (n, refl, w, l))
    kind (a_constant d) k w = (lit≤ tt, (n, refl, w, l))
    kind t k w = absurd k

word_kind : (n : List ℕ) → IsWordTree (word_tree n)
word_kind n =
    if_held (bytes_eq n (codes "this")) the_scope _ IsWordTree (λ h. tt) (λ h.
    if_held (bytes_eq n (codes "true")) (a_constant constants.True) _ IsWordTree (λ h. tt) (λ h.
    if_held (bytes_eq n (codes "false")) (a_constant constants.False) _ IsWordTree (λ h. tt) (λ h.
    if_held (bytes_eq n (codes "null")) (a_constant constants.Null) _ IsWordTree (λ h. tt) (λ h.
    if_held (bytes_eq n (codes "undefined")) (a_constant constants.Undefined) _ IsWordTree (λ h. tt) (λ h. tt)))))

one_token : (t : Token) (e : Tree) (ts rest : List Token) → (11 ≤ rank e) × Spells e (t ∷ []) → ts ≡ rest → Spelled 11 e (t ∷ ts) rest
one_token t e ts rest s h = record { us = t ∷ []; low = s.0; spells = s.1; whole = ap (λ xs. t ∷ xs) h }

leaf_sound : (ts rest : List Token) (e : Tree) → leaf ts ≡ Ok (e, rest) → Spelled 11 e ts rest
leaf_sound [] rest e h = absurd (cc)
leaf_sound (token.Name n ∷ ts) rest e h =
    elim (chosen (bytes_eq n (codes "$locals")) (unfit (token.Name n ∷ ts)) (got ts (word_tree n)) (Ok (e, rest)) h) [
      | inl g ↦ absurd (cc)
      | inr g ↦ one_token (token.Name n) e ts rest (word_spells n (word_tree n) e refl (ok_first (word_tree n) e ts rest g.1) g.0 (word_kind n)) (ok_rest (word_tree n) e ts rest g.1)
    ]
leaf_sound (token.Number n ∷ ts) rest e h =
    let same : a_number n ≡ e = ok_first (a_number n) e ts rest h in
    one_token (token.Number n) e ts rest (subst (λ (x : Tree). (11 ≤ rank x) × Spells x (token.Number n ∷ [])) same (lit≤ tt, refl)) (ok_rest (a_number n) e ts rest h)
leaf_sound (token.Text n ∷ ts) rest e h =
    let same : a_text n ≡ e = ok_first (a_text n) e ts rest h in
    one_token (token.Text n) e ts rest (subst (λ (x : Tree). (11 ≤ rank x) × Spells x (token.Text n ∷ [])) same (lit≤ tt, refl)) (ok_rest (a_text n) e ts rest h)
leaf_sound (token.Sign n ∷ ts) rest e h = absurd (cc)

-- the arguments of a call
as_more : (t : Tree) (ts : Trees) (us : List Token) → SpellsValues (tree_then t ts) us → SpellsMore (tree_then t ts) (token.Sign sign.Comma ∷ us)
as_more t ts us s = (s.0, s.1, s.2, s.3, ap (λ xs. token.Sign sign.Comma ∷ xs) s.4)

values_sound : (k : ℕ) → IsSound k → (bs cs : List Tree) (ts rest : List Token) → values (suc k) bs ts ≡ Ok (cs, rest) → SpelledValues bs cs ts rest
values_sound k ih bs cs ts rest h =
    let b = bind_ok (statement k ts) (λ r. when_some (after sign.Comma r.1) (λ us. values k (bs ++ r.0 ∷ []) us) (expect sign.CloseRound r.1 >>= λ us. Ok (bs ++ r.0 ∷ [], us))) (cs, rest) h in
    let t = b.0.0 in let left = b.0.1 in
    let x = ih.statements ts left t b.1 in
    elim (some_or (after sign.Comma left) (λ us. values k (bs ++ t ∷ []) us) (expect sign.CloseRound left >>= λ us. Ok (bs ++ t ∷ [], us)) (Ok (cs, rest)) b.2) [
      | inl p ↦
          let y = ih.valued_all (bs ++ t ∷ []) cs p.0 rest p.2 in
          let vs : List Token = token.Sign sign.Comma ∷ y.us in
          record {
            t = t;
            more = tree_then y.t y.more;
            us = x.us ++ vs;
            spells = (x.us, vs, x.spells, as_more y.t y.more y.us y.spells, refl);
            whole = x.whole ∙ (ap (λ xs. x.us ++ xs) (after_some sign.Comma left p.0 p.1 ∙ ap (λ xs. token.Sign sign.Comma ∷ xs) y.whole) ∙ sym (append_assoc x.us vs (token.Sign sign.CloseRound ∷ rest)));
            all = y.all ∙ append_assoc bs (t ∷ []) (y.t ∷ list_of y.more);
          }
      | inr p ↦
          let d = bind_ok (expect sign.CloseRound left) (λ us. Ok (bs ++ t ∷ [], us)) (cs, rest) p.1 in
          let same : d.0 ≡ rest = ok_rest (bs ++ t ∷ []) cs d.0 rest d.2 in
          record {
            t = t;
            more = no_trees;
            us = x.us;
            spells = (x.us, [], x.spells, refl, sym (append-nil x.us));
            whole = x.whole ∙ ap (λ xs. x.us ++ xs) (expected sign.CloseRound left d.0 d.1 ∙ ap (λ xs. token.Sign sign.CloseRound ∷ xs) same);
            all = sym (ok_first (bs ++ t ∷ []) cs d.0 rest d.2);
          }
    ]

called_sound : (k : ℕ) → IsSound k → (cs : List Tree) (ts rest : List Token) → called (suc k) ts ≡ Ok (cs, rest) → SpelledCalled cs ts rest
called_sound k ih cs ts rest h =
    elim (some_or (after sign.CloseRound ts) (λ us. got us []) (values k [] ts) (Ok (cs, rest)) h) [
      | inl p ↦ record {
        more = no_trees;
        us = [];
        spells = refl;
        whole = after_some sign.CloseRound ts p.0 p.1 ∙ ap (λ xs. token.Sign sign.CloseRound ∷ xs) (ok_rest [] cs p.0 rest p.2);
        all = sym (ok_first [] cs p.0 rest p.2);
      }
      | inr p ↦
          let y = ih.valued_all [] cs ts rest p.1 in
          record { more = tree_then y.t y.more; us = y.us; spells = y.spells; whole = y.whole; all = y.all }
    ]

-- the items of a list
as_others : (ts : Trees) (us : List Token) → SpellsItems ts us → SpellsOthers ts (token.Sign sign.Comma ∷ us)
as_others no_trees us s = inr (ap (λ xs. token.Sign sign.Comma ∷ xs) s)
as_others (tree_then t ts) us s = (s.0, s.1, s.2, s.3, ap (λ xs. token.Sign sign.Comma ∷ xs) s.4)

items_sound : (k : ℕ) → IsSound k → (bs cs : List Tree) (ts rest : List Token) → items (suc k) bs ts ≡ Ok (cs, rest) → SpelledItems bs cs ts rest
items_sound k ih bs cs ts rest h =
    elim (some_or (after sign.CloseSquare ts) (λ us. got us bs) (statement k ts >>= λ r. when_some (after sign.Comma r.1) (λ us. items k (bs ++ r.0 ∷ []) us) (expect sign.CloseSquare r.1 >>= λ us. Ok (bs ++ r.0 ∷ [], us))) (Ok (cs, rest)) h) [
      | inl p ↦ record {
        more = no_trees;
        us = [];
        spells = refl;
        whole = after_some sign.CloseSquare ts p.0 p.1 ∙ ap (λ xs. token.Sign sign.CloseSquare ∷ xs) (ok_rest bs cs p.0 rest p.2);
        all = sym (ok_first bs cs p.0 rest p.2) ∙ sym (append-nil bs);
      }
      | inr p ↦ item_sound p.1
    ]
  where
    item_sound : (statement k ts >>= λ r. when_some (after sign.Comma r.1) (λ us. items k (bs ++ r.0 ∷ []) us) (expect sign.CloseSquare r.1 >>= λ us. Ok (bs ++ r.0 ∷ [], us))) ≡ Ok (cs, rest) → SpelledItems bs cs ts rest
    item_sound g =
        let b = bind_ok (statement k ts) (λ r. when_some (after sign.Comma r.1) (λ us. items k (bs ++ r.0 ∷ []) us) (expect sign.CloseSquare r.1 >>= λ us. Ok (bs ++ r.0 ∷ [], us))) (cs, rest) g in
        let t = b.0.0 in let left = b.0.1 in
        let x = ih.statements ts left t b.1 in
        elim (some_or (after sign.Comma left) (λ us. items k (bs ++ t ∷ []) us) (expect sign.CloseSquare left >>= λ us. Ok (bs ++ t ∷ [], us)) (Ok (cs, rest)) b.2) [
          | inl p ↦
              let y = ih.itemed (bs ++ t ∷ []) cs p.0 rest p.2 in
              let vs : List Token = token.Sign sign.Comma ∷ y.us in
              record {
                more = tree_then t y.more;
                us = x.us ++ vs;
                spells = (x.us, vs, x.spells, as_others y.more y.us y.spells, refl);
                whole = x.whole ∙ (ap (λ xs. x.us ++ xs) (after_some sign.Comma left p.0 p.1 ∙ ap (λ xs. token.Sign sign.Comma ∷ xs) y.whole) ∙ sym (append_assoc x.us vs (token.Sign sign.CloseSquare ∷ rest)));
                all = y.all ∙ append_assoc bs (t ∷ []) (list_of y.more);
              }
          | inr p ↦
              let d = bind_ok (expect sign.CloseSquare left) (λ us. Ok (bs ++ t ∷ [], us)) (cs, rest) p.1 in
              let same : d.0 ≡ rest = ok_rest (bs ++ t ∷ []) cs d.0 rest d.2 in
              record {
                more = tree_then t no_trees;
                us = x.us;
                spells = (x.us, [], x.spells, inl refl, sym (append-nil x.us));
                whole = x.whole ∙ ap (λ xs. x.us ++ xs) (expected sign.CloseSquare left d.0 d.1 ∙ ap (λ xs. token.Sign sign.CloseSquare ∷ xs) same);
                all = sym (ok_first (bs ++ t ∷ []) cs d.0 rest d.2);
              }
        ]

-- the pairs of a record
as_other_pairs : (ps : Pairs) (us : List Token) → SpellsPairs ps us → SpellsOtherPairs ps (token.Sign sign.Comma ∷ us)
as_other_pairs no_pairs us s = inr (ap (λ xs. token.Sign sign.Comma ∷ xs) s)
as_other_pairs (pair_then p ps) us s = (s.0, s.1, s.2, s.3, ap (λ xs. token.Sign sign.Comma ∷ xs) s.4)

pairs_sound : (k : ℕ) → IsSound k → (bs cs : List PairTree) (ts rest : List Token) → pairs (suc k) bs ts ≡ Ok (cs, rest) → SpelledPairs bs cs ts rest
pairs_sound k ih bs cs ts rest h =
    elim (some_or (after sign.CloseCurly ts) (λ us. got us bs) (pair k ts >>= λ r. when_some (after sign.Comma r.1) (λ us. pairs k (bs ++ r.0 ∷ []) us) (expect sign.CloseCurly r.1 >>= λ us. Ok (bs ++ r.0 ∷ [], us))) (Ok (cs, rest)) h) [
      | inl p ↦ record {
        more = no_pairs;
        us = [];
        spells = refl;
        whole = after_some sign.CloseCurly ts p.0 p.1 ∙ ap (λ xs. token.Sign sign.CloseCurly ∷ xs) (ok_rest bs cs p.0 rest p.2);
        all = sym (ok_first bs cs p.0 rest p.2) ∙ sym (append-nil bs);
      }
      | inr p ↦ one_sound p.1
    ]
  where
    one_sound : (pair k ts >>= λ r. when_some (after sign.Comma r.1) (λ us. pairs k (bs ++ r.0 ∷ []) us) (expect sign.CloseCurly r.1 >>= λ us. Ok (bs ++ r.0 ∷ [], us))) ≡ Ok (cs, rest) → SpelledPairs bs cs ts rest
    one_sound g =
        let b = bind_ok (pair k ts) (λ r. when_some (after sign.Comma r.1) (λ us. pairs k (bs ++ r.0 ∷ []) us) (expect sign.CloseCurly r.1 >>= λ us. Ok (bs ++ r.0 ∷ [], us))) (cs, rest) g in
        let t = b.0.0 in let left = b.0.1 in
        let x = ih.one_pair t ts left b.1 in
        elim (some_or (after sign.Comma left) (λ us. pairs k (bs ++ t ∷ []) us) (expect sign.CloseCurly left >>= λ us. Ok (bs ++ t ∷ [], us)) (Ok (cs, rest)) b.2) [
          | inl p ↦
              let y = ih.paired (bs ++ t ∷ []) cs p.0 rest p.2 in
              let vs : List Token = token.Sign sign.Comma ∷ y.us in
              record {
                more = pair_then t y.more;
                us = x.us ++ vs;
                spells = (x.us, vs, x.spells, as_other_pairs y.more y.us y.spells, refl);
                whole = x.whole ∙ (ap (λ xs. x.us ++ xs) (after_some sign.Comma left p.0 p.1 ∙ ap (λ xs. token.Sign sign.Comma ∷ xs) y.whole) ∙ sym (append_assoc x.us vs (token.Sign sign.CloseCurly ∷ rest)));
                all = y.all ∙ append_assoc bs (t ∷ []) (pair_list y.more);
              }
          | inr p ↦
              let d = bind_ok (expect sign.CloseCurly left) (λ us. Ok (bs ++ t ∷ [], us)) (cs, rest) p.1 in
              let same : d.0 ≡ rest = ok_rest (bs ++ t ∷ []) cs d.0 rest d.2 in
              record {
                more = pair_then t no_pairs;
                us = x.us;
                spells = (x.us, [], x.spells, inl refl, sym (append-nil x.us));
                whole = x.whole ∙ ap (λ xs. x.us ++ xs) (expected sign.CloseCurly left d.0 d.1 ∙ ap (λ xs. token.Sign sign.CloseCurly ∷ xs) same);
                all = sym (ok_first (bs ++ t ∷ []) cs d.0 rest d.2);
              }
        ]

computed_sound : (k : ℕ) → IsSound k → (p : PairTree) (ts xs rest : List Token) → ts ≡ token.Sign sign.OpenSquare ∷ xs →
    (expression k xs >>= λ n. expect sign.CloseSquare n.1 >>= λ vs. expect sign.Colon vs >>= λ ws. expression k ws >>= λ r. got r.1 (computed n.0 r.0)) ≡ Ok (p, rest) → SpelledPair p ts rest
computed_sound k ih p ts xs rest is h =
    let b = bind_ok (expression k xs) (λ n. expect sign.CloseSquare n.1 >>= λ vs. expect sign.Colon vs >>= λ ws. expression k ws >>= λ r. got r.1 (computed n.0 r.0)) (p, rest) h in
    let d = bind_ok (expect sign.CloseSquare b.0.1) (λ vs. expect sign.Colon vs >>= λ ws. expression k ws >>= λ r. got r.1 (computed b.0.0 r.0)) (p, rest) b.2 in
    let f = bind_ok (expect sign.Colon d.0) (λ ws. expression k ws >>= λ r. got r.1 (computed b.0.0 r.0)) (p, rest) d.2 in
    let g = bind_ok (expression k f.0) (λ r. got r.1 (computed b.0.0 r.0)) (p, rest) f.2 in
    let x = ih.expressions xs b.0.1 b.0.0 b.1 in
    let y = ih.expressions f.0 g.0.1 g.0.0 g.1 in
    let last : List Token = token.Sign sign.CloseSquare ∷ token.Sign sign.Colon ∷ y.us in
    let all : List Token = token.Sign sign.OpenSquare ∷ (x.us ++ last) in
    let left : g.0.1 ≡ rest = ok_rest (computed b.0.0 g.0.0) p g.0.1 rest g.2 in
    let inner : b.0.1 ≡ last ++ rest = expected sign.CloseSquare b.0.1 d.0 d.1 ∙ ap (λ zs. token.Sign sign.CloseSquare ∷ zs) (expected sign.Colon d.0 f.0 f.1 ∙ ap (λ zs. token.Sign sign.Colon ∷ zs) (y.whole ∙ ap (λ zs. y.us ++ zs) left)) in
    record {
      us = all;
      spells = subst (λ (q : PairTree). SpellsPair q all) (ok_first (computed b.0.0 g.0.0) p g.0.1 rest g.2) (x.us, y.us, (x.low, x.spells), (y.low, y.spells), refl);
      whole = is ∙ ap (λ zs. token.Sign sign.OpenSquare ∷ zs) (x.whole ∙ (ap (λ zs. x.us ++ zs) inner ∙ sym (append_assoc x.us last rest)));
    }

label_sound : (ts us : List Token) (l : Label) → label ts ≡ Ok (l, us) → ts ≡ label_token l ∷ us
label_sound ts us l h =
    elim (some_or (label_at ts) (λ q. let r : Read Label = Ok q in r) (unfit ts) (Ok (l, us)) h) [
      | inl p ↦ label_some ts p.0.1 p.0.0 p.1 ∙ (ap (λ x. label_token x ∷ p.0.1) (ok_first p.0.0 l p.0.1 us p.2) ∙ ap (λ xs. label_token l ∷ xs) (ok_rest p.0.0 l p.0.1 us p.2))
      | inr p ↦ absurd (cc)
    ]

pair_sound : (k : ℕ) → IsSound k → (p : PairTree) (ts rest : List Token) → pair (suc k) ts ≡ Ok (p, rest) → SpelledPair p ts rest
pair_sound k ih p ts rest h =
    elim (some_or (after sign.OpenSquare ts)
    (λ xs. expression k xs >>= λ n. expect sign.CloseSquare n.1 >>= λ vs. expect sign.Colon vs >>= λ ws. expression k ws >>= λ r. Ok (computed n.0 r.0, r.1))
    (label ts >>= λ l. valued k l.0 l.1) (Ok (p, rest)) h) [
      | inl q ↦ computed_sound k ih p ts q.0 rest (after_some sign.OpenSquare ts q.0 q.1) q.2
      | inr q ↦
          let b = bind_ok (label ts) (λ l. valued k l.0 l.1) (p, rest) q.1 in
          let x = ih.one_value b.0.0 p b.0.1 rest b.2 in
          record { us = x.us; spells = x.spells; whole = label_sound ts b.0.1 b.0.0 b.1 ∙ x.whole }
    ]

lone_sound : (l : Label) (p : PairTree) (ts rest : List Token) → lone_label l ts ≡ Ok (p, rest) → SpelledPair p (label_token l ∷ ts) rest
lone_sound (labels.Name n) p ts rest h =
    let same : shorthand n (word_tree n) ≡ p = ok_first (shorthand n (word_tree n)) p ts rest h in
    record {
      us = token.Name n ∷ [];
      spells = subst (λ (q : PairTree). SpellsPair q (token.Name n ∷ [])) same (refl, refl);
      whole = ap (λ xs. token.Name n ∷ xs) (ok_rest (shorthand n (word_tree n)) p ts rest h);
    }
lone_sound (labels.Text n) p ts rest h = absurd (cc)
lone_sound (labels.Number n) p ts rest h = absurd (cc)

valued_sound : (k : ℕ) → IsSound k → (l : Label) (p : PairTree) (ts rest : List Token) → valued (suc k) l ts ≡ Ok (p, rest) → SpelledPair p (label_token l ∷ ts) rest
valued_sound k ih l p ts rest h =
    elim (some_or (after sign.Colon ts) (λ xs. expression k xs >>= λ r. Ok (labelled l r.0, r.1)) (lone_label l ts) (Ok (p, rest)) h) [
      | inl q ↦
          let b = bind_ok (expression k q.0) (λ r. Ok (labelled l r.0, r.1)) (p, rest) q.2 in
          let x = ih.expressions q.0 b.0.1 b.0.0 b.1 in
          let all : List Token = label_token l ∷ token.Sign sign.Colon ∷ x.us in
          record {
            us = all;
            spells = subst (λ (y : PairTree). SpellsPair y all) (ok_first (labelled l b.0.0) p b.0.1 rest b.2) (x.us, (x.low, x.spells), refl);
            whole = ap (λ xs. label_token l ∷ xs) (after_some sign.Colon ts q.0 q.1 ∙ ap (λ xs. token.Sign sign.Colon ∷ xs) (x.whole ∙ ap (λ xs. x.us ++ xs) (ok_rest (labelled l b.0.0) p b.0.1 rest b.2)));
          }
      | inr q ↦ lone_sound l p ts rest q.1
    ]

-- heads
abbrev in_round : ℕ → List Token → Read Tree
in_round k us = statement k us >>= λ r. expect sign.CloseRound r.1 >>= λ vs. Ok (in_brackets r.0, vs)

abbrev in_square : ℕ → List Token → Read Tree
in_square k us = items k [] us >>= λ r. Ok (a_list (trees_from r.0), r.1)

abbrev in_curly : ℕ → List Token → Read Tree
in_curly k us = pairs k [] us >>= λ r. Ok (a_record (pairs_from r.0), r.1)

round_head : (k : ℕ) → IsSound k → (ts rest : List Token) (e : Tree) (xs : List Token) → ts ≡ token.Sign sign.OpenRound ∷ xs → in_round k xs ≡ Ok (e, rest) → Spelled 11 e ts rest
round_head k ih ts rest e xs is g =
    let b = bind_ok (statement k xs) (λ r. expect sign.CloseRound r.1 >>= λ vs. Ok (in_brackets r.0, vs)) (e, rest) g in
    let d = bind_ok (expect sign.CloseRound b.0.1) (λ vs. Ok (in_brackets b.0.0, vs)) (e, rest) b.2 in
    let x = ih.statements xs b.0.1 b.0.0 b.1 in
    let last : List Token = token.Sign sign.CloseRound ∷ [] in
    let all : List Token = token.Sign sign.OpenRound ∷ (x.us ++ last) in
    moved 11 e (all ++ d.0) ts rest (is ∙ ap (λ zs. token.Sign sign.OpenRound ∷ zs) (x.whole ∙ (ap (λ zs. x.us ++ zs) (expected sign.CloseRound b.0.1 d.0 d.1) ∙ sym (append_assoc x.us last d.0)))) (here 11 (in_brackets b.0.0) e all d.0 rest (lit≤ tt) (x.us, x.spells, refl) d.2)

square_head : (k : ℕ) → IsSound k → (ts rest : List Token) (e : Tree) (xs : List Token) → ts ≡ token.Sign sign.OpenSquare ∷ xs → in_square k xs ≡ Ok (e, rest) → Spelled 11 e ts rest
square_head k ih ts rest e xs is g =
    let b = bind_ok (items k [] xs) (λ r. Ok (a_list (trees_from r.0), r.1)) (e, rest) g in
    let x = ih.itemed [] b.0.0 xs b.0.1 b.1 in
    let same : trees_from b.0.0 ≡ x.more = ap trees_from x.all ∙ trees_back x.more in
    let last : List Token = token.Sign sign.CloseSquare ∷ [] in
    let all : List Token = token.Sign sign.OpenSquare ∷ (x.us ++ last) in
    let spelled : Spells (a_list (trees_from b.0.0)) all = subst (λ (q : Trees). Spells (a_list q) all) (sym same) (x.us, x.spells, refl) in
    moved 11 e (all ++ b.0.1) ts rest (is ∙ ap (λ zs. token.Sign sign.OpenSquare ∷ zs) (x.whole ∙ sym (append_assoc x.us last b.0.1))) (here 11 (a_list (trees_from b.0.0)) e all b.0.1 rest (lit≤ tt) spelled b.2)

curly_head : (k : ℕ) → IsSound k → (ts rest : List Token) (e : Tree) (xs : List Token) → ts ≡ token.Sign sign.OpenCurly ∷ xs → in_curly k xs ≡ Ok (e, rest) → Spelled 11 e ts rest
curly_head k ih ts rest e xs is g =
    let b = bind_ok (pairs k [] xs) (λ r. Ok (a_record (pairs_from r.0), r.1)) (e, rest) g in
    let x = ih.paired [] b.0.0 xs b.0.1 b.1 in
    let same : pairs_from b.0.0 ≡ x.more = ap pairs_from x.all ∙ pairs_back x.more in
    let last : List Token = token.Sign sign.CloseCurly ∷ [] in
    let all : List Token = token.Sign sign.OpenCurly ∷ (x.us ++ last) in
    let spelled : Spells (a_record (pairs_from b.0.0)) all = subst (λ (q : Pairs). Spells (a_record q) all) (sym same) (x.us, x.spells, refl) in
    moved 11 e (all ++ b.0.1) ts rest (is ∙ ap (λ zs. token.Sign sign.OpenCurly ∷ zs) (x.whole ∙ sym (append_assoc x.us last b.0.1))) (here 11 (a_record (pairs_from b.0.0)) e all b.0.1 rest (lit≤ tt) spelled b.2)

head_sound : (k : ℕ) → IsSound k → (ts rest : List Token) (e : Tree) → head (suc k) ts ≡ Ok (e, rest) → Spelled 11 e ts rest
head_sound k ih ts rest e h =
    elim (some_or (after sign.OpenRound ts) (in_round k) (when_some (after sign.OpenSquare ts) (in_square k) (when_some (after sign.OpenCurly ts) (in_curly k) (leaf ts))) (Ok (e, rest)) h) [
      | inl p ↦ round_head k ih ts rest e p.0 (after_some sign.OpenRound ts p.0 p.1) p.2
      | inr p ↦
          elim (some_or (after sign.OpenSquare ts) (in_square k) (when_some (after sign.OpenCurly ts) (in_curly k) (leaf ts)) (Ok (e, rest)) p.1) [
            | inl q ↦ square_head k ih ts rest e q.0 (after_some sign.OpenSquare ts q.0 q.1) q.2
            | inr q ↦
                elim (some_or (after sign.OpenCurly ts) (in_curly k) (leaf ts) (Ok (e, rest)) q.1) [
                  | inl r ↦ curly_head k ih ts rest e r.0 (after_some sign.OpenCurly ts r.0 r.1) r.2
                  | inr r ↦ leaf_sound ts rest e r.1
                ]
          ]
    ]

-- any number of calls
pub sound : (k : ℕ) → IsSound k
sound zero = record {
  statements = λ ts rest e h. absurd (cc);
  filterings = λ a e us ts rest s h. absurd (cc);
  named = λ a e us ts rest s h. absurd (cc);
  argued = λ bs cs ts rest h. absurd (cc);
  expressions = λ ts rest e h. absurd (cc);
  assignments = λ a e us ts rest l s h. absurd (cc);
  ternaries = λ ts rest e h. absurd (cc);
  choices = λ a e us ts rest l s h. absurd (cc);
  operated = λ l ts rest e h. absurd (cc);
  operands = λ l ts rest e h. absurd (cc);
  more_operated = λ l a e us ts rest m s h. absurd (cc);
  unaries = λ ts rest e h. absurd (cc);
  primaries = λ ts rest e h. absurd (cc);
  postfixes = λ a e us ts rest l s h. absurd (cc);
  callings = λ cs ts rest h. absurd (cc);
  valued_all = λ bs cs ts rest h. absurd (cc);
  itemed = λ bs cs ts rest h. absurd (cc);
  paired = λ bs cs ts rest h. absurd (cc);
  one_pair = λ p ts rest h. absurd (cc);
  one_value = λ l p ts rest h. absurd (cc);
  heads = λ ts rest e h. absurd (cc);
}
sound (suc k) =
    let ih = sound k in
    record {
      statements = statement_sound k ih;
      filterings = filters_sound k ih;
      named = named_sound k ih;
      argued = arguments_sound k ih;
      expressions = expression_sound k ih;
      assignments = assignment_sound k ih;
      ternaries = ternary_sound k ih;
      choices = choice_sound k ih;
      operated = operators_sound k ih;
      operands = operand_sound k ih;
      more_operated = operations_sound k ih;
      unaries = unary_sound k ih;
      primaries = primary_sound k ih;
      postfixes = postfix_sound k ih;
      callings = called_sound k ih;
      valued_all = values_sound k ih;
      itemed = items_sound k ih;
      paired = pairs_sound k ih;
      one_pair = pair_sound k ih;
      one_value = valued_sound k ih;
      heads = head_sound k ih;
    }

-- programs
abbrev all_of : List Tree → Result (List Tree) Refusal
all_of bs = Ok bs

abbrev kept : Trees → Result Trees ParseFault
kept bs = Ok bs

abbrev too_deep : ℕ → Result Trees ParseFault
too_deep p = Err (parse_fault kinds.TooDeep p)

no_tokens : (ts : List Token) → nat_eq (length ts) 0 ≡ true → ts ≡ []
no_tokens [] h = refl
no_tokens (t ∷ ts) h = let n : length (t ∷ ts) ≡ 0 = grind (arith, nat_tests) in absurd (omega (arith, n))

record IsRead (bs cs : List Tree) (ts : List Token) : Type 0 where
  more : Trees
  program : IsProgram more ts
  all : cs ≡ bs ++ list_of more

abbrev IsSeparated : List Tree → List Tree → List Token → Type 0
IsSeparated bs cs ts = ((ts ≡ []) × (bs ≡ cs)) ⊎ ((us : List Token) × (ts ≡ token.Sign sign.Semicolon ∷ us) × IsRead bs cs us)

respelled : (bs cs : List Tree) (ts us : List Token) → ts ≡ us → IsRead bs cs us → IsRead bs cs ts
respelled bs cs ts us h r = record { more = r.more; program = subst (λ (xs : List Token). IsProgram r.more xs) (sym h) r.program; all = r.all }

abbrev after_statement : (k : ℕ) → List Tree → Tree × List Token → Result (List Tree) Refusal
after_statement k bs r = separated k (bs ++ r.0 ∷ []) r.1

one_statement : (bs cs : List Tree) (t : Tree) (ts left : List Token) → Spelled 1 t ts left → IsSeparated (bs ++ t ∷ []) cs left → IsRead bs cs ts
one_statement bs cs t ts left x s =
    elim s [
      | inl e ↦ record {
        more = tree_then t no_trees;
        program = subst (λ (xs : List Token). IsProgram (tree_then t no_trees) xs) (sym (x.whole ∙ (ap (λ xs. x.us ++ xs) e.0 ∙ append-nil x.us))) (last_statement t x.us x.spells);
        all = sym e.1;
      }
      | inr e ↦ record {
        more = tree_then t e.2.more;
        program = subst (λ (xs : List Token). IsProgram (tree_then t e.2.more) xs) (sym (x.whole ∙ ap (λ xs. x.us ++ xs) e.1)) (statement_then t e.2.more x.us e.0 x.spells e.2.program);
        all = e.2.all ∙ append_assoc bs (t ∷ []) (list_of e.2.more);
      }
    ]

mutual
  program_sound : (k : ℕ) (bs cs : List Tree) (ts : List Token) → statements k bs ts ≡ Ok cs → IsRead bs cs ts
  program_sound zero bs cs ts h = absurd (cc)
  program_sound (suc k) bs cs ts h =
      elim (chosen (nat_eq (length ts) 0) (all_of bs) (when_some (after sign.Semicolon ts) (λ us. statements k bs us) (statement k ts >>= after_statement k bs)) (Ok cs) h) [
        | inl g ↦ let same : bs ≡ cs = cc in respelled bs cs ts [] (no_tokens ts g.0) (record { more = no_trees; program = no_statement; all = sym same ∙ sym (append-nil bs) })
        | inr g ↦
            elim (some_or (after sign.Semicolon ts) (λ us. statements k bs us) (statement k ts >>= after_statement k bs) (Ok cs) g.1) [
              | inl p ↦ let r = program_sound k bs cs p.0 p.2 in respelled bs cs ts (token.Sign sign.Semicolon ∷ p.0) (after_some sign.Semicolon ts p.0 p.1) (record { more = r.more; program = empty_statement r.more p.0 r.program; all = r.all })
              | inr p ↦
                  let b = bind_ok (statement k ts) (after_statement k bs) cs p.1 in
                  one_statement bs cs b.0.0 ts b.0.1 ((sound k).statements ts b.0.1 b.0.0 b.1) (separated_sound k (bs ++ b.0.0 ∷ []) cs b.0.1 b.2)
            ]
      ]

  separated_sound : (k : ℕ) (bs cs : List Tree) (ts : List Token) → separated k bs ts ≡ Ok cs → IsSeparated bs cs ts
  separated_sound zero bs cs ts h = absurd (cc)
  separated_sound (suc k) bs cs ts h =
      elim (chosen (nat_eq (length ts) 0) (all_of bs) (when_some (after sign.Semicolon ts) (λ us. statements k bs us) (unfit ts)) (Ok cs) h) [
        | inl g ↦ let same : bs ≡ cs = cc in inl (no_tokens ts g.0, same)
        | inr g ↦
            elim (some_or (after sign.Semicolon ts) (λ us. statements k bs us) (unfit ts) (Ok cs) g.1) [
              | inl p ↦ inr (p.0, after_some sign.Semicolon ts p.0 p.1, program_sound k bs cs p.0 p.2)
              | inr p ↦ absurd (cc)
            ]
      ]

located_ok : (n : ℕ) (ps : List ℕ) (end : ℕ) (r : Result (List Tree) Refusal) (cs : List Tree) → located n ps end r ≡ Ok cs → r ≡ Ok cs
located_ok n ps end (Ok bs) cs h = let same : bs ≡ cs = cc in ap (λ (x : List Tree). all_of x) same
located_ok n ps end (Err e) cs h = absurd (cc)

-- what the tokens are read as is a program within the limits
pub parsed_is : (bs : Trees) (ts : List Token) (ps : List ℕ) (end : ℕ) → parsed ts ps end ≡ Ok bs → IsParsed bs ts
parsed_is bs ts ps end h =
    elim (some_or (one_too_many 0 0 ts) (λ i. too_deep (slice_index_or ps i end)) (located (length ts) ps end (statements (32 * length ts + 23) [] ts) >>= low) (Ok bs) h) [
      | inl p ↦ absurd (cc)
      | inr p ↦
          let b = bind_ok (located (length ts) ps end (statements (32 * length ts + 23) [] ts)) low bs p.1 in
          let r = program_sound (32 * length ts + 23) [] b.0 ts (located_ok (length ts) ps end (statements (32 * length ts + 23) [] ts) b.0 b.1) in
          let g = guarded (nat_le (heights (trees_from b.0)) 100) (kept (trees_from b.0)) (parse_fault kinds.TooDeep 0) bs b.2 in
          let same : trees_from b.0 ≡ bs = cc in
          let more : trees_from b.0 ≡ r.more = ap trees_from r.all ∙ trees_back r.more in
          let low_enough : heights (trees_from b.0) ≤ 100 = grind (arith, nat_tests) in
          (subst (λ (q : Trees). IsProgram q ts) (sym more ∙ same) r.program, p.0, subst (λ (q : Trees). heights q ≤ 100) same low_enough)
    ]

pub parsed_only : (bs : Trees) (ts : List Token) (ps : List ℕ) (end : ℕ) → IsParsed bs ts → parsed ts ps end ≡ Ok bs
parsed_only bs ts ps end h = parsed_so bs ts ps end h.0 h.1 h.2
