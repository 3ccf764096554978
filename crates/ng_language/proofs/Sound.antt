-- What is read is spelled so.
use Rattle.std.proofs.Common.{◌≡◌, ◌≤◌, ℕ, suc, List, [], ◌∷◌, ◌++◌, length, refl, ap, ◌∙◌, sym, subst, arith, append_assoc, append-nil, inl, inr, lit≤}
use Rattle.std.specs.Prelude.{Option, Some, None, Result, Ok, Err, ◌⊎◌}
use Rattle.ng_base.specs.Meets.{◌>>=◌}
use Rattle.ng_language.specs.Trees.{Tree, Trees, PairTree, Pairs, a_number, a_text, a_name, the_scope, a_constant, member_of, item_of, call_of, a_list, a_record, in_brackets, signed, combined, both_of, either_of, choice_of, assigned, filtered, no_trees, tree_then, trees_from}
use Rattle.ng_language.specs.Tokens.{after, name_at, unary_at, joint_of, joint_at, tightness}
use Rattle.ng_language.specs.Reading.{Read, unfit, expect, is_assignable, joined, statement, filters, named_filter, arguments, expression, assignment, ternary, choice, operators, operand, operations, unary, primary, postfix, called, values, items, pairs, pair, valued, head}
use Rattle.ng_language.specs.Choice.{when_some}
use Rattle.ng_language.specs.Grammar.{sign_of_unary, binary_rank, rank, At, label_token, Spells, SpellsArguments, SpellsValues, SpellsItems, SpellsPair, SpellsPairs}
use Rattle.ng_language.specs.declared.syntax.Sign.{Sign}
use Rattle.ng_language.specs.declared.syntax.Sign.TheVariants as sign
use Rattle.ng_language.specs.declared.syntax.Token.{Token}
use Rattle.ng_language.specs.declared.syntax.Token.TheVariants as token
use Rattle.ng_language.specs.declared.syntax.Label.{Label}
use Rattle.ng_language.specs.declared.syntax.Binary.{Binary}
use Rattle.ng_language.specs.declared.syntax.Binary.TheVariants as binaries
use Rattle.ng_language.specs.declared.syntax.Refusal.{Refusal}
use Rattle.ng_language.specs.declared.syntax.Refusal.TheVariants as refusals
use Rattle.ng_language.specs.declared.syntax.Level.{Level}
use Rattle.ng_language.specs.declared.syntax.Level.TheVariants as levels
use Rattle.ng_language.specs.declared.syntax.Joint.{Joint}
use Rattle.ng_language.specs.declared.syntax.Joint.TheVariants as joints
use Rattle.ng_language.proofs.Fronts.{after_some, name_some, unary_some, joint_some}
use Rattle.ng_language.specs.Parsing.{low}
use Rattle.std.specs.Prelude.{if◌then◌else◌}
use Rattle.ng_base.proofs.Binds.{bind_ok, guarded}
use Rattle.ng_language.proofs.Complete.{list_of, pair_list, trees_back}

abbrev pub got : {A : Type 0} → List Token → A → Read A
got rest a = Ok (a, rest)

pub ok_first : {A : Type 0} (a b : A) (ts us : List Token) → got ts a ≡ got us b → a ≡ b
ok_first {A} a b ts us h = ap (λ r. first_of r) h
  where
    first_of : Read A → A
    first_of (Ok r) = r.0
    first_of (Err e) = a

pub ok_rest : {A : Type 0} (a b : A) (ts us : List Token) → got ts a ≡ got us b → ts ≡ us
ok_rest {A} a b ts us h = ap (λ r. rest_of r) h
  where
    rest_of : Read A → List Token
    rest_of (Ok r) = r.1
    rest_of (Err e) = []

pub some_or : {A B : Type 0} (o : Option A) (f : A → B) (d y : B) → when_some o f d ≡ y → ((a : A) × (o ≡ Some a) × (f a ≡ y)) ⊎ ((o ≡ None) × (d ≡ y))
some_or (Some a) f d y h = inl (a, refl, h)
some_or None f d y h = inr (refl, h)

pub expected : (s : Sign) (ts us : List Token) → expect s ts ≡ Ok us → ts ≡ token.Sign s ∷ us
expected s ts us h =
    elim (some_or (after s ts) (λ xs. let r : Result (List Token) Refusal = Ok xs in r) (unfit ts) (Ok us) h) [
      | inl p ↦ let e : p.0 ≡ us = cc in after_some s ts p.0 p.1 ∙ ap (λ xs. token.Sign s ∷ xs) e
      | inr p ↦ absurd (cc)
    ]

-- the front of the tokens spells the tree, which may stand where so tight a one is wanted
pub record Spelled (l : ℕ) (e : Tree) (ts rest : List Token) : Type 0 where
  pub us : List Token
  pub low : l ≤ rank e
  pub spells : Spells e us
  pub whole : ts ≡ us ++ rest

pub moved : (l : ℕ) (e : Tree) (ts xs rest : List Token) → xs ≡ ts → Spelled l e ts rest → Spelled l e xs rest
moved l e ts xs rest h s = record { us = s.us; low = s.low; spells = s.spells; whole = h ∙ s.whole }

pub loose : (l m : ℕ) (e : Tree) (ts rest : List Token) → l ≤ m → Spelled m e ts rest → Spelled l e ts rest
loose l m e ts rest h s = record { us = s.us; low = omega (arith, s.low); spells = s.spells; whole = s.whole }

pub here : (l : ℕ) (a e : Tree) (us ts rest : List Token) → l ≤ rank a → Spells a us → got ts a ≡ got rest e → Spelled l e (us ++ ts) rest
here l a e us ts rest low s h =
    let same : a ≡ e = ok_first a e ts rest h in
    let left : ts ≡ rest = ok_rest a e ts rest h in
    record { us = us; low = subst (λ (x : Tree). l ≤ rank x) same low; spells = subst (λ (x : Tree). Spells x us) same s; whole = ap (λ xs. us ++ xs) left }

pub rank_one : (e : Tree) → 1 ≤ rank e
rank_one (filtered t n ts) = lit≤ tt
rank_one (assigned a b) = lit≤ tt
rank_one (choice_of d a b) = lit≤ tt
rank_one (either_of a b) = lit≤ tt
rank_one (both_of a b) = lit≤ tt
rank_one (combined o a b) = one_binary o
  where
    one_binary : (o : Binary) → 1 ≤ binary_rank o
    one_binary binaries.Multiply = lit≤ tt
    one_binary binaries.Divide = lit≤ tt
    one_binary binaries.Remainder = lit≤ tt
    one_binary binaries.Add = lit≤ tt
    one_binary binaries.Subtract = lit≤ tt
    one_binary binaries.Less = lit≤ tt
    one_binary binaries.Greater = lit≤ tt
    one_binary binaries.AtMost = lit≤ tt
    one_binary binaries.AtLeast = lit≤ tt
    one_binary binaries.Equal = lit≤ tt
    one_binary binaries.NotEqual = lit≤ tt
    one_binary binaries.Same = lit≤ tt
    one_binary binaries.NotSame = lit≤ tt
rank_one (signed o t) = lit≤ tt
rank_one (a_number n) = lit≤ tt
rank_one (a_text n) = lit≤ tt
rank_one (a_name n) = lit≤ tt
rank_one the_scope = lit≤ tt
rank_one (a_constant d) = lit≤ tt
rank_one (member_of t n) = lit≤ tt
rank_one (item_of t i) = lit≤ tt
rank_one (call_of t ts) = lit≤ tt
rank_one (a_list ts) = lit≤ tt
rank_one (a_record ps) = lit≤ tt
rank_one (in_brackets t) = lit≤ tt

pub record SpelledArguments (bs cs : List Tree) (ts rest : List Token) : Type 0 where
  pub more : Trees
  pub us : List Token
  pub spells : SpellsArguments more us
  pub whole : ts ≡ us ++ rest
  pub all : cs ≡ bs ++ list_of more

pub record SpelledValues (bs cs : List Tree) (ts rest : List Token) : Type 0 where
  pub t : Tree
  pub more : Trees
  pub us : List Token
  pub spells : SpellsValues (tree_then t more) us
  pub whole : ts ≡ us ++ token.Sign sign.CloseRound ∷ rest
  pub all : cs ≡ bs ++ t ∷ list_of more

pub record SpelledCalled (cs : List Tree) (ts rest : List Token) : Type 0 where
  pub more : Trees
  pub us : List Token
  pub spells : SpellsValues more us
  pub whole : ts ≡ us ++ token.Sign sign.CloseRound ∷ rest
  pub all : cs ≡ list_of more

pub record SpelledItems (bs cs : List Tree) (ts rest : List Token) : Type 0 where
  pub more : Trees
  pub us : List Token
  pub spells : SpellsItems more us
  pub whole : ts ≡ us ++ token.Sign sign.CloseSquare ∷ rest
  pub all : cs ≡ bs ++ list_of more

pub record SpelledPairs (bs cs : List PairTree) (ts rest : List Token) : Type 0 where
  pub more : Pairs
  pub us : List Token
  pub spells : SpellsPairs more us
  pub whole : ts ≡ us ++ token.Sign sign.CloseCurly ∷ rest
  pub all : cs ≡ bs ++ pair_list more

pub record SpelledPair (p : PairTree) (ts rest : List Token) : Type 0 where
  pub us : List Token
  pub spells : SpellsPair p us
  pub whole : ts ≡ us ++ rest

pub record IsSound (k : ℕ) : Type 0 where
  pub statements : (ts rest : List Token) (e : Tree) → statement k ts ≡ Ok (e, rest) → Spelled 1 e ts rest
  pub filterings : (a e : Tree) (us ts rest : List Token) → Spells a us → filters k a ts ≡ Ok (e, rest) → Spelled 1 e (us ++ ts) rest
  pub named : (a e : Tree) (us ts rest : List Token) → Spells a us → named_filter k a ts ≡ Ok (e, rest) → Spelled 1 e (us ++ token.Sign sign.Bar ∷ ts) rest
  pub argued : (bs cs : List Tree) (ts rest : List Token) → arguments k bs ts ≡ Ok (cs, rest) → SpelledArguments bs cs ts rest
  pub expressions : (ts rest : List Token) (e : Tree) → expression k ts ≡ Ok (e, rest) → Spelled 2 e ts rest
  pub assignments : (a e : Tree) (us ts rest : List Token) → 3 ≤ rank a → Spells a us → assignment k a ts ≡ Ok (e, rest) → Spelled 2 e (us ++ ts) rest
  pub ternaries : (ts rest : List Token) (e : Tree) → ternary k ts ≡ Ok (e, rest) → Spelled 3 e ts rest
  pub choices : (a e : Tree) (us ts rest : List Token) → 4 ≤ rank a → Spells a us → choice k a ts ≡ Ok (e, rest) → Spelled 3 e (us ++ ts) rest
  pub operated : (l : Level) (ts rest : List Token) (e : Tree) → operators k l ts ≡ Ok (e, rest) → Spelled (tightness l) e ts rest
  pub operands : (l : Level) (ts rest : List Token) (e : Tree) → operand k l ts ≡ Ok (e, rest) → Spelled (suc (tightness l)) e ts rest
  pub more_operated : (l : Level) (a e : Tree) (us ts rest : List Token) → tightness l ≤ rank a → Spells a us → operations k l a ts ≡ Ok (e, rest) → Spelled (tightness l) e (us ++ ts) rest
  pub unaries : (ts rest : List Token) (e : Tree) → unary k ts ≡ Ok (e, rest) → Spelled 10 e ts rest
  pub primaries : (ts rest : List Token) (e : Tree) → primary k ts ≡ Ok (e, rest) → Spelled 11 e ts rest
  pub postfixes : (a e : Tree) (us ts rest : List Token) → 11 ≤ rank a → Spells a us → postfix k a ts ≡ Ok (e, rest) → Spelled 11 e (us ++ ts) rest
  pub callings : (cs : List Tree) (ts rest : List Token) → called k ts ≡ Ok (cs, rest) → SpelledCalled cs ts rest
  pub valued_all : (bs cs : List Tree) (ts rest : List Token) → values k bs ts ≡ Ok (cs, rest) → SpelledValues bs cs ts rest
  pub itemed : (bs cs : List Tree) (ts rest : List Token) → items k bs ts ≡ Ok (cs, rest) → SpelledItems bs cs ts rest
  pub paired : (bs cs : List PairTree) (ts rest : List Token) → pairs k bs ts ≡ Ok (cs, rest) → SpelledPairs bs cs ts rest
  pub one_pair : (p : PairTree) (ts rest : List Token) → pair k ts ≡ Ok (p, rest) → SpelledPair p ts rest
  pub one_value : (l : Label) (p : PairTree) (ts rest : List Token) → valued k l ts ≡ Ok (p, rest) → SpelledPair p (label_token l ∷ ts) rest
  pub heads : (ts rest : List Token) (e : Tree) → head k ts ≡ Ok (e, rest) → Spelled 11 e ts rest

-- one more call: statements and filters
pub statement_sound : (k : ℕ) → IsSound k → (ts rest : List Token) (e : Tree) → statement (suc k) ts ≡ Ok (e, rest) → Spelled 1 e ts rest
statement_sound k ih ts rest e h =
    let b = bind_ok (expression k ts) (λ r. filters k r.0 r.1) (e, rest) h in
    let x = ih.expressions ts b.0.1 b.0.0 b.1 in
    moved 1 e (x.us ++ b.0.1) ts rest x.whole (ih.filterings b.0.0 e x.us b.0.1 rest x.spells b.2)

pub filters_sound : (k : ℕ) → IsSound k → (a e : Tree) (us ts rest : List Token) → Spells a us → filters (suc k) a ts ≡ Ok (e, rest) → Spelled 1 e (us ++ ts) rest
filters_sound k ih a e us ts rest s h =
    elim (some_or (after sign.Bar ts) (λ xs. named_filter k a xs) (Ok (a, ts)) (Ok (e, rest)) h) [
      | inl p ↦ moved 1 e (us ++ token.Sign sign.Bar ∷ p.0) (us ++ ts) rest (ap (λ xs. us ++ xs) (after_some sign.Bar ts p.0 p.1)) (ih.named a e us p.0 rest s p.2)
      | inr p ↦ here 1 a e us ts rest (rank_one a) s p.1
    ]

pub named_sound : (k : ℕ) → IsSound k → (a e : Tree) (us ts rest : List Token) → Spells a us → named_filter (suc k) a ts ≡ Ok (e, rest) → Spelled 1 e (us ++ token.Sign sign.Bar ∷ ts) rest
named_sound k ih a e us ts rest s h =
    elim (some_or (name_at ts) (λ n. arguments k [] n.1 >>= λ r. filters k (filtered a n.0 (trees_from r.0)) r.1) (unfit ts) (Ok (e, rest)) h) [
      | inl p ↦
          let n = p.0.0 in
          let b = bind_ok (arguments k [] p.0.1) (λ r. filters k (filtered a n (trees_from r.0)) r.1) (e, rest) p.2 in
          let x = ih.argued [] b.0.0 p.0.1 b.0.1 b.1 in
          let same : trees_from b.0.0 ≡ x.more = ap trees_from x.all ∙ trees_back x.more in
          let all : List Token = us ++ token.Sign sign.Bar ∷ token.Name n ∷ x.us in
          let spelled : Spells (filtered a n (trees_from b.0.0)) all = subst (λ (q : Trees). Spells (filtered a n q) all) (sym same) (us, x.us, s, x.spells, refl) in
          let whole : us ++ token.Sign sign.Bar ∷ ts ≡ all ++ b.0.1 =
          ap (λ xs. us ++ token.Sign sign.Bar ∷ xs) (name_some ts p.0.1 n p.1 ∙ ap (λ xs. token.Name n ∷ xs) x.whole) ∙ sym (append_assoc us (token.Sign sign.Bar ∷ token.Name n ∷ x.us) b.0.1) in
          moved 1 e (all ++ b.0.1) (us ++ token.Sign sign.Bar ∷ ts) rest whole (ih.filterings (filtered a n (trees_from b.0.0)) e all b.0.1 rest spelled b.2)
      | inr p ↦ absurd (cc)
    ]

pub arguments_sound : (k : ℕ) → IsSound k → (bs cs : List Tree) (ts rest : List Token) → arguments (suc k) bs ts ≡ Ok (cs, rest) → SpelledArguments bs cs ts rest
arguments_sound k ih bs cs ts rest h =
    elim (some_or (after sign.Colon ts) (λ xs. expression k xs >>= λ r. arguments k (bs ++ r.0 ∷ []) r.1) (Ok (bs, ts)) (Ok (cs, rest)) h) [
      | inl p ↦
          let b = bind_ok (expression k p.0) (λ r. arguments k (bs ++ r.0 ∷ []) r.1) (cs, rest) p.2 in
          let x = ih.expressions p.0 b.0.1 b.0.0 b.1 in
          let y = ih.argued (bs ++ b.0.0 ∷ []) cs b.0.1 rest b.2 in
          record {
            more = tree_then b.0.0 y.more;
            us = token.Sign sign.Colon ∷ (x.us ++ y.us);
            spells = (x.us, y.us, (x.low, x.spells), y.spells, refl);
            whole = after_some sign.Colon ts p.0 p.1 ∙ ap (λ xs. token.Sign sign.Colon ∷ xs) (x.whole ∙ (ap (λ xs. x.us ++ xs) y.whole ∙ sym (append_assoc x.us y.us rest)));
            all = y.all ∙ append_assoc bs (b.0.0 ∷ []) (list_of y.more);
          }
      | inr p ↦
          record {
            more = no_trees;
            us = [];
            spells = refl;
            whole = ok_rest bs cs ts rest p.1;
            all = sym (ok_first bs cs ts rest p.1) ∙ sym (append-nil bs);
          }
    ]

-- expressions, ternaries
pub expression_sound : (k : ℕ) → IsSound k → (ts rest : List Token) (e : Tree) → expression (suc k) ts ≡ Ok (e, rest) → Spelled 2 e ts rest
expression_sound k ih ts rest e h =
    let b = bind_ok (ternary k ts) (λ r. assignment k r.0 r.1) (e, rest) h in
    let x = ih.ternaries ts b.0.1 b.0.0 b.1 in
    moved 2 e (x.us ++ b.0.1) ts rest x.whole (ih.assignments b.0.0 e x.us b.0.1 rest x.low x.spells b.2)

pub assignment_sound : (k : ℕ) → IsSound k → (a e : Tree) (us ts rest : List Token) → 3 ≤ rank a → Spells a us → assignment (suc k) a ts ≡ Ok (e, rest) → Spelled 2 e (us ++ ts) rest
assignment_sound k ih a e us ts rest low s h =
    elim (some_or (after sign.Assign ts) (λ xs. if is_assignable a then (expression k xs >>= λ r. Ok (assigned a r.0, r.1)) else Err (refusals.NotAssignable (length ts))) (Ok (a, ts)) (Ok (e, rest)) h) [
      | inl p ↦
          let g = guarded (is_assignable a) (expression k p.0 >>= λ r. Ok (assigned a r.0, r.1)) (refusals.NotAssignable (length ts)) (e, rest) p.2 in
          let b = bind_ok (expression k p.0) (λ r. Ok (assigned a r.0, r.1)) (e, rest) g.1 in
          let x = ih.expressions p.0 b.0.1 b.0.0 b.1 in
          let all : List Token = us ++ token.Sign sign.Assign ∷ x.us in
          let whole : us ++ ts ≡ all ++ b.0.1 = ap (λ xs. us ++ xs) (after_some sign.Assign ts p.0 p.1 ∙ ap (λ xs. token.Sign sign.Assign ∷ xs) x.whole) ∙ sym (append_assoc us (token.Sign sign.Assign ∷ x.us) b.0.1) in
          moved 2 e (all ++ b.0.1) (us ++ ts) rest whole (here 2 (assigned a b.0.0) e all b.0.1 rest (lit≤ tt) (us, x.us, g.0, s, (x.low, x.spells), refl) b.2)
      | inr p ↦ here 2 a e us ts rest (omega arith) s p.1
    ]

pub ternary_sound : (k : ℕ) → IsSound k → (ts rest : List Token) (e : Tree) → ternary (suc k) ts ≡ Ok (e, rest) → Spelled 3 e ts rest
ternary_sound k ih ts rest e h =
    let b = bind_ok (operators k levels.Or ts) (λ r. choice k r.0 r.1) (e, rest) h in
    let x = ih.operated levels.Or ts b.0.1 b.0.0 b.1 in
    moved 3 e (x.us ++ b.0.1) ts rest x.whole (ih.choices b.0.0 e x.us b.0.1 rest x.low x.spells b.2)

pub choice_sound : (k : ℕ) → IsSound k → (a e : Tree) (us ts rest : List Token) → 4 ≤ rank a → Spells a us → choice (suc k) a ts ≡ Ok (e, rest) → Spelled 3 e (us ++ ts) rest
choice_sound k ih a e us ts rest low s h =
    elim (some_or (after sign.Question ts) (λ xs. expression k xs >>= λ q. expect sign.Colon q.1 >>= λ vs. expression k vs >>= λ r. Ok (choice_of a q.0 r.0, r.1)) (Ok (a, ts)) (Ok (e, rest)) h) [
      | inl p ↦
          let b = bind_ok (expression k p.0) (λ q. expect sign.Colon q.1 >>= λ vs. expression k vs >>= λ r. Ok (choice_of a q.0 r.0, r.1)) (e, rest) p.2 in
          let d = bind_ok (expect sign.Colon b.0.1) (λ vs. expression k vs >>= λ r. Ok (choice_of a b.0.0 r.0, r.1)) (e, rest) b.2 in
          let f = bind_ok (expression k d.0) (λ r. Ok (choice_of a b.0.0 r.0, r.1)) (e, rest) d.2 in
          let x = ih.expressions p.0 b.0.1 b.0.0 b.1 in
          let y = ih.expressions d.0 f.0.1 f.0.0 f.1 in
          let last : List Token = token.Sign sign.Colon ∷ y.us in
          let all : List Token = us ++ token.Sign sign.Question ∷ (x.us ++ last) in
          let inner : p.0 ≡ (x.us ++ last) ++ f.0.1 = x.whole ∙ (ap (λ xs. x.us ++ xs) (expected sign.Colon b.0.1 d.0 d.1 ∙ ap (λ xs. token.Sign sign.Colon ∷ xs) y.whole) ∙ sym (append_assoc x.us last f.0.1)) in
          let whole : us ++ ts ≡ all ++ f.0.1 = ap (λ xs. us ++ xs) (after_some sign.Question ts p.0 p.1 ∙ ap (λ xs. token.Sign sign.Question ∷ xs) inner) ∙ sym (append_assoc us (token.Sign sign.Question ∷ (x.us ++ last)) f.0.1) in
          moved 3 e (all ++ f.0.1) (us ++ ts) rest whole (here 3 (choice_of a b.0.0 f.0.0) e all f.0.1 rest (lit≤ tt) (us, x.us, y.us, (low, s), (x.low, x.spells), (y.low, y.spells), refl) f.2)
      | inr p ↦ here 3 a e us ts rest (omega arith) s p.1
    ]

-- operators
pub operators_sound : (k : ℕ) → IsSound k → (l : Level) (ts rest : List Token) (e : Tree) → operators (suc k) l ts ≡ Ok (e, rest) → Spelled (tightness l) e ts rest
operators_sound k ih l ts rest e h =
    let b = bind_ok (operand k l ts) (λ r. operations k l r.0 r.1) (e, rest) h in
    let x = ih.operands l ts b.0.1 b.0.0 b.1 in
    moved (tightness l) e (x.us ++ b.0.1) ts rest x.whole (ih.more_operated l b.0.0 e x.us b.0.1 rest (omega (arith, x.low)) x.spells b.2)

pub operand_sound : (k : ℕ) → IsSound k → (l : Level) (ts rest : List Token) (e : Tree) → operand (suc k) l ts ≡ Ok (e, rest) → Spelled (suc (tightness l)) e ts rest
operand_sound k ih levels.Or ts rest e h = ih.operated levels.And ts rest e h
operand_sound k ih levels.And ts rest e h = ih.operated levels.Equality ts rest e h
operand_sound k ih levels.Equality ts rest e h = ih.operated levels.Relation ts rest e h
operand_sound k ih levels.Relation ts rest e h = ih.operated levels.Sum ts rest e h
operand_sound k ih levels.Sum ts rest e h = ih.operated levels.Term ts rest e h
operand_sound k ih levels.Term ts rest e h = ih.unaries ts rest e h

-- the tree of two operands
joint_spells : (l : Level) (g : Sign) (j : Joint) (a b : Tree) (us vs : List Token) → joint_of l g ≡ Some j → At (tightness l) a (Spells a us) → At (suc (tightness l)) b (Spells b vs) →
    (tightness l ≤ rank (joined j a b)) × Spells (joined j a b) (us ++ token.Sign g ∷ vs)
joint_spells levels.Or sign.Or j a b us vs h sa sb = let is : joints.Or ≡ j = cc in subst (λ (x : Joint). (tightness levels.Or ≤ rank (joined x a b)) × Spells (joined x a b) (us ++ token.Sign sign.Or ∷ vs)) is (lit≤ tt, (us, vs, sa, sb, refl))
joint_spells levels.And sign.And j a b us vs h sa sb = let is : joints.And ≡ j = cc in subst (λ (x : Joint). (tightness levels.And ≤ rank (joined x a b)) × Spells (joined x a b) (us ++ token.Sign sign.And ∷ vs)) is (lit≤ tt, (us, vs, sa, sb, refl))
joint_spells levels.Equality sign.Equal j a b us vs h sa sb = let is : (joints.Operator binaries.Equal) ≡ j = cc in subst (λ (x : Joint). (tightness levels.Equality ≤ rank (joined x a b)) × Spells (joined x a b) (us ++ token.Sign sign.Equal ∷ vs)) is (lit≤ tt, (us, vs, sa, sb, refl))
joint_spells levels.Equality sign.NotEqual j a b us vs h sa sb = let is : (joints.Operator binaries.NotEqual) ≡ j = cc in subst (λ (x : Joint). (tightness levels.Equality ≤ rank (joined x a b)) × Spells (joined x a b) (us ++ token.Sign sign.NotEqual ∷ vs)) is (lit≤ tt, (us, vs, sa, sb, refl))
joint_spells levels.Equality sign.Same j a b us vs h sa sb = let is : (joints.Operator binaries.Same) ≡ j = cc in subst (λ (x : Joint). (tightness levels.Equality ≤ rank (joined x a b)) × Spells (joined x a b) (us ++ token.Sign sign.Same ∷ vs)) is (lit≤ tt, (us, vs, sa, sb, refl))
joint_spells levels.Equality sign.NotSame j a b us vs h sa sb = let is : (joints.Operator binaries.NotSame) ≡ j = cc in subst (λ (x : Joint). (tightness levels.Equality ≤ rank (joined x a b)) × Spells (joined x a b) (us ++ token.Sign sign.NotSame ∷ vs)) is (lit≤ tt, (us, vs, sa, sb, refl))
joint_spells levels.Relation sign.Less j a b us vs h sa sb = let is : (joints.Operator binaries.Less) ≡ j = cc in subst (λ (x : Joint). (tightness levels.Relation ≤ rank (joined x a b)) × Spells (joined x a b) (us ++ token.Sign sign.Less ∷ vs)) is (lit≤ tt, (us, vs, sa, sb, refl))
joint_spells levels.Relation sign.Greater j a b us vs h sa sb = let is : (joints.Operator binaries.Greater) ≡ j = cc in subst (λ (x : Joint). (tightness levels.Relation ≤ rank (joined x a b)) × Spells (joined x a b) (us ++ token.Sign sign.Greater ∷ vs)) is (lit≤ tt, (us, vs, sa, sb, refl))
joint_spells levels.Relation sign.AtMost j a b us vs h sa sb = let is : (joints.Operator binaries.AtMost) ≡ j = cc in subst (λ (x : Joint). (tightness levels.Relation ≤ rank (joined x a b)) × Spells (joined x a b) (us ++ token.Sign sign.AtMost ∷ vs)) is (lit≤ tt, (us, vs, sa, sb, refl))
joint_spells levels.Relation sign.AtLeast j a b us vs h sa sb = let is : (joints.Operator binaries.AtLeast) ≡ j = cc in subst (λ (x : Joint). (tightness levels.Relation ≤ rank (joined x a b)) × Spells (joined x a b) (us ++ token.Sign sign.AtLeast ∷ vs)) is (lit≤ tt, (us, vs, sa, sb, refl))
joint_spells levels.Sum sign.Plus j a b us vs h sa sb = let is : (joints.Operator binaries.Add) ≡ j = cc in subst (λ (x : Joint). (tightness levels.Sum ≤ rank (joined x a b)) × Spells (joined x a b) (us ++ token.Sign sign.Plus ∷ vs)) is (lit≤ tt, (us, vs, sa, sb, refl))
joint_spells levels.Sum sign.Minus j a b us vs h sa sb = let is : (joints.Operator binaries.Subtract) ≡ j = cc in subst (λ (x : Joint). (tightness levels.Sum ≤ rank (joined x a b)) × Spells (joined x a b) (us ++ token.Sign sign.Minus ∷ vs)) is (lit≤ tt, (us, vs, sa, sb, refl))
joint_spells levels.Term sign.Star j a b us vs h sa sb = let is : (joints.Operator binaries.Multiply) ≡ j = cc in subst (λ (x : Joint). (tightness levels.Term ≤ rank (joined x a b)) × Spells (joined x a b) (us ++ token.Sign sign.Star ∷ vs)) is (lit≤ tt, (us, vs, sa, sb, refl))
joint_spells levels.Term sign.Slash j a b us vs h sa sb = let is : (joints.Operator binaries.Divide) ≡ j = cc in subst (λ (x : Joint). (tightness levels.Term ≤ rank (joined x a b)) × Spells (joined x a b) (us ++ token.Sign sign.Slash ∷ vs)) is (lit≤ tt, (us, vs, sa, sb, refl))
joint_spells levels.Term sign.Percent j a b us vs h sa sb = let is : (joints.Operator binaries.Remainder) ≡ j = cc in subst (λ (x : Joint). (tightness levels.Term ≤ rank (joined x a b)) × Spells (joined x a b) (us ++ token.Sign sign.Percent ∷ vs)) is (lit≤ tt, (us, vs, sa, sb, refl))
joint_spells l g j a b us vs h sa sb = absurd (cc)

pub operations_sound : (k : ℕ) → IsSound k → (l : Level) (a e : Tree) (us ts rest : List Token) → tightness l ≤ rank a → Spells a us → operations (suc k) l a ts ≡ Ok (e, rest) → Spelled (tightness l) e (us ++ ts) rest
operations_sound k ih l a e us ts rest low s h =
    elim (some_or (joint_at l ts) (λ j. operand k l j.1 >>= λ r. operations k l (joined j.0 a r.0) r.1) (Ok (a, ts)) (Ok (e, rest)) h) [
      | inl p ↦
          let j = p.0.0 in
          let q = joint_some l ts p.0.1 j p.1 in
          let b = bind_ok (operand k l p.0.1) (λ r. operations k l (joined j a r.0) r.1) (e, rest) p.2 in
          let x = ih.operands l p.0.1 b.0.1 b.0.0 b.1 in
          let all : List Token = us ++ token.Sign q.0 ∷ x.us in
          let two = joint_spells l q.0 j a b.0.0 us x.us q.2 (low, s) (x.low, x.spells) in
          let whole : us ++ ts ≡ all ++ b.0.1 = ap (λ xs. us ++ xs) (q.1 ∙ ap (λ xs. token.Sign q.0 ∷ xs) x.whole) ∙ sym (append_assoc us (token.Sign q.0 ∷ x.us) b.0.1) in
          moved (tightness l) e (all ++ b.0.1) (us ++ ts) rest whole (ih.more_operated l (joined j a b.0.0) e all b.0.1 rest two.0 two.1 b.2)
      | inr p ↦ here (tightness l) a e us ts rest low s p.1
    ]

pub unary_sound : (k : ℕ) → IsSound k → (ts rest : List Token) (e : Tree) → unary (suc k) ts ≡ Ok (e, rest) → Spelled 10 e ts rest
unary_sound k ih ts rest e h =
    elim (some_or (unary_at ts) (λ o. unary k o.1 >>= λ r. Ok (signed o.0 r.0, r.1)) (primary k ts) (Ok (e, rest)) h) [
      | inl p ↦
          let o = p.0.0 in
          let b = bind_ok (unary k p.0.1) (λ r. Ok (signed o r.0, r.1)) (e, rest) p.2 in
          let x = ih.unaries p.0.1 b.0.1 b.0.0 b.1 in
          let all : List Token = token.Sign (sign_of_unary o) ∷ x.us in
          moved 10 e (all ++ b.0.1) ts rest (unary_some ts p.0.1 o p.1 ∙ ap (λ xs. token.Sign (sign_of_unary o) ∷ xs) x.whole) (here 10 (signed o b.0.0) e all b.0.1 rest (lit≤ tt) (x.us, (x.low, x.spells), refl) b.2)
      | inr p ↦ loose 10 11 e ts rest (lit≤ tt) (ih.primaries ts rest e p.1)
    ]

pub primary_sound : (k : ℕ) → IsSound k → (ts rest : List Token) (e : Tree) → primary (suc k) ts ≡ Ok (e, rest) → Spelled 11 e ts rest
primary_sound k ih ts rest e h =
    let b = bind_ok (head k ts) (λ r. postfix k r.0 r.1) (e, rest) h in
    let x = ih.heads ts b.0.1 b.0.0 b.1 in
    moved 11 e (x.us ++ b.0.1) ts rest x.whole (ih.postfixes b.0.0 e x.us b.0.1 rest x.low x.spells b.2)

-- what stands behind a primary
dot_sound : (k : ℕ) → IsSound k → (a e : Tree) (us ts xs rest : List Token) → 11 ≤ rank a → Spells a us → ts ≡ token.Sign sign.Dot ∷ xs → when_some (name_at xs) (λ n. postfix k (member_of a n.0) n.1) (unfit xs) ≡ Ok (e, rest) → Spelled 11 e (us ++ ts) rest
dot_sound k ih a e us ts xs rest low s is h =
    elim (some_or (name_at xs) (λ n. postfix k (member_of a n.0) n.1) (unfit xs) (Ok (e, rest)) h) [
      | inl p ↦
          let n = p.0.0 in
          let all : List Token = us ++ token.Sign sign.Dot ∷ token.Name n ∷ [] in
          let whole : us ++ ts ≡ all ++ p.0.1 = ap (λ ys. us ++ ys) (is ∙ ap (λ ys. token.Sign sign.Dot ∷ ys) (name_some xs p.0.1 n p.1)) ∙ sym (append_assoc us (token.Sign sign.Dot ∷ token.Name n ∷ []) p.0.1) in
          moved 11 e (all ++ p.0.1) (us ++ ts) rest whole (ih.postfixes (member_of a n) e all p.0.1 rest (lit≤ tt) (us, (low, s), refl) p.2)
      | inr p ↦ absurd (cc)
    ]

square_sound : (k : ℕ) → IsSound k → (a e : Tree) (us ts xs rest : List Token) → 11 ≤ rank a → Spells a us → ts ≡ token.Sign sign.OpenSquare ∷ xs →
    (expression k xs >>= λ r. expect sign.CloseSquare r.1 >>= λ vs. postfix k (item_of a r.0) vs) ≡ Ok (e, rest) → Spelled 11 e (us ++ ts) rest
square_sound k ih a e us ts xs rest low s is h =
    let b = bind_ok (expression k xs) (λ r. expect sign.CloseSquare r.1 >>= λ vs. postfix k (item_of a r.0) vs) (e, rest) h in
    let d = bind_ok (expect sign.CloseSquare b.0.1) (λ vs. postfix k (item_of a b.0.0) vs) (e, rest) b.2 in
    let x = ih.expressions xs b.0.1 b.0.0 b.1 in
    let last : List Token = token.Sign sign.CloseSquare ∷ [] in
    let all : List Token = us ++ token.Sign sign.OpenSquare ∷ (x.us ++ last) in
    let inner : xs ≡ (x.us ++ last) ++ d.0 = x.whole ∙ (ap (λ ys. x.us ++ ys) (expected sign.CloseSquare b.0.1 d.0 d.1) ∙ sym (append_assoc x.us last d.0)) in
    let whole : us ++ ts ≡ all ++ d.0 = ap (λ ys. us ++ ys) (is ∙ ap (λ ys. token.Sign sign.OpenSquare ∷ ys) inner) ∙ sym (append_assoc us (token.Sign sign.OpenSquare ∷ (x.us ++ last)) d.0) in
    moved 11 e (all ++ d.0) (us ++ ts) rest whole (ih.postfixes (item_of a b.0.0) e all d.0 rest (lit≤ tt) (us, x.us, (low, s), (x.low, x.spells), refl) d.2)

round_sound : (k : ℕ) → IsSound k → (a e : Tree) (us ts xs rest : List Token) → 11 ≤ rank a → Spells a us → ts ≡ token.Sign sign.OpenRound ∷ xs →
    (called k xs >>= λ r. postfix k (call_of a (trees_from r.0)) r.1) ≡ Ok (e, rest) → Spelled 11 e (us ++ ts) rest
round_sound k ih a e us ts xs rest low s is h =
    let b = bind_ok (called k xs) (λ r. postfix k (call_of a (trees_from r.0)) r.1) (e, rest) h in
    let x = ih.callings b.0.0 xs b.0.1 b.1 in
    let same : trees_from b.0.0 ≡ x.more = ap trees_from x.all ∙ trees_back x.more in
    let last : List Token = token.Sign sign.CloseRound ∷ [] in
    let all : List Token = us ++ token.Sign sign.OpenRound ∷ (x.us ++ last) in
    let spelled : Spells (call_of a (trees_from b.0.0)) all = subst (λ (q : Trees). Spells (call_of a q) all) (sym same) (us, x.us, (low, s), x.spells, refl) in
    let inner : xs ≡ (x.us ++ last) ++ b.0.1 = x.whole ∙ sym (append_assoc x.us last b.0.1) in
    let whole : us ++ ts ≡ all ++ b.0.1 = ap (λ ys. us ++ ys) (is ∙ ap (λ ys. token.Sign sign.OpenRound ∷ ys) inner) ∙ sym (append_assoc us (token.Sign sign.OpenRound ∷ (x.us ++ last)) b.0.1) in
    moved 11 e (all ++ b.0.1) (us ++ ts) rest whole (ih.postfixes (call_of a (trees_from b.0.0)) e all b.0.1 rest (lit≤ tt) spelled b.2)

pub postfix_sound : (k : ℕ) → IsSound k → (a e : Tree) (us ts rest : List Token) → 11 ≤ rank a → Spells a us → postfix (suc k) a ts ≡ Ok (e, rest) → Spelled 11 e (us ++ ts) rest
postfix_sound k ih a e us ts rest low s h =
    elim (some_or (after sign.Dot ts) (λ xs. when_some (name_at xs) (λ n. postfix k (member_of a n.0) n.1) (unfit xs)) (
    when_some (after sign.OpenSquare ts) (λ xs. expression k xs >>= λ r. expect sign.CloseSquare r.1 >>= λ vs. postfix k (item_of a r.0) vs) (
    when_some (after sign.OpenRound ts) (λ xs. called k xs >>= λ r. postfix k (call_of a (trees_from r.0)) r.1) (Ok (a, ts))
    )
    ) (Ok (e, rest)) h) [
      | inl p ↦ dot_sound k ih a e us ts p.0 rest low s (after_some sign.Dot ts p.0 p.1) p.2
      | inr p ↦
          elim (some_or (after sign.OpenSquare ts) (λ xs. expression k xs >>= λ r. expect sign.CloseSquare r.1 >>= λ vs. postfix k (item_of a r.0) vs) (
          when_some (after sign.OpenRound ts) (λ xs. called k xs >>= λ r. postfix k (call_of a (trees_from r.0)) r.1) (Ok (a, ts))
          ) (Ok (e, rest)) p.1) [
            | inl q ↦ square_sound k ih a e us ts q.0 rest low s (after_some sign.OpenSquare ts q.0 q.1) q.2
            | inr q ↦
                elim (some_or (after sign.OpenRound ts) (λ xs. called k xs >>= λ r. postfix k (call_of a (trees_from r.0)) r.1) (Ok (a, ts)) (Ok (e, rest)) q.1) [
                  | inl r ↦ round_sound k ih a e us ts r.0 rest low s (after_some sign.OpenRound ts r.0 r.1) r.2
                  | inr r ↦ here 11 a e us ts rest low s r.1
                ]
          ]
    ]
