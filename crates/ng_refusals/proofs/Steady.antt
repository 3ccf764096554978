-- With room for all that is left, more room changes nothing.
use Rattle.std.proofs.Common.{◌≡◌, ◌≤◌, ◌+◌, ◌*◌, ◌-◌, ℕ, zero, suc, Bool, true, false, List, [], ◌∷◌, ◌++◌, length, refl, ap, ◌∙◌, arith}
use Rattle.std.proofs.lemmas.Bool.Decides.{nat_tests}
use Rattle.std.specs.Prelude.{Option, Some, None, Result, Ok, Err, nat_eq, nat_le, if◌then◌else◌}
use Rattle.ng_base.specs.Meets.{◌>>=◌}
use Rattle.ng_language.specs.Choice.{when_some}
use Rattle.ng_language.specs.Trees.{Tree, PairTree, member_of, item_of, call_of, a_list, a_record, in_brackets, signed, choice_of, assigned, filtered, labelled, computed, trees_from, pairs_from}
use Rattle.ng_language.specs.Tokens.{after, name_at, unary_at, joint_at, tightness}
use Rattle.ng_language.specs.Reading.{Read, unfit, expect, leaf, label, lone_label, is_assignable, joined, statement, filters, named_filter, arguments, expression, assignment, ternary, choice, operators, operand, operations, unary, primary, postfix, called, values, items, pairs, pair, valued, head, statements, separated}
use Rattle.ng_language.specs.declared.syntax.Sign.{Sign}
use Rattle.ng_language.specs.declared.syntax.Sign.TheVariants as sign
use Rattle.ng_language.specs.declared.syntax.Token.{Token}
use Rattle.ng_language.specs.declared.syntax.Label.{Label}
use Rattle.ng_language.specs.declared.syntax.Level.{Level}
use Rattle.ng_language.specs.declared.syntax.Level.TheVariants as levels
use Rattle.ng_language.specs.declared.syntax.Unary.{Unary}
use Rattle.ng_language.specs.declared.syntax.Joint.{Joint}
use Rattle.ng_language.specs.declared.syntax.Refusal.{Refusal}
use Rattle.ng_language.proofs.Sound.{got, expected}
use Rattle.ng_language.proofs.Fronts.{after_some, name_some, unary_some, joint_some}
use Rattle.ng_refusals.proofs.Local.{refused, left, then_read, Local}
use Rattle.ng_refusals.proofs.Readers.{label_local, statement_local, arguments_local, expression_local, ternary_local, operators_local, operand_local, head_local, called_local, pair_local}

-- what is read in parts is read the same where the parts are
then_same : {A B : Type 0} (f f2 : List Token → Read A) (g g2 : A → List Token → Read B) (ts : List Token) → Local A f → f ts ≡ f2 ts → ((a : A) (us : List Token) → length us ≤ length ts → g a us ≡ g2 a us) → then_read (f ts) g ≡ then_read (f2 ts) g2
then_same {A} {B} f f2 g g2 ts lf same later = go (f ts) refl ∙ ap (λ r. then_read r g2) same
  where
    go : (r : Read A) → f ts ≡ r → then_read r g ≡ then_read r g2
    go (Ok x) e = later x.0 x.1 (omega (arith, lf.falls ts, ap left e))
    go (Err x) e = refl

when_same : {C B : Type 0} (o : Option C) (f g : C → B) (d e : B) → ((x : C) → o ≡ Some x → f x ≡ g x) → d ≡ e → when_some o f d ≡ when_some o g e
when_same (Some x) f g d e same rest = same x refl
when_same None f g d e same rest = rest

after_same : {B : Type 0} (s : Sign) (ts : List Token) (f g : List Token → B) (d e : B) → ((us : List Token) → length ts ≡ suc (length us) → f us ≡ g us) → d ≡ e → when_some (after s ts) f d ≡ when_some (after s ts) g e
after_same s ts f g d e same rest = when_same (after s ts) f g d e (λ us h. same us (ap length (after_some s ts us h))) rest

name_same : {B : Type 0} (ts : List Token) (f g : List ℕ × List Token → B) (d : B) → ((n : List ℕ × List Token) → length ts ≡ suc (length n.1) → f n ≡ g n) → when_some (name_at ts) f d ≡ when_some (name_at ts) g d
name_same ts f g d same = when_same (name_at ts) f g d d (λ n h. same n (ap length (name_some ts n.1 n.0 h))) refl

unary_same : {B : Type 0} (ts : List Token) (f g : Unary × List Token → B) (d e : B) → ((o : Unary × List Token) → length ts ≡ suc (length o.1) → f o ≡ g o) → d ≡ e → when_some (unary_at ts) f d ≡ when_some (unary_at ts) g e
unary_same ts f g d e same rest = when_same (unary_at ts) f g d e (λ o h. same o (ap length (unary_some ts o.1 o.0 h))) rest

joint_same : {B : Type 0} (l : Level) (ts : List Token) (f g : Joint × List Token → B) (d : B) → ((j : Joint × List Token) → length ts ≡ suc (length j.1) → f j ≡ g j) → when_some (joint_at l ts) f d ≡ when_some (joint_at l ts) g d
joint_same l ts f g d same = when_same (joint_at l ts) f g d d (λ j h. same j (ap length (joint_some l ts j.1 j.0 h).1)) refl

expect_same : {B : Type 0} (s : Sign) (ts : List Token) (f g : List Token → Result B Refusal) → ((us : List Token) → length ts ≡ suc (length us) → f us ≡ g us) → (expect s ts >>= f) ≡ (expect s ts >>= g)
expect_same {B} s ts f g same = go (expect s ts) refl
  where
    go : (r : Result (List Token) Refusal) → expect s ts ≡ r → (r >>= f) ≡ (r >>= g)
    go (Ok us) e = same us (ap length (expected s ts us e))
    go (Err x) e = refl

if_same : {B : Type 0} (b : Bool) (x y d : B) → x ≡ y → (if b then x else d) ≡ (if b then y else d)
if_same true x y d h = h
if_same false x y d h = refl

else_same : {B : Type 0} (b : Bool) (d x y : B) → x ≡ y → (if b then d else x) ≡ (if b then d else y)
else_same true d x y h = refl
else_same false d x y h = h

mutual
  pub statement_steady : (k : ℕ) (ts : List Token) → 32 * length ts + 21 ≤ k → statement k ts ≡ statement (suc k) ts
  statement_steady zero ts h = absurd (omega arith)
  statement_steady (suc k) ts h = then_same (expression k) (expression (suc k)) (λ a us. filters k a us) (λ a us. filters (suc k) a us) ts (expression_local k) (expression_steady k ts (omega arith)) (λ a us n. filters_steady k a us (omega arith))

  filters_steady : (k : ℕ) (a : Tree) (ts : List Token) → 32 * length ts + 1 ≤ k → filters k a ts ≡ filters (suc k) a ts
  filters_steady zero a ts h = absurd (omega arith)
  filters_steady (suc k) a ts h = after_same sign.Bar ts (named_filter k a) (named_filter (suc k) a) (got ts a) (got ts a) (λ us n. named_steady k a us (omega arith)) refl

  named_steady : (k : ℕ) (a : Tree) (ts : List Token) → 32 * length ts + 1 ≤ k → named_filter k a ts ≡ named_filter (suc k) a ts
  named_steady zero a ts h = absurd (omega arith)
  named_steady (suc k) a ts h =
      name_same ts (λ n. then_read (arguments k [] n.1) (λ bs us. filters k (filtered a n.0 (trees_from bs)) us)) (λ n. then_read (arguments (suc k) [] n.1) (λ bs us. filters (suc k) (filtered a n.0 (trees_from bs)) us)) (unfit ts) (λ n e.
      then_same (arguments k []) (arguments (suc k) []) (λ bs us. filters k (filtered a n.0 (trees_from bs)) us) (λ bs us. filters (suc k) (filtered a n.0 (trees_from bs)) us) n.1 (arguments_local k []) (arguments_steady k [] n.1 (omega arith))
      (λ bs us i. filters_steady k (filtered a n.0 (trees_from bs)) us (omega arith)))

  arguments_steady : (k : ℕ) (bs : List Tree) (ts : List Token) → 32 * length ts + 1 ≤ k → arguments k bs ts ≡ arguments (suc k) bs ts
  arguments_steady zero bs ts h = absurd (omega arith)
  arguments_steady (suc k) bs ts h =
      after_same sign.Colon ts (λ us. then_read (expression k us) (λ a vs. arguments k (bs ++ a ∷ []) vs)) (λ us. then_read (expression (suc k) us) (λ a vs. arguments (suc k) (bs ++ a ∷ []) vs)) (got ts bs) (got ts bs) (λ us n.
      then_same (expression k) (expression (suc k)) (λ a vs. arguments k (bs ++ a ∷ []) vs) (λ a vs. arguments (suc k) (bs ++ a ∷ []) vs) us (expression_local k) (expression_steady k us (omega arith)) (λ a vs i. arguments_steady k (bs ++ a ∷ []) vs (omega arith))) refl

  expression_steady : (k : ℕ) (ts : List Token) → 32 * length ts + 20 ≤ k → expression k ts ≡ expression (suc k) ts
  expression_steady zero ts h = absurd (omega arith)
  expression_steady (suc k) ts h = then_same (ternary k) (ternary (suc k)) (λ a us. assignment k a us) (λ a us. assignment (suc k) a us) ts (ternary_local k) (ternary_steady k ts (omega arith)) (λ a us n. assignment_steady k a us (omega arith))

  assignment_steady : (k : ℕ) (a : Tree) (ts : List Token) → 32 * length ts + 1 ≤ k → assignment k a ts ≡ assignment (suc k) a ts
  assignment_steady zero a ts h = absurd (omega arith)
  assignment_steady (suc k) a ts h =
      after_same sign.Assign ts (λ us. if is_assignable a then then_read (expression k us) (λ b vs. got vs (assigned a b)) else refused false (length ts)) (λ us. if is_assignable a then then_read (expression (suc k) us) (λ b vs. got vs (assigned a b)) else refused false (length ts)) (got ts a) (got ts a) (λ us n.
      if_same (is_assignable a) (then_read (expression k us) (λ b vs. got vs (assigned a b))) (then_read (expression (suc k) us) (λ b vs. got vs (assigned a b))) (refused false (length ts))
      (ap (λ r. then_read r (λ b vs. got vs (assigned a b))) (expression_steady k us (omega arith)))) refl

  ternary_steady : (k : ℕ) (ts : List Token) → 32 * length ts + 19 ≤ k → ternary k ts ≡ ternary (suc k) ts
  ternary_steady zero ts h = absurd (omega arith)
  ternary_steady (suc k) ts h = then_same (operators k levels.Or) (operators (suc k) levels.Or) (λ a us. choice k a us) (λ a us. choice (suc k) a us) ts (operators_local k levels.Or) (operators_steady k levels.Or ts (omega arith)) (λ a us n. choice_steady k a us (omega arith))

  choice_steady : (k : ℕ) (c : Tree) (ts : List Token) → 32 * length ts + 1 ≤ k → choice k c ts ≡ choice (suc k) c ts
  choice_steady zero c ts h = absurd (omega arith)
  choice_steady (suc k) c ts h =
      let last : ℕ → Tree → List Token → Read Tree = λ m a vs. then_read (expression m vs) (λ b xs. got xs (choice_of c a b)) in
      after_same sign.Question ts (λ us. then_read (expression k us) (λ a vs. expect sign.Colon vs >>= last k a)) (λ us. then_read (expression (suc k) us) (λ a vs. expect sign.Colon vs >>= last (suc k) a)) (got ts c) (got ts c) (λ us n.
      then_same (expression k) (expression (suc k)) (λ a vs. expect sign.Colon vs >>= last k a) (λ a vs. expect sign.Colon vs >>= last (suc k) a) us (expression_local k) (expression_steady k us (omega arith)) (λ a vs i.
      expect_same sign.Colon vs (last k a) (last (suc k) a) (λ xs m. ap (λ r. then_read r (λ b xs. got xs (choice_of c a b))) (expression_steady k xs (omega arith))))) refl

  operators_steady : (k : ℕ) (l : Level) (ts : List Token) → 32 * length ts + (2 * (9 - tightness l) + 8) ≤ k → operators k l ts ≡ operators (suc k) l ts
  operators_steady zero l ts h = absurd (omega arith)
  operators_steady (suc k) l ts h = then_same (operand k l) (operand (suc k) l) (λ a us. operations k l a us) (λ a us. operations (suc k) l a us) ts (operand_local k l) (operand_steady k l ts (omega arith)) (λ a us n. operations_steady k l a us (omega arith))

  operand_steady : (k : ℕ) (l : Level) (ts : List Token) → 32 * length ts + (2 * (9 - tightness l) + 7) ≤ k → operand k l ts ≡ operand (suc k) l ts
  operand_steady zero l ts h = absurd (omega arith)
  operand_steady (suc k) levels.Or ts h = operators_steady k levels.And ts (omega arith)
  operand_steady (suc k) levels.And ts h = operators_steady k levels.Equality ts (omega arith)
  operand_steady (suc k) levels.Equality ts h = operators_steady k levels.Relation ts (omega arith)
  operand_steady (suc k) levels.Relation ts h = operators_steady k levels.Sum ts (omega arith)
  operand_steady (suc k) levels.Sum ts h = operators_steady k levels.Term ts (omega arith)
  operand_steady (suc k) levels.Term ts h = unary_steady k ts (omega arith)

  operations_steady : (k : ℕ) (l : Level) (a : Tree) (ts : List Token) → 32 * length ts + 1 ≤ k → operations k l a ts ≡ operations (suc k) l a ts
  operations_steady zero l a ts h = absurd (omega arith)
  operations_steady (suc k) l a ts h =
      joint_same l ts (λ j. then_read (operand k l j.1) (λ b vs. operations k l (joined j.0 a b) vs)) (λ j. then_read (operand (suc k) l j.1) (λ b vs. operations (suc k) l (joined j.0 a b) vs)) (got ts a) (λ j n.
      then_same (operand k l) (operand (suc k) l) (λ b vs. operations k l (joined j.0 a b) vs) (λ b vs. operations (suc k) l (joined j.0 a b) vs) j.1 (operand_local k l) (operand_steady k l j.1 (omega arith)) (λ b vs i. operations_steady k l (joined j.0 a b) vs (omega arith)))

  unary_steady : (k : ℕ) (ts : List Token) → 32 * length ts + 6 ≤ k → unary k ts ≡ unary (suc k) ts
  unary_steady zero ts h = absurd (omega arith)
  unary_steady (suc k) ts h =
      unary_same ts (λ o. then_read (unary k o.1) (λ b vs. got vs (signed o.0 b))) (λ o. then_read (unary (suc k) o.1) (λ b vs. got vs (signed o.0 b))) (primary k ts) (primary (suc k) ts)
      (λ o n. ap (λ r. then_read r (λ b vs. got vs (signed o.0 b))) (unary_steady k o.1 (omega arith))) (primary_steady k ts (omega arith))

  primary_steady : (k : ℕ) (ts : List Token) → 32 * length ts + 5 ≤ k → primary k ts ≡ primary (suc k) ts
  primary_steady zero ts h = absurd (omega arith)
  primary_steady (suc k) ts h = then_same (head k) (head (suc k)) (λ a us. postfix k a us) (λ a us. postfix (suc k) a us) ts (head_local k) (head_steady k ts (omega arith)) (λ a us n. postfix_steady k a us (omega arith))

  postfix_steady : (k : ℕ) (a : Tree) (ts : List Token) → 32 * length ts + 1 ≤ k → postfix k a ts ≡ postfix (suc k) a ts
  postfix_steady zero a ts h = absurd (omega arith)
  postfix_steady (suc k) a ts h =
      let dot : ℕ → List Token → Read Tree = λ m us. when_some (name_at us) (λ n. postfix m (member_of a n.0) n.1) (unfit us) in
      let square : ℕ → List Token → Read Tree = λ m us. then_read (expression m us) (λ i vs. expect sign.CloseSquare vs >>= postfix m (item_of a i)) in
      let round : ℕ → List Token → Read Tree = λ m us. then_read (called m us) (λ bs vs. postfix m (call_of a (trees_from bs)) vs) in
      let rest : ℕ → Read Tree = λ m. when_some (after sign.OpenRound ts) (round m) (got ts a) in
      after_same sign.Dot ts (dot k) (dot (suc k)) (when_some (after sign.OpenSquare ts) (square k) (rest k)) (when_some (after sign.OpenSquare ts) (square (suc k)) (rest (suc k)))
      (λ us n. name_same us (λ x. postfix k (member_of a x.0) x.1) (λ x. postfix (suc k) (member_of a x.0) x.1) (unfit us) (λ x i. postfix_steady k (member_of a x.0) x.1 (omega arith)))
      (after_same sign.OpenSquare ts (square k) (square (suc k)) (rest k) (rest (suc k))
      (λ us n. then_same (expression k) (expression (suc k)) (λ i vs. expect sign.CloseSquare vs >>= postfix k (item_of a i)) (λ i vs. expect sign.CloseSquare vs >>= postfix (suc k) (item_of a i)) us (expression_local k) (expression_steady k us (omega arith))
      (λ i vs m. expect_same sign.CloseSquare vs (postfix k (item_of a i)) (postfix (suc k) (item_of a i)) (λ xs o. postfix_steady k (item_of a i) xs (omega arith))))
      (after_same sign.OpenRound ts (round k) (round (suc k)) (got ts a) (got ts a)
      (λ us n. then_same (called k) (called (suc k)) (λ bs vs. postfix k (call_of a (trees_from bs)) vs) (λ bs vs. postfix (suc k) (call_of a (trees_from bs)) vs) us (called_local k) (called_steady k us (omega arith)) (λ bs vs m. postfix_steady k (call_of a (trees_from bs)) vs (omega arith))) refl))

  called_steady : (k : ℕ) (ts : List Token) → 32 * length ts + 23 ≤ k → called k ts ≡ called (suc k) ts
  called_steady zero ts h = absurd (omega arith)
  called_steady (suc k) ts h = after_same sign.CloseRound ts (λ us. got us []) (λ us. got us []) (values k [] ts) (values (suc k) [] ts) (λ us n. refl) (values_steady k [] ts (omega arith))

  values_steady : (k : ℕ) (bs : List Tree) (ts : List Token) → 32 * length ts + 22 ≤ k → values k bs ts ≡ values (suc k) bs ts
  values_steady zero bs ts h = absurd (omega arith)
  values_steady (suc k) bs ts h =
      let last : Tree → List Token → Read (List Tree) = λ a us. expect sign.CloseRound us >>= λ vs. got vs (bs ++ a ∷ []) in
      let next : ℕ → Tree → List Token → Read (List Tree) = λ m a us. when_some (after sign.Comma us) (values m (bs ++ a ∷ [])) (last a us) in
      then_same (statement k) (statement (suc k)) (next k) (next (suc k)) ts (statement_local k) (statement_steady k ts (omega arith)) (λ a us n.
      after_same sign.Comma us (values k (bs ++ a ∷ [])) (values (suc k) (bs ++ a ∷ [])) (last a us) (last a us) (λ vs i. values_steady k (bs ++ a ∷ []) vs (omega arith)) refl)

  items_steady : (k : ℕ) (bs : List Tree) (ts : List Token) → 32 * length ts + 22 ≤ k → items k bs ts ≡ items (suc k) bs ts
  items_steady zero bs ts h = absurd (omega arith)
  items_steady (suc k) bs ts h =
      let last : Tree → List Token → Read (List Tree) = λ a us. expect sign.CloseSquare us >>= λ vs. got vs (bs ++ a ∷ []) in
      let next : ℕ → Tree → List Token → Read (List Tree) = λ m a us. when_some (after sign.Comma us) (items m (bs ++ a ∷ [])) (last a us) in
      after_same sign.CloseSquare ts (λ us. got us bs) (λ us. got us bs) (then_read (statement k ts) (next k)) (then_read (statement (suc k) ts) (next (suc k))) (λ us n. refl)
      (then_same (statement k) (statement (suc k)) (next k) (next (suc k)) ts (statement_local k) (statement_steady k ts (omega arith)) (λ a us n.
      after_same sign.Comma us (items k (bs ++ a ∷ [])) (items (suc k) (bs ++ a ∷ [])) (last a us) (last a us) (λ vs i. items_steady k (bs ++ a ∷ []) vs (omega arith)) refl))

  pairs_steady : (k : ℕ) (ps : List PairTree) (ts : List Token) → 32 * length ts + 23 ≤ k → pairs k ps ts ≡ pairs (suc k) ps ts
  pairs_steady zero ps ts h = absurd (omega arith)
  pairs_steady (suc k) ps ts h =
      let last : PairTree → List Token → Read (List PairTree) = λ a us. expect sign.CloseCurly us >>= λ vs. got vs (ps ++ a ∷ []) in
      let next : ℕ → PairTree → List Token → Read (List PairTree) = λ m a us. when_some (after sign.Comma us) (pairs m (ps ++ a ∷ [])) (last a us) in
      after_same sign.CloseCurly ts (λ us. got us ps) (λ us. got us ps) (then_read (pair k ts) (next k)) (then_read (pair (suc k) ts) (next (suc k))) (λ us n. refl)
      (then_same (pair k) (pair (suc k)) (next k) (next (suc k)) ts (pair_local k) (pair_steady k ts (omega arith)) (λ a us n.
      after_same sign.Comma us (pairs k (ps ++ a ∷ [])) (pairs (suc k) (ps ++ a ∷ [])) (last a us) (last a us) (λ vs i. pairs_steady k (ps ++ a ∷ []) vs (omega arith)) refl))

  pair_steady : (k : ℕ) (ts : List Token) → 32 * length ts + 22 ≤ k → pair k ts ≡ pair (suc k) ts
  pair_steady zero ts h = absurd (omega arith)
  pair_steady (suc k) ts h =
      let value : ℕ → Tree → List Token → Read PairTree = λ m i ws. then_read (expression m ws) (λ b xs. got xs (computed i b)) in
      let colon : ℕ → Tree → List Token → Read PairTree = λ m i vs. expect sign.Colon vs >>= value m i in
      let close : ℕ → Tree → List Token → Read PairTree = λ m i us. expect sign.CloseSquare us >>= colon m i in
      after_same sign.OpenSquare ts (λ us. then_read (expression k us) (close k)) (λ us. then_read (expression (suc k) us) (close (suc k))) (then_read (label ts) (λ l us. valued k l us)) (then_read (label ts) (λ l us. valued (suc k) l us))
      (λ us n. then_same (expression k) (expression (suc k)) (close k) (close (suc k)) us (expression_local k) (expression_steady k us (omega arith)) (λ i vs m.
      expect_same sign.CloseSquare vs (colon k i) (colon (suc k) i) (λ ws o.
      expect_same sign.Colon ws (value k i) (value (suc k) i) (λ xs p.
      ap (λ r. then_read r (λ b xs. got xs (computed i b))) (expression_steady k xs (omega arith))))))
      (then_same label label (λ l us. valued k l us) (λ l us. valued (suc k) l us) ts label_local refl (λ l us n. valued_steady k l us (omega arith)))

  valued_steady : (k : ℕ) (l : Label) (ts : List Token) → 32 * length ts + 1 ≤ k → valued k l ts ≡ valued (suc k) l ts
  valued_steady zero l ts h = absurd (omega arith)
  valued_steady (suc k) l ts h =
      after_same sign.Colon ts (λ us. then_read (expression k us) (λ b vs. got vs (labelled l b))) (λ us. then_read (expression (suc k) us) (λ b vs. got vs (labelled l b))) (lone_label l ts) (lone_label l ts)
      (λ us n. ap (λ r. then_read r (λ b vs. got vs (labelled l b))) (expression_steady k us (omega arith))) refl

  head_steady : (k : ℕ) (ts : List Token) → 32 * length ts + 4 ≤ k → head k ts ≡ head (suc k) ts
  head_steady zero ts h = absurd (omega arith)
  head_steady (suc k) ts h =
      let close : Tree → List Token → Read Tree = λ a us. expect sign.CloseRound us >>= λ vs. got vs (in_brackets a) in
      let round : ℕ → List Token → Read Tree = λ m us. then_read (statement m us) close in
      let square : ℕ → List Token → Read Tree = λ m us. then_read (items m [] us) (λ bs vs. got vs (a_list (trees_from bs))) in
      let curly : ℕ → List Token → Read Tree = λ m us. then_read (pairs m [] us) (λ ps vs. got vs (a_record (pairs_from ps))) in
      let rest : ℕ → Read Tree = λ m. when_some (after sign.OpenCurly ts) (curly m) (leaf ts) in
      after_same sign.OpenRound ts (round k) (round (suc k)) (when_some (after sign.OpenSquare ts) (square k) (rest k)) (when_some (after sign.OpenSquare ts) (square (suc k)) (rest (suc k)))
      (λ us n. ap (λ r. then_read r close) (statement_steady k us (omega arith)))
      (after_same sign.OpenSquare ts (square k) (square (suc k)) (rest k) (rest (suc k)) (λ us n. ap (λ r. then_read r (λ bs vs. got vs (a_list (trees_from bs)))) (items_steady k [] us (omega arith)))
      (after_same sign.OpenCurly ts (curly k) (curly (suc k)) (leaf ts) (leaf ts) (λ us n. ap (λ r. then_read r (λ ps vs. got vs (a_record (pairs_from ps)))) (pairs_steady k [] us (omega arith))) refl))

abbrev further : ℕ → List Tree → Tree → List Token → Result (List Tree) Refusal
further k bs a us = separated k (bs ++ a ∷ []) us

further_same : (k : ℕ) (bs : List Tree) (ts : List Token) → statement k ts ≡ statement (suc k) ts → ((a : Tree) (us : List Token) → length us ≤ length ts → further k bs a us ≡ further (suc k) bs a us) → (statement k ts >>= λ r. further k bs r.0 r.1) ≡ (statement (suc k) ts >>= λ r. further (suc k) bs r.0 r.1)
further_same k bs ts same later = go (statement k ts) refl ∙ ap (λ r. r >>= λ x. further (suc k) bs x.0 x.1) same
  where
    go : (r : Read Tree) → statement k ts ≡ r → (r >>= λ x. further k bs x.0 x.1) ≡ (r >>= λ x. further (suc k) bs x.0 x.1)
    go (Ok x) e = later x.0 x.1 (omega (arith, (statement_local k).falls ts, ap left e))
    go (Err x) e = refl

mutual
  statements_step : (k : ℕ) (bs : List Tree) (ts : List Token) → 32 * length ts + 22 ≤ k → statements k bs ts ≡ statements (suc k) bs ts
  statements_step zero bs ts h = absurd (omega arith)
  statements_step (suc k) bs ts h =
      else_same (nat_eq (length ts) 0) (Ok bs) (when_some (after sign.Semicolon ts) (λ us. statements k bs us) (statement k ts >>= λ r. further k bs r.0 r.1)) (when_some (after sign.Semicolon ts) (λ us. statements (suc k) bs us) (statement (suc k) ts >>= λ r. further (suc k) bs r.0 r.1))
      (after_same sign.Semicolon ts (λ us. statements k bs us) (λ us. statements (suc k) bs us) (statement k ts >>= λ r. further k bs r.0 r.1) (statement (suc k) ts >>= λ r. further (suc k) bs r.0 r.1) (λ us n. statements_step k bs us (omega arith))
      (further_same k bs ts (statement_steady k ts (omega arith)) (λ a us n. separated_step k (bs ++ a ∷ []) us (omega arith))))

  separated_step : (k : ℕ) (bs : List Tree) (ts : List Token) → 32 * length ts + 1 ≤ k → separated k bs ts ≡ separated (suc k) bs ts
  separated_step zero bs ts h = absurd (omega arith)
  separated_step (suc k) bs ts h =
      else_same (nat_eq (length ts) 0) (Ok bs) (when_some (after sign.Semicolon ts) (λ us. statements k bs us) (unfit ts)) (when_some (after sign.Semicolon ts) (λ us. statements (suc k) bs us) (unfit ts))
      (after_same sign.Semicolon ts (λ us. statements k bs us) (λ us. statements (suc k) bs us) (unfit ts) (unfit ts) (λ us n. statements_step k bs us (omega arith)) refl)

-- so the answer is the same with any room that is enough
pub statements_steady : (k m : ℕ) (bs : List Tree) (ts : List Token) → 32 * length ts + 22 ≤ k → k ≤ m → statements k bs ts ≡ statements m bs ts
statements_steady k zero bs ts h less = absurd (omega arith)
statements_steady k (suc m) bs ts h less = either (nat_le k m) refl (λ i. statements_steady k m bs ts h i ∙ statements_step m bs ts (omega arith))
  where
    either : (b : Bool) → nat_le k m ≡ b → (k ≤ m → statements k bs ts ≡ statements (suc m) bs ts) → statements k bs ts ≡ statements (suc m) bs ts
    either true e later = let i : k ≤ m = grind (arith, nat_tests) in later i
    either false e later = let i : k ≡ suc m = grind (arith, nat_tests) in ap (λ n. statements n bs ts) i
