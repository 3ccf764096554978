-- Each reader looks at no token behind the one that it refuses.
use Rattle.std.proofs.Common.{◌≡◌, ℕ, zero, suc, Bool, true, false, List, [], ◌∷◌, ◌++◌, length, refl, inl, inr}
use Rattle.std.specs.Prelude.{Some, None, codes, if◌then◌else◌}
use Rattle.std.specs.Str.{bytes_eq}
use Rattle.ng_base.specs.Meets.{◌>>=◌}
use Rattle.ng_base.proofs.Binds.{if_true, if_false}
use Rattle.ng_language.specs.Choice.{when_some}
use Rattle.ng_language.specs.Trees.{Tree, PairTree, a_number, a_text, member_of, item_of, call_of, a_list, a_record, in_brackets, signed, choice_of, assigned, filtered, labelled, shorthand, computed, trees_from, pairs_from}
use Rattle.ng_language.specs.Tokens.{same_sign, after, name_at, label_at}
use Rattle.ng_language.specs.Reading.{Read, unfit, expect, word_tree, leaf, label, lone_label, is_assignable, joined, statement, filters, named_filter, arguments, expression, assignment, ternary, choice, operators, operand, operations, unary, primary, postfix, called, values, items, pairs, pair, valued, head}
use Rattle.ng_language.specs.declared.syntax.Sign.{Sign}
use Rattle.ng_language.specs.declared.syntax.Sign.TheVariants as sign
use Rattle.ng_language.specs.declared.syntax.Token.{Token}
use Rattle.ng_language.specs.declared.syntax.Token.TheVariants as token
use Rattle.ng_language.specs.declared.syntax.Label.{Label}
use Rattle.ng_language.specs.declared.syntax.Label.TheVariants as labels
use Rattle.ng_language.specs.declared.syntax.Level.{Level}
use Rattle.ng_language.specs.declared.syntax.Level.TheVariants as levels
use Rattle.ng_language.proofs.Sound.{got}
use Rattle.ng_refusals.proofs.Local.{refused, then_read, Local, Looks, local_ok, local_refused, local_unfit, local_then, local_look, local_after, local_expect, local_name, local_unary, local_joint}

-- what looks at one token
leaf_local : Local Tree leaf
leaf_local = local_look leaf unfit (local_unfit Tree) refl looks
  where
    names : (n : List ℕ) (b : Bool) → bytes_eq n (codes "$locals") ≡ b → Looks Tree leaf (token.Name n)
    names n true e = inr (unfit, local_unfit Tree, λ ts. if_true (bytes_eq n (codes "$locals")) (unfit (token.Name n ∷ ts)) (got ts (word_tree n)) e)
    names n false e = inl ((λ ts. got ts (word_tree n)), local_ok (word_tree n), λ ts. if_false (bytes_eq n (codes "$locals")) (unfit (token.Name n ∷ ts)) (got ts (word_tree n)) e)

    looks : (x : Token) → Looks Tree leaf x
    looks (token.Name n) = names n (bytes_eq n (codes "$locals")) refl
    looks (token.Number n) = inl ((λ ts. got ts (a_number n)), local_ok (a_number n), λ ts. refl)
    looks (token.Text n) = inl ((λ ts. got ts (a_text n)), local_ok (a_text n), λ ts. refl)
    looks (token.Sign u) = inr (unfit, local_unfit Tree, λ ts. refl)

pub label_local : Local Label label
unfolding label_at
label_local = local_look label unfit (local_unfit Label) refl looks
  where
    looks : (x : Token) → Looks Label label x
    looks (token.Name n) = inl ((λ ts. got ts (labels.Name n)), local_ok (labels.Name n), λ ts. refl)
    looks (token.Number n) = inl ((λ ts. got ts (labels.Number n)), local_ok (labels.Number n), λ ts. refl)
    looks (token.Text n) = inl ((λ ts. got ts (labels.Text n)), local_ok (labels.Text n), λ ts. refl)
    looks (token.Sign u) = inr (unfit, local_unfit Label, λ ts. refl)

lone_local : (l : Label) → Local PairTree (lone_label l)
lone_local (labels.Name n) = local_ok (shorthand n (word_tree n))
lone_local (labels.Text n) = local_unfit PairTree
lone_local (labels.Number n) = local_unfit PairTree

-- a `=`, and what stands behind it
abbrev assigns : Tree → (List Token → Read Tree) → Bool → List Token → Read Tree
assigns a f b ts = when_some (after sign.Assign ts) (λ us. if b then then_read (f us) (λ c vs. got vs (assigned a c)) else refused false (length ts)) (got ts a)

assigns_local : (a : Tree) (f : List Token → Read Tree) → Local Tree f → (b : Bool) → Local Tree (assigns a f b)
unfolding after
assigns_local a f lf true = local_after sign.Assign (λ us. then_read (f us) (λ c vs. got vs (assigned a c))) (λ ts. got ts a) (local_then f (λ c vs. got vs (assigned a c)) lf (λ c. local_ok (assigned a c))) (local_ok a)
assigns_local a f lf false = local_look (assigns a f false) (λ ts. got ts a) (local_ok a) refl looks
  where
    signs : (u : Sign) (b : Bool) → same_sign sign.Assign u ≡ b → Looks Tree (assigns a f false) (token.Sign u)
    signs u true e = inr ((λ ts. refused false (length ts)), local_refused Tree false, λ ts. rw (if_true (same_sign sign.Assign u) (Some ts) None e))
    signs u false e = inr ((λ ts. got ts a), local_ok a, λ ts. rw (if_false (same_sign sign.Assign u) (Some ts) None e))

    looks : (x : Token) → Looks Tree (assigns a f false) x
    looks (token.Name n) = inr ((λ ts. got ts a), local_ok a, λ ts. refl)
    looks (token.Number n) = inr ((λ ts. got ts a), local_ok a, λ ts. refl)
    looks (token.Text n) = inr ((λ ts. got ts a), local_ok a, λ ts. refl)
    looks (token.Sign u) = signs u (same_sign sign.Assign u) refl

-- each with room for so many calls
mutual
  pub statement_local : (k : ℕ) → Local Tree (statement k)
  statement_local zero = local_unfit Tree
  statement_local (suc k) = local_then (expression k) (λ a ts. filters k a ts) (expression_local k) (filters_local k)

  filters_local : (k : ℕ) (a : Tree) → Local Tree (filters k a)
  filters_local zero a = local_unfit Tree
  filters_local (suc k) a = local_after sign.Bar (named_filter k a) (λ ts. got ts a) (named_local k a) (local_ok a)

  named_local : (k : ℕ) (a : Tree) → Local Tree (named_filter k a)
  named_local zero a = local_unfit Tree
  named_local (suc k) a =
      local_name (λ n ts. then_read (arguments k [] ts) (λ bs us. filters k (filtered a n (trees_from bs)) us))
      (λ n. local_then (arguments k []) (λ bs us. filters k (filtered a n (trees_from bs)) us) (arguments_local k []) (λ bs. filters_local k (filtered a n (trees_from bs))))

  pub arguments_local : (k : ℕ) (bs : List Tree) → Local (List Tree) (arguments k bs)
  arguments_local zero bs = local_unfit (List Tree)
  arguments_local (suc k) bs =
      local_after sign.Colon (λ us. then_read (expression k us) (λ a vs. arguments k (bs ++ a ∷ []) vs)) (λ ts. got ts bs)
      (local_then (expression k) (λ a vs. arguments k (bs ++ a ∷ []) vs) (expression_local k) (λ a. arguments_local k (bs ++ a ∷ []))) (local_ok bs)

  pub expression_local : (k : ℕ) → Local Tree (expression k)
  expression_local zero = local_unfit Tree
  expression_local (suc k) = local_then (ternary k) (λ a ts. assignment k a ts) (ternary_local k) (assignment_local k)

  assignment_local : (k : ℕ) (a : Tree) → Local Tree (assignment k a)
  assignment_local zero a = local_unfit Tree
  assignment_local (suc k) a = assigns_local a (expression k) (expression_local k) (is_assignable a)

  pub ternary_local : (k : ℕ) → Local Tree (ternary k)
  ternary_local zero = local_unfit Tree
  ternary_local (suc k) = local_then (operators k levels.Or) (λ a ts. choice k a ts) (operators_local k levels.Or) (choice_local k)

  choice_local : (k : ℕ) (c : Tree) → Local Tree (choice k c)
  choice_local zero c = local_unfit Tree
  choice_local (suc k) c =
      let last : Tree → List Token → Read Tree = λ a vs. then_read (expression k vs) (λ b xs. got xs (choice_of c a b)) in
      let last_local : (a : Tree) → Local Tree (last a) = λ a. local_then (expression k) (λ b xs. got xs (choice_of c a b)) (expression_local k) (λ b. local_ok (choice_of c a b)) in
      local_after sign.Question (λ us. then_read (expression k us) (λ a vs. expect sign.Colon vs >>= last a)) (λ ts. got ts c)
      (local_then (expression k) (λ a vs. expect sign.Colon vs >>= last a) (expression_local k) (λ a. local_expect sign.Colon (last a) (last_local a))) (local_ok c)

  pub operators_local : (k : ℕ) (l : Level) → Local Tree (operators k l)
  operators_local zero l = local_unfit Tree
  operators_local (suc k) l = local_then (operand k l) (λ a ts. operations k l a ts) (operand_local k l) (operations_local k l)

  pub operand_local : (k : ℕ) (l : Level) → Local Tree (operand k l)
  operand_local zero l = local_unfit Tree
  operand_local (suc k) levels.Or = operators_local k levels.And
  operand_local (suc k) levels.And = operators_local k levels.Equality
  operand_local (suc k) levels.Equality = operators_local k levels.Relation
  operand_local (suc k) levels.Relation = operators_local k levels.Sum
  operand_local (suc k) levels.Sum = operators_local k levels.Term
  operand_local (suc k) levels.Term = unary_local k

  operations_local : (k : ℕ) (l : Level) (a : Tree) → Local Tree (operations k l a)
  operations_local zero l a = local_unfit Tree
  operations_local (suc k) l a =
      local_joint l (λ j us. then_read (operand k l us) (λ b vs. operations k l (joined j a b) vs)) (λ ts. got ts a)
      (λ j. local_then (operand k l) (λ b vs. operations k l (joined j a b) vs) (operand_local k l) (λ b. operations_local k l (joined j a b))) (local_ok a)

  unary_local : (k : ℕ) → Local Tree (unary k)
  unary_local zero = local_unfit Tree
  unary_local (suc k) =
      local_unary (λ o us. then_read (unary k us) (λ b vs. got vs (signed o b))) (primary k)
      (λ o. local_then (unary k) (λ b vs. got vs (signed o b)) (unary_local k) (λ b. local_ok (signed o b))) (primary_local k)

  primary_local : (k : ℕ) → Local Tree (primary k)
  primary_local zero = local_unfit Tree
  primary_local (suc k) = local_then (head k) (λ a ts. postfix k a ts) (head_local k) (postfix_local k)

  postfix_local : (k : ℕ) (a : Tree) → Local Tree (postfix k a)
  postfix_local zero a = local_unfit Tree
  postfix_local (suc k) a =
      let dot : List Token → Read Tree = λ us. when_some (name_at us) (λ n. postfix k (member_of a n.0) n.1) (unfit us) in
      let square : List Token → Read Tree = λ us. then_read (expression k us) (λ i vs. expect sign.CloseSquare vs >>= postfix k (item_of a i)) in
      let round : List Token → Read Tree = λ us. then_read (called k us) (λ bs vs. postfix k (call_of a (trees_from bs)) vs) in
      local_after sign.Dot dot (λ ts. when_some (after sign.OpenSquare ts) square (when_some (after sign.OpenRound ts) round (got ts a)))
      (local_name (λ n us. postfix k (member_of a n) us) (λ n. postfix_local k (member_of a n)))
      (local_after sign.OpenSquare square (λ ts. when_some (after sign.OpenRound ts) round (got ts a))
      (local_then (expression k) (λ i vs. expect sign.CloseSquare vs >>= postfix k (item_of a i)) (expression_local k) (λ i. local_expect sign.CloseSquare (postfix k (item_of a i)) (postfix_local k (item_of a i))))
      (local_after sign.OpenRound round (λ ts. got ts a)
      (local_then (called k) (λ bs vs. postfix k (call_of a (trees_from bs)) vs) (called_local k) (λ bs. postfix_local k (call_of a (trees_from bs)))) (local_ok a)))

  pub called_local : (k : ℕ) → Local (List Tree) (called k)
  called_local zero = local_unfit (List Tree)
  called_local (suc k) = local_after sign.CloseRound (λ us. got us []) (values k []) (local_ok []) (values_local k [])

  values_local : (k : ℕ) (bs : List Tree) → Local (List Tree) (values k bs)
  values_local zero bs = local_unfit (List Tree)
  values_local (suc k) bs =
      let next : Tree → List Token → Read (List Tree) = λ a ts. when_some (after sign.Comma ts) (λ us. values k (bs ++ a ∷ []) us) (expect sign.CloseRound ts >>= λ us. got us (bs ++ a ∷ [])) in
      local_then (statement k) next (statement_local k) (λ a.
      local_after sign.Comma (values k (bs ++ a ∷ [])) (λ ts. expect sign.CloseRound ts >>= λ us. got us (bs ++ a ∷ [])) (values_local k (bs ++ a ∷ []))
      (local_expect sign.CloseRound (λ us. got us (bs ++ a ∷ [])) (local_ok (bs ++ a ∷ []))))

  items_local : (k : ℕ) (bs : List Tree) → Local (List Tree) (items k bs)
  items_local zero bs = local_unfit (List Tree)
  items_local (suc k) bs =
      let next : Tree → List Token → Read (List Tree) = λ a ts. when_some (after sign.Comma ts) (λ us. items k (bs ++ a ∷ []) us) (expect sign.CloseSquare ts >>= λ us. got us (bs ++ a ∷ [])) in
      local_after sign.CloseSquare (λ us. got us bs) (λ ts. then_read (statement k ts) next) (local_ok bs) (local_then (statement k) next (statement_local k) (λ a.
      local_after sign.Comma (items k (bs ++ a ∷ [])) (λ ts. expect sign.CloseSquare ts >>= λ us. got us (bs ++ a ∷ [])) (items_local k (bs ++ a ∷ []))
      (local_expect sign.CloseSquare (λ us. got us (bs ++ a ∷ [])) (local_ok (bs ++ a ∷ [])))))

  pairs_local : (k : ℕ) (ps : List PairTree) → Local (List PairTree) (pairs k ps)
  pairs_local zero ps = local_unfit (List PairTree)
  pairs_local (suc k) ps =
      let next : PairTree → List Token → Read (List PairTree) = λ a ts. when_some (after sign.Comma ts) (λ us. pairs k (ps ++ a ∷ []) us) (expect sign.CloseCurly ts >>= λ us. got us (ps ++ a ∷ [])) in
      local_after sign.CloseCurly (λ us. got us ps) (λ ts. then_read (pair k ts) next) (local_ok ps) (local_then (pair k) next (pair_local k) (λ a.
      local_after sign.Comma (pairs k (ps ++ a ∷ [])) (λ ts. expect sign.CloseCurly ts >>= λ us. got us (ps ++ a ∷ [])) (pairs_local k (ps ++ a ∷ []))
      (local_expect sign.CloseCurly (λ us. got us (ps ++ a ∷ [])) (local_ok (ps ++ a ∷ [])))))

  pub pair_local : (k : ℕ) → Local PairTree (pair k)
  pair_local zero = local_unfit PairTree
  pair_local (suc k) =
      let value : Tree → List Token → Read PairTree = λ i ws. then_read (expression k ws) (λ b xs. got xs (computed i b)) in
      let colon : Tree → List Token → Read PairTree = λ i vs. expect sign.Colon vs >>= value i in
      let close : Tree → List Token → Read PairTree = λ i us. expect sign.CloseSquare us >>= colon i in
      local_after sign.OpenSquare (λ us. then_read (expression k us) close) (λ ts. then_read (label ts) (λ l us. valued k l us))
      (local_then (expression k) close (expression_local k) (λ i.
      local_expect sign.CloseSquare (colon i) (local_expect sign.Colon (value i) (local_then (expression k) (λ b xs. got xs (computed i b)) (expression_local k) (λ b. local_ok (computed i b))))))
      (local_then label (λ l us. valued k l us) label_local (valued_local k))

  valued_local : (k : ℕ) (l : Label) → Local PairTree (valued k l)
  valued_local zero l = local_unfit PairTree
  valued_local (suc k) l =
      local_after sign.Colon (λ us. then_read (expression k us) (λ b vs. got vs (labelled l b))) (lone_label l)
      (local_then (expression k) (λ b vs. got vs (labelled l b)) (expression_local k) (λ b. local_ok (labelled l b))) (lone_local l)

  pub head_local : (k : ℕ) → Local Tree (head k)
  head_local zero = local_unfit Tree
  head_local (suc k) =
      let close : Tree → List Token → Read Tree = λ a us. expect sign.CloseRound us >>= λ vs. got vs (in_brackets a) in
      let round : List Token → Read Tree = λ us. then_read (statement k us) close in
      let square : List Token → Read Tree = λ us. then_read (items k [] us) (λ bs vs. got vs (a_list (trees_from bs))) in
      let curly : List Token → Read Tree = λ us. then_read (pairs k [] us) (λ ps vs. got vs (a_record (pairs_from ps))) in
      local_after sign.OpenRound round (λ ts. when_some (after sign.OpenSquare ts) square (when_some (after sign.OpenCurly ts) curly (leaf ts)))
      (local_then (statement k) close (statement_local k) (λ a. local_expect sign.CloseRound (λ vs. got vs (in_brackets a)) (local_ok (in_brackets a))))
      (local_after sign.OpenSquare square (λ ts. when_some (after sign.OpenCurly ts) curly (leaf ts))
      (local_then (items k []) (λ bs vs. got vs (a_list (trees_from bs))) (items_local k []) (λ bs. local_ok (a_list (trees_from bs))))
      (local_after sign.OpenCurly curly leaf
      (local_then (pairs k []) (λ ps vs. got vs (a_record (pairs_from ps))) (pairs_local k []) (λ ps. local_ok (a_record (pairs_from ps)))) leaf_local))
