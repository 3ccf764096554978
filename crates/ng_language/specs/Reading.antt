-- A reader of the grammar from the left. Each call has room for so many more calls.
use Rattle.std.specs.Prelude.{ℕ, zero, suc, nat_eq, Bool, true, false, List, [], ◌∷◌, ◌++◌, length, Result, Ok, Err, codes, if◌then◌else◌}
use Rattle.std.specs.Str.{bytes_eq}
use Rattle.ng_base.specs.Meets.{◌>>=◌}
use Rattle.ng_language.specs.Choice.{when_some}
use Rattle.ng_language.specs.Trees.{Tree, PairTree, a_number, a_text, a_name, the_scope, a_constant, member_of, item_of, call_of, a_list, a_record, in_brackets, signed, combined, both_of, either_of, choice_of, assigned, filtered, labelled, shorthand, computed, trees_from, pairs_from}
use Rattle.ng_language.specs.Tokens.{after, name_at, label_at, unary_at, joint_at}
use Rattle.ng_language.specs.declared.syntax.Sign.{Sign}
use Rattle.ng_language.specs.declared.syntax.Sign.TheVariants as sign
use Rattle.ng_language.specs.declared.syntax.Token.{Token}
use Rattle.ng_language.specs.declared.syntax.Token.TheVariants as token
use Rattle.ng_language.specs.declared.syntax.Label.{Label}
use Rattle.ng_language.specs.declared.syntax.Label.TheVariants as labels
use Rattle.ng_language.specs.declared.syntax.Constant.TheVariants as constants
use Rattle.ng_language.specs.declared.syntax.Level.{Level}
use Rattle.ng_language.specs.declared.syntax.Level.TheVariants as levels
use Rattle.ng_language.specs.declared.syntax.Joint.{Joint}
use Rattle.ng_language.specs.declared.syntax.Joint.TheVariants as joints
use Rattle.ng_language.specs.declared.syntax.Refusal.{Refusal}
use Rattle.ng_language.specs.declared.syntax.Refusal.TheVariants as refusals

-- what is read and the tokens after it, or where a token fits nothing
abbrev pub Read : Type 0 → Type 0
Read A = Result (A × List Token) Refusal

abbrev pub is_wanting : Refusal → Bool
is_wanting (refusals.Memory m) = true
is_wanting _ = false

-- the first of these tokens fits nothing
abbrev pub unfit : {A : Type 0} → List Token → Result A Refusal
unfit ts = Err (refusals.Unfit (length ts))

abbrev pub is_empty : List Token → Bool
is_empty ts = nat_eq (length ts) 0

-- the tokens behind a sign that must stand here
abbrev pub expect : Sign → List Token → Result (List Token) Refusal
expect s ts = when_some (after s ts) (λ us. Ok us) (unfit ts)

-- what a word stands for
abbrev pub word_tree : List ℕ → Tree
word_tree n =
    if bytes_eq n (codes "this") then the_scope
    else if bytes_eq n (codes "true") then a_constant constants.True
    else if bytes_eq n (codes "false") then a_constant constants.False
    else if bytes_eq n (codes "null") then a_constant constants.Null
    else if bytes_eq n (codes "undefined") then a_constant constants.Undefined
    else a_name n

abbrev pub leaf : List Token → Read Tree
leaf [] = unfit []
leaf (token.Name n ∷ ts) = if bytes_eq n (codes "$locals") then unfit (token.Name n ∷ ts) else Ok (word_tree n, ts)
leaf (token.Number n ∷ ts) = Ok (a_number n, ts)
leaf (token.Text t ∷ ts) = Ok (a_text t, ts)
leaf (token.Sign s ∷ ts) = unfit (token.Sign s ∷ ts)

-- the written name of a pair
abbrev pub label : List Token → Read Label
label ts = when_some (label_at ts) (λ l. Ok l) (unfit ts)

-- a name may stand alone for its pair, another label may not
abbrev pub lone_label : Label → List Token → Read PairTree
lone_label (labels.Name n) ts = Ok (shorthand n (word_tree n), ts)
lone_label (labels.Text t) ts = unfit ts
lone_label (labels.Number n) ts = unfit ts

-- a name, a member or a computed member can be assigned
abbrev pub is_assignable : Tree → Bool
is_assignable (a_name n) = true
is_assignable (member_of t n) = true
is_assignable (item_of t i) = true
is_assignable _ = false

abbrev pub joined : Joint → Tree → Tree → Tree
joined joints.Or a b = either_of a b
joined joints.And a b = both_of a b
joined (joints.Operator o) a b = combined o a b

abbrev mutual
  pub statement : ℕ → List Token → Read Tree
  statement zero ts = unfit ts
  statement (suc k) ts = expression k ts >>= λ r. filters k r.0 r.1

  pub filters : ℕ → Tree → List Token → Read Tree
  filters zero a ts = unfit ts
  filters (suc k) a ts = when_some (after sign.Bar ts) (λ us. named_filter k a us) (Ok (a, ts))

  pub named_filter : ℕ → Tree → List Token → Read Tree
  named_filter zero a ts = unfit ts
  named_filter (suc k) a ts = when_some (name_at ts) (λ n. arguments k [] n.1 >>= λ r. filters k (filtered a n.0 (trees_from r.0)) r.1) (unfit ts)

  pub arguments : ℕ → List Tree → List Token → Read (List Tree)
  arguments zero bs ts = unfit ts
  arguments (suc k) bs ts = when_some (after sign.Colon ts) (λ us. expression k us >>= λ r. arguments k (bs ++ r.0 ∷ []) r.1) (Ok (bs, ts))

  pub expression : ℕ → List Token → Read Tree
  expression zero ts = unfit ts
  expression (suc k) ts = ternary k ts >>= λ r. assignment k r.0 r.1

  pub assignment : ℕ → Tree → List Token → Read Tree
  assignment zero a ts = unfit ts
  assignment (suc k) a ts =
      when_some (after sign.Assign ts)
      (λ us. if is_assignable a then (expression k us >>= λ r. Ok (assigned a r.0, r.1)) else Err (refusals.NotAssignable (length ts)))
      (Ok (a, ts))

  pub ternary : ℕ → List Token → Read Tree
  ternary zero ts = unfit ts
  ternary (suc k) ts = operators k levels.Or ts >>= λ r. choice k r.0 r.1

  pub choice : ℕ → Tree → List Token → Read Tree
  choice zero c ts = unfit ts
  choice (suc k) c ts =
      when_some (after sign.Question ts)
      (λ us. expression k us >>= λ a. expect sign.Colon a.1 >>= λ vs. expression k vs >>= λ b. Ok (choice_of c a.0 b.0, b.1))
      (Ok (c, ts))

  pub operators : ℕ → Level → List Token → Read Tree
  operators zero l ts = unfit ts
  operators (suc k) l ts = operand k l ts >>= λ r. operations k l r.0 r.1

  pub operand : ℕ → Level → List Token → Read Tree
  operand zero l ts = unfit ts
  operand (suc k) levels.Or ts = operators k levels.And ts
  operand (suc k) levels.And ts = operators k levels.Equality ts
  operand (suc k) levels.Equality ts = operators k levels.Relation ts
  operand (suc k) levels.Relation ts = operators k levels.Sum ts
  operand (suc k) levels.Sum ts = operators k levels.Term ts
  operand (suc k) levels.Term ts = unary k ts

  pub operations : ℕ → Level → Tree → List Token → Read Tree
  operations zero l a ts = unfit ts
  operations (suc k) l a ts = when_some (joint_at l ts) (λ j. operand k l j.1 >>= λ r. operations k l (joined j.0 a r.0) r.1) (Ok (a, ts))

  pub unary : ℕ → List Token → Read Tree
  unary zero ts = unfit ts
  unary (suc k) ts = when_some (unary_at ts) (λ o. unary k o.1 >>= λ r. Ok (signed o.0 r.0, r.1)) (primary k ts)

  pub primary : ℕ → List Token → Read Tree
  primary zero ts = unfit ts
  primary (suc k) ts = head k ts >>= λ r. postfix k r.0 r.1

  pub postfix : ℕ → Tree → List Token → Read Tree
  postfix zero a ts = unfit ts
  postfix (suc k) a ts =
      when_some (after sign.Dot ts) (λ us. when_some (name_at us) (λ n. postfix k (member_of a n.0) n.1) (unfit us))
      (when_some (after sign.OpenSquare ts) (λ us. expression k us >>= λ r. expect sign.CloseSquare r.1 >>= λ vs. postfix k (item_of a r.0) vs)
      (when_some (after sign.OpenRound ts) (λ us. called k us >>= λ r. postfix k (call_of a (trees_from r.0)) r.1)
      (Ok (a, ts))))

  -- the arguments of a call, up to its closing bracket
  pub called : ℕ → List Token → Read (List Tree)
  called zero ts = unfit ts
  called (suc k) ts = when_some (after sign.CloseRound ts) (λ us. Ok ([], us)) (values k [] ts)

  pub values : ℕ → List Tree → List Token → Read (List Tree)
  values zero bs ts = unfit ts
  values (suc k) bs ts =
      statement k ts >>= λ r.
      when_some (after sign.Comma r.1) (λ us. values k (bs ++ r.0 ∷ []) us) (expect sign.CloseRound r.1 >>= λ us. Ok (bs ++ r.0 ∷ [], us))

  -- the items of a list, up to its closing bracket
  pub items : ℕ → List Tree → List Token → Read (List Tree)
  items zero bs ts = unfit ts
  items (suc k) bs ts =
      when_some (after sign.CloseSquare ts) (λ us. Ok (bs, us))
      (statement k ts >>= λ r.
      when_some (after sign.Comma r.1) (λ us. items k (bs ++ r.0 ∷ []) us) (expect sign.CloseSquare r.1 >>= λ us. Ok (bs ++ r.0 ∷ [], us)))

  -- the pairs of a record, up to its closing bracket
  pub pairs : ℕ → List PairTree → List Token → Read (List PairTree)
  pairs zero ps ts = unfit ts
  pairs (suc k) ps ts =
      when_some (after sign.CloseCurly ts) (λ us. Ok (ps, us))
      (pair k ts >>= λ r.
      when_some (after sign.Comma r.1) (λ us. pairs k (ps ++ r.0 ∷ []) us) (expect sign.CloseCurly r.1 >>= λ us. Ok (ps ++ r.0 ∷ [], us)))

  pub pair : ℕ → List Token → Read PairTree
  pair zero ts = unfit ts
  pair (suc k) ts =
      when_some (after sign.OpenSquare ts)
      (λ us. expression k us >>= λ n. expect sign.CloseSquare n.1 >>= λ vs. expect sign.Colon vs >>= λ ws. expression k ws >>= λ r. Ok (computed n.0 r.0, r.1))
      (label ts >>= λ l. valued k l.0 l.1)

  -- what stands behind the written name of a pair
  pub valued : ℕ → Label → List Token → Read PairTree
  valued zero l ts = unfit ts
  valued (suc k) l ts = when_some (after sign.Colon ts) (λ us. expression k us >>= λ r. Ok (labelled l r.0, r.1)) (lone_label l ts)

  pub head : ℕ → List Token → Read Tree
  head zero ts = unfit ts
  head (suc k) ts =
      when_some (after sign.OpenRound ts) (λ us. statement k us >>= λ r. expect sign.CloseRound r.1 >>= λ vs. Ok (in_brackets r.0, vs))
      (when_some (after sign.OpenSquare ts) (λ us. items k [] us >>= λ r. Ok (a_list (trees_from r.0), r.1))
      (when_some (after sign.OpenCurly ts) (λ us. pairs k [] us >>= λ r. Ok (a_record (pairs_from r.0), r.1))
      (leaf ts)))

-- the statements of a program, of which some may be empty
abbrev mutual
  pub statements : ℕ → List Tree → List Token → Result (List Tree) Refusal
  statements zero bs ts = unfit ts
  statements (suc k) bs ts =
      if is_empty ts then Ok bs
      else when_some (after sign.Semicolon ts) (λ us. statements k bs us) (statement k ts >>= λ r. separated k (bs ++ r.0 ∷ []) r.1)

  pub separated : ℕ → List Tree → List Token → Result (List Tree) Refusal
  separated zero bs ts = unfit ts
  separated (suc k) bs ts = if is_empty ts then Ok bs else when_some (after sign.Semicolon ts) (λ us. statements k bs us) (unfit ts)
