-- The grammar: which tokens spell which tree, by the production that makes the tree.
--
--   program    = [statement] {";" [statement]}
--   statement  = expression {"|" name {":" expression}}
--   expression = ternary ["=" expression]
--   ternary    = or ["?" expression ":" expression]
--   or         = and {"||" and}              and = equality {"&&" equality}
--   equality   = relation {("==" | "!=" | "===" | "!==") relation}
--   relation   = sum {("<" | ">" | "<=" | ">=") sum}
--   sum        = term {("+" | "-") term}     term = unary {("*" | "/" | "%") unary}
--   unary      = ("+" | "-" | "!") unary | primary
--   primary    = head {"." name | "[" expression "]" | "(" [statement {"," statement}] ")"}
--   head       = "(" statement ")" | "[" [statement {"," statement} [","]] "]"
--              | "{" [pair {"," pair} [","]] "}" | number | text | name
--   pair       = (name | text | number) ":" expression | name | "[" expression "]" ":" expression
use Rattle.std.specs.Prelude.{◌≡◌, ◌≤◌, ◌⊎◌, ℕ, suc, true, false, List, [], ◌∷◌, ◌++◌, codes, None}
use Rattle.std.specs.Str.{bytes_eq}
use Rattle.ng_language.specs.Trees.{Tree, Trees, PairTree, Pairs, a_number, a_text, a_name, the_scope, a_constant, member_of, item_of, call_of, a_list, a_record, in_brackets, signed, combined, both_of, either_of, choice_of, assigned, filtered, no_trees, tree_then, labelled, shorthand, computed, no_pairs, pair_then}
use Rattle.ng_language.specs.Heights.{heights}
use Rattle.ng_language.specs.Parsing.{one_too_many}
use Rattle.ng_language.specs.Reading.{word_tree, is_assignable}
use Rattle.ng_language.specs.declared.syntax.Sign.{Sign}
use Rattle.ng_language.specs.declared.syntax.Sign.TheVariants as sign
use Rattle.ng_language.specs.declared.syntax.Token.{Token}
use Rattle.ng_language.specs.declared.syntax.Token.TheVariants as token
use Rattle.ng_language.specs.declared.syntax.Label.{Label}
use Rattle.ng_language.specs.declared.syntax.Label.TheVariants as labels
use Rattle.ng_language.specs.declared.syntax.Unary.{Unary}
use Rattle.ng_language.specs.declared.syntax.Unary.TheVariants as unaries
use Rattle.ng_language.specs.declared.syntax.Binary.{Binary}
use Rattle.ng_language.specs.declared.syntax.Binary.TheVariants as binaries

abbrev pub sign_of_unary : Unary → Sign
sign_of_unary unaries.Plus = sign.Plus
sign_of_unary unaries.Minus = sign.Minus
sign_of_unary unaries.Not = sign.Not

abbrev pub sign_of_binary : Binary → Sign
sign_of_binary binaries.Multiply = sign.Star
sign_of_binary binaries.Divide = sign.Slash
sign_of_binary binaries.Remainder = sign.Percent
sign_of_binary binaries.Add = sign.Plus
sign_of_binary binaries.Subtract = sign.Minus
sign_of_binary binaries.Less = sign.Less
sign_of_binary binaries.Greater = sign.Greater
sign_of_binary binaries.AtMost = sign.AtMost
sign_of_binary binaries.AtLeast = sign.AtLeast
sign_of_binary binaries.Equal = sign.Equal
sign_of_binary binaries.NotEqual = sign.NotEqual
sign_of_binary binaries.Same = sign.Same
sign_of_binary binaries.NotSame = sign.NotSame

abbrev pub binary_rank : Binary → ℕ
binary_rank binaries.Multiply = 9
binary_rank binaries.Divide = 9
binary_rank binaries.Remainder = 9
binary_rank binaries.Add = 8
binary_rank binaries.Subtract = 8
binary_rank binaries.Less = 7
binary_rank binaries.Greater = 7
binary_rank binaries.AtMost = 7
binary_rank binaries.AtLeast = 7
binary_rank binaries.Equal = 6
binary_rank binaries.NotEqual = 6
binary_rank binaries.Same = 6
binary_rank binaries.NotSame = 6

-- how tightly a tree binds: 1 is a statement, 2 an expression, 3 a ternary, 4 to 9 the levels of the operators, 10 a
-- unary, 11 a primary
abbrev pub rank : Tree → ℕ
rank (filtered t n ts) = 1
rank (assigned a b) = 2
rank (choice_of c a b) = 3
rank (either_of a b) = 4
rank (both_of a b) = 5
rank (combined o a b) = binary_rank o
rank (signed o t) = 10
rank _ = 11

-- a tree may stand where so tight a one is wanted, and is spelled so
abbrev pub At : ℕ → Tree → Type 0 → Type 0
At l t Spelled = (l ≤ rank t) × Spelled

-- a name that stands for this tree
abbrev pub IsWordOf : Tree → List Token → Type 0
IsWordOf t ts = (n : List ℕ) × (ts ≡ token.Name n ∷ []) × (word_tree n ≡ t) × (bytes_eq n (codes "$locals") ≡ false)

abbrev pub label_token : Label → Token
label_token (labels.Name n) = token.Name n
label_token (labels.Text t) = token.Text t
label_token (labels.Number n) = token.Number n

abbrev mutual
  pub Spells : Tree → List Token → Type 0
  Spells (a_number n) ts = ts ≡ token.Number n ∷ []
  Spells (a_text t) ts = ts ≡ token.Text t ∷ []
  Spells (a_name n) ts = IsWordOf (a_name n) ts
  Spells the_scope ts = IsWordOf the_scope ts
  Spells (a_constant c) ts = IsWordOf (a_constant c) ts
  Spells (member_of t n) ts = (us : List Token) × At 11 t (Spells t us) × (ts ≡ us ++ token.Sign sign.Dot ∷ token.Name n ∷ [])
  Spells (item_of t i) ts = (us : List Token) × (vs : List Token) × At 11 t (Spells t us) × At 2 i (Spells i vs) × (ts ≡ us ++ token.Sign sign.OpenSquare ∷ (vs ++ token.Sign sign.CloseSquare ∷ []))
  Spells (call_of t ts) us = (vs : List Token) × (ws : List Token) × At 11 t (Spells t vs) × SpellsValues ts ws × (us ≡ vs ++ token.Sign sign.OpenRound ∷ (ws ++ token.Sign sign.CloseRound ∷ []))
  Spells (a_list ts) us = (vs : List Token) × SpellsItems ts vs × (us ≡ token.Sign sign.OpenSquare ∷ (vs ++ token.Sign sign.CloseSquare ∷ []))
  Spells (a_record ps) us = (vs : List Token) × SpellsPairs ps vs × (us ≡ token.Sign sign.OpenCurly ∷ (vs ++ token.Sign sign.CloseCurly ∷ []))
  Spells (in_brackets t) ts = (us : List Token) × Spells t us × (ts ≡ token.Sign sign.OpenRound ∷ (us ++ token.Sign sign.CloseRound ∷ []))
  Spells (signed o t) ts = (us : List Token) × At 10 t (Spells t us) × (ts ≡ token.Sign (sign_of_unary o) ∷ us)
  Spells (combined o a b) ts = (us : List Token) × (vs : List Token) × At (binary_rank o) a (Spells a us) × At (suc (binary_rank o)) b (Spells b vs) × (ts ≡ us ++ token.Sign (sign_of_binary o) ∷ vs)
  Spells (both_of a b) ts = (us : List Token) × (vs : List Token) × At 5 a (Spells a us) × At 6 b (Spells b vs) × (ts ≡ us ++ token.Sign sign.And ∷ vs)
  Spells (either_of a b) ts = (us : List Token) × (vs : List Token) × At 4 a (Spells a us) × At 5 b (Spells b vs) × (ts ≡ us ++ token.Sign sign.Or ∷ vs)
  Spells (choice_of c a b) ts = (us : List Token) × (vs : List Token) × (ws : List Token) × At 4 c (Spells c us) × At 2 a (Spells a vs) × At 2 b (Spells b ws) × (ts ≡ us ++ token.Sign sign.Question ∷ (vs ++ token.Sign sign.Colon ∷ ws))
  Spells (assigned a b) ts = (us : List Token) × (vs : List Token) × (is_assignable a ≡ true) × Spells a us × At 2 b (Spells b vs) × (ts ≡ us ++ token.Sign sign.Assign ∷ vs)
  Spells (filtered t n bs) ts = (us : List Token) × (vs : List Token) × Spells t us × SpellsArguments bs vs × (ts ≡ us ++ token.Sign sign.Bar ∷ token.Name n ∷ vs)

  -- the arguments of a filter
  pub SpellsArguments : Trees → List Token → Type 0
  SpellsArguments no_trees ts = ts ≡ []
  SpellsArguments (tree_then t bs) ts = (us : List Token) × (vs : List Token) × At 2 t (Spells t us) × SpellsArguments bs vs × (ts ≡ token.Sign sign.Colon ∷ (us ++ vs))

  -- the arguments of a call
  pub SpellsValues : Trees → List Token → Type 0
  SpellsValues no_trees ts = ts ≡ []
  SpellsValues (tree_then t bs) ts = (us : List Token) × (vs : List Token) × Spells t us × SpellsMore bs vs × (ts ≡ us ++ vs)

  pub SpellsMore : Trees → List Token → Type 0
  SpellsMore no_trees ts = ts ≡ []
  SpellsMore (tree_then t bs) ts = (us : List Token) × (vs : List Token) × Spells t us × SpellsMore bs vs × (ts ≡ token.Sign sign.Comma ∷ (us ++ vs))

  -- the items of a list, of which each may have a comma behind it, and all but the last one have it
  pub SpellsItems : Trees → List Token → Type 0
  SpellsItems no_trees ts = ts ≡ []
  SpellsItems (tree_then t bs) ts = (us : List Token) × (vs : List Token) × Spells t us × SpellsOthers bs vs × (ts ≡ us ++ vs)

  pub SpellsOthers : Trees → List Token → Type 0
  SpellsOthers no_trees ts = (ts ≡ []) ⊎ (ts ≡ token.Sign sign.Comma ∷ [])
  SpellsOthers (tree_then t bs) ts = (us : List Token) × (vs : List Token) × Spells t us × SpellsOthers bs vs × (ts ≡ token.Sign sign.Comma ∷ (us ++ vs))

  pub SpellsPair : PairTree → List Token → Type 0
  SpellsPair (labelled l t) ts = (us : List Token) × At 2 t (Spells t us) × (ts ≡ label_token l ∷ token.Sign sign.Colon ∷ us)
  SpellsPair (shorthand n t) ts = (ts ≡ token.Name n ∷ []) × (t ≡ word_tree n)
  SpellsPair (computed i t) ts = (us : List Token) × (vs : List Token) × At 2 i (Spells i us) × At 2 t (Spells t vs) × (ts ≡ token.Sign sign.OpenSquare ∷ (us ++ token.Sign sign.CloseSquare ∷ token.Sign sign.Colon ∷ vs))

  pub SpellsPairs : Pairs → List Token → Type 0
  SpellsPairs no_pairs ts = ts ≡ []
  SpellsPairs (pair_then p ps) ts = (us : List Token) × (vs : List Token) × SpellsPair p us × SpellsOtherPairs ps vs × (ts ≡ us ++ vs)

  pub SpellsOtherPairs : Pairs → List Token → Type 0
  SpellsOtherPairs no_pairs ts = (ts ≡ []) ⊎ (ts ≡ token.Sign sign.Comma ∷ [])
  SpellsOtherPairs (pair_then p ps) ts = (us : List Token) × (vs : List Token) × SpellsPair p us × SpellsOtherPairs ps vs × (ts ≡ token.Sign sign.Comma ∷ (us ++ vs))

-- the statements of a program, with a `;` between two of them; some may be empty
pub data IsProgram : Trees → List Token → Type 0 where
  no_statement : IsProgram no_trees []
  last_statement : (t : Tree) (ts : List Token) → Spells t ts → IsProgram (tree_then t no_trees) ts
  empty_statement : (bs : Trees) (ts : List Token) → IsProgram bs ts → IsProgram bs (token.Sign sign.Semicolon ∷ ts)
  statement_then : (t : Tree) (bs : Trees) (us ts : List Token) → Spells t us → IsProgram bs ts → IsProgram (tree_then t bs) (us ++ token.Sign sign.Semicolon ∷ ts)

-- a program within the limits: at most 1,000 tokens, 100 open brackets, and a height of 100
abbrev pub IsParsed : Trees → List Token → Type 0
IsParsed bs ts = IsProgram bs ts × (one_too_many 0 0 ts ≡ None) × (heights bs ≤ 100)
