-- The value of an expression and what it does, by cases on the tree, from left to right (guide: Expressions). The first fault
-- stands, and what was done before it stays.
use Rattle.std.specs.Prelude.{ℕ, List, [], ◌∷◌, ◌++◌, Ok, Err, pos, if◌then◌else◌}
use Rattle.std.specs.Str.{bytes_eq}
use Rattle.indexmap.specs.IndexMap.{insert_entry}
use Rattle.ng_base.specs.Views.{ViewTree, prim, list, rec, views_from, fields_from}
use Rattle.ng_base.specs.declared.fault.Fault.TheVariants.{NotAssignable}
use Rattle.ng_base.specs.declared.value.Value.TheVariants as value
use Rattle.ng_behaviour.specs.Scopes.{object_at}
use Rattle.ng_language.specs.Operators.{in_range, truthy}
use Rattle.ng_language.specs.Sums.{as_view}
use Rattle.ng_language.specs.Texts.{to_text}
use Rattle.ng_language.specs.Trees.{Tree, Trees, PairTree, Pairs, a_number, a_text, a_name, the_scope, a_constant, member_of, item_of, call_of, a_list, a_record, in_brackets, signed, combined, both_of, either_of, choice_of, assigned, filtered, no_trees, tree_then, labelled, shorthand, computed, no_pairs, pair_then}
use Rattle.ng_members.specs.Leaves.{Field, named, constant_value, label_name, sign_value, operator_value}
use Rattle.ng_members.specs.Members.{member, item}
use Rattle.ng_core.specs.Calling.{called_on, value_called, is_nothing}
use Rattle.ng_core.specs.State.{State, Run, ◌>>=◌, given}
use Rattle.ng_core.specs.declared.called.Called.{Called}
use Rattle.ng_core.specs.Keeping.{nothing, stores, stores_result, filter_result, makes_name, makes_member}
use Rattle.ng_core.specs.Places.{Place, assigns, index_name, name_called, item_called, bare, within}
use Rattle.ng_act.specs.Asked.{Doing}
use Rattle.ng_act.specs.Calls.{runs}

abbrev pub and_called : Run ViewTree → Run (ViewTree × Called)
and_called r = r >>= λ v a. (a, Ok (v, value_called v))

-- what a value calls, once it is evaluated
abbrev pub whole_reached : (State → Run ViewTree) → State → Run (ViewTree × Called)
whole_reached whole s = and_called (whole s)

abbrev mutual
  pub acted : Doing → ℕ → Tree → State → Run ViewTree
  acted go scope (a_number n) s = given s (as_view (in_range (pos n)))
  acted go scope (a_text t) s = (s, Ok (prim (value.Text t)))
  acted go scope (a_name n) s = (s, Ok (named s.objects (object_at s.scopes scope) s.locals n))
  acted go scope the_scope s = (s, Ok (prim (value.Obj (record { 0 = object_at s.scopes scope }))))
  acted go scope (a_constant c) s = (s, Ok (prim (constant_value c)))
  acted go scope (member_of t n) s = acted go scope t s >>= λ v a. (a, Ok (member a.objects v n))
  acted go scope (item_of t i) s = acted go scope t s >>= λ v a. acted go scope i a >>= λ w b. given b (item b.objects v w)
  acted go scope (call_of t ts) s = reached go scope (acted go scope t) t s >>= λ r a. if is_nothing r.1 then (a, Ok nothing) else (acted_all go scope [] ts a >>= λ args b. runs go r.1 r.0 args b)
  acted go scope (a_list ts) s = acted_all go scope [] ts s >>= λ vs a. stores (list (views_from vs)) a
  acted go scope (a_record ps) s = acted_pairs go scope [] ps s >>= λ fs a. stores (rec (fields_from fs)) a
  acted go scope (in_brackets t) s = acted go scope t s
  acted go scope (signed o t) s = acted go scope t s >>= λ v a. given a (sign_value o v)
  acted go scope (combined o l r) s = acted go scope l s >>= λ v a. acted go scope r a >>= λ w b. given b (operator_value b.objects o v w)
  acted go scope (both_of l r) s = acted go scope l s >>= λ v a. if truthy v then acted go scope r a else (a, Ok v)
  acted go scope (either_of l r) s = acted go scope l s >>= λ v a. if truthy v then (a, Ok v) else acted go scope r a
  acted go scope (choice_of c l r) s = acted go scope c s >>= λ v a. if truthy v then acted go scope l a else acted go scope r a
  acted go scope (assigned l r) s = left go scope l s >>= λ p a. acted go scope r a >>= λ v b. assigns scope p v b
  acted go scope (filtered t n ts) s = acted go scope t s >>= λ v a. acted_all go scope [] ts a >>= λ vs b. stores_result (filter_result b.objects n v vs) b

  -- what is called, and the value that it is called on. What is no name and no member is evaluated as a whole
  pub reached : Doing → ℕ → (State → Run ViewTree) → Tree → State → Run (ViewTree × Called)
  reached go scope whole (member_of t n) s = acted go scope t s >>= λ v a. (a, Ok (v, called_on a.objects a.scopes v n))
  reached go scope whole (item_of t i) s = acted go scope t s >>= λ v a. acted go scope i a >>= λ w b. given b (index_name b.objects v w) >>= λ n c. (c, Ok (v, item_called c v n))
  reached go scope whole (a_name n) s = (s, Ok (nothing, name_called scope n s))
  reached go scope whole t s = whole_reached whole s

  -- the left side of an assignment
  pub left : Doing → ℕ → Tree → State → Run Place
  left go scope (a_name n) s = (s, Ok (bare n))
  left go scope (member_of t n) s = made go scope (acted go scope t) t s >>= λ v a. (a, Ok (within v n))
  left go scope (item_of t i) s = made go scope (acted go scope t) t s >>= λ v a. acted go scope i a >>= λ w b. given b (index_name b.objects v w) >>= λ n c. (c, Ok (within v n))
  left go scope t s = (s, Err NotAssignable)

  -- names and members along it are made where they are undefined or null
  pub made : Doing → ℕ → (State → Run ViewTree) → Tree → State → Run ViewTree
  made go scope whole (a_name n) s = makes_name scope n s
  made go scope whole (member_of t n) s = made go scope (acted go scope t) t s >>= λ v a. makes_member v n a
  made go scope whole (item_of t i) s = made go scope (acted go scope t) t s >>= λ v a. acted go scope i a >>= λ w b. given b (index_name b.objects v w) >>= λ n c. makes_member v n c
  made go scope whole t s = whole s

  -- values behind those that were made
  pub acted_all : Doing → ℕ → List ViewTree → Trees → State → Run (List ViewTree)
  acted_all go scope done no_trees s = (s, Ok done)
  acted_all go scope done (tree_then t ts) s = acted go scope t s >>= λ v a. acted_all go scope (done ++ v ∷ []) ts a

  pub acted_pair : Doing → ℕ → PairTree → State → Run Field
  acted_pair go scope (labelled l t) s = acted go scope t s >>= λ v a. (a, Ok (label_name l, v))
  acted_pair go scope (shorthand n t) s = acted go scope t s >>= λ v a. (a, Ok (n, v))
  acted_pair go scope (computed i t) s = acted go scope i s >>= λ w a. given a (to_text a.objects w) >>= λ n b. acted go scope t b >>= λ v c. (c, Ok (n, v))

  -- a name that is there already keeps its place and gets the new value
  pub acted_pairs : Doing → ℕ → List Field → Pairs → State → Run (List Field)
  acted_pairs go scope done no_pairs s = (s, Ok done)
  acted_pairs go scope done (pair_then p ps) s = acted_pair go scope p s >>= λ f a. acted_pairs go scope (insert_entry bytes_eq done f.0 f.1) ps a

-- the value of the last statement, or the one before them
abbrev pub statements : Doing → ℕ → ViewTree → Trees → State → Run ViewTree
statements go scope v no_trees s = (s, Ok v)
statements go scope v (tree_then t ts) s = acted go scope t s >>= λ w a. statements go scope w ts a

-- a program's value is that of its last statement, or undefined
abbrev pub programmed : Doing → ℕ → Trees → State → Run ViewTree
programmed go scope ts s = statements go scope nothing ts s
