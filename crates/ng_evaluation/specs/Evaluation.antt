-- The value of a program that changes nothing (guide: Expressions): by cases on the tree, from left to right, and the
-- first fault stands.
use Rattle.std.specs.Prelude.{ℕ, pos, List, [], ◌∷◌, ◌++◌, Result, Ok, Err, if◌then◌else◌}
use Rattle.std.specs.Str.{bytes_eq}
use Rattle.indexmap.specs.IndexMap.{insert_entry}
use Rattle.ng_base.specs.Meets.{◌>>=◌}
use Rattle.ng_base.specs.Objects.{Object}
use Rattle.ng_base.specs.Views.{ViewTree, prim, list, rec, views_from, fields_from}
use Rattle.ng_base.specs.declared.value.Value.TheVariants as value
use Rattle.ng_base.specs.declared.fault.Fault.{Fault}
use Rattle.ng_base.specs.declared.fault.Fault.TheVariants.{ImpureCall}
use Rattle.ng_language.specs.Operators.{in_range, truthy}
use Rattle.ng_language.specs.Sums.{as_view}
use Rattle.ng_language.specs.Texts.{to_text}
use Rattle.ng_language.specs.Trees.{Tree, Trees, PairTree, Pairs, a_number, a_text, a_name, the_scope, a_constant, member_of, item_of, call_of, a_list, a_record, in_brackets, signed, combined, both_of, either_of, choice_of, assigned, filtered, no_trees, tree_then, labelled, shorthand, computed, no_pairs, pair_then}
use Rattle.ng_evaluation.specs.Applied.{applied}
use Rattle.ng_members.specs.Members.{member, item}
use Rattle.ng_members.specs.Leaves.{Local, named, constant_value, label_name, sign_value, operator_value, Field}
use Rattle.ng_members.specs.Callees.{callee, called}

abbrev mutual
  pub evaluated : List Object → ℕ → List Local → Tree → Result ViewTree Fault
  evaluated objects scope locals (a_number n) = as_view (in_range (pos n))
  evaluated objects scope locals (a_text s) = Ok (prim (value.Text s))
  evaluated objects scope locals (a_name s) = Ok (named objects scope locals s)
  evaluated objects scope locals the_scope = Ok (prim (value.Obj (record { 0 = scope })))
  evaluated objects scope locals (a_constant c) = Ok (prim (constant_value c))
  evaluated objects scope locals (member_of t s) = evaluated objects scope locals t >>= λ v. Ok (member objects v s)
  evaluated objects scope locals (item_of t i) = evaluated objects scope locals t >>= λ v. evaluated objects scope locals i >>= λ w. item objects v w
  evaluated objects scope locals (call_of t ts) =
      receiver objects scope locals t >>= λ r. called objects (callee objects r.0 r.1) r.0 (evaluated_all objects scope locals [] ts)
  evaluated objects scope locals (a_list ts) = evaluated_all objects scope locals [] ts >>= λ vs. Ok (list (views_from vs))
  evaluated objects scope locals (a_record ps) = evaluated_pairs objects scope locals [] ps >>= λ fs. Ok (rec (fields_from fs))
  evaluated objects scope locals (in_brackets t) = evaluated objects scope locals t
  evaluated objects scope locals (signed o t) = evaluated objects scope locals t >>= λ v. sign_value o v
  evaluated objects scope locals (combined o a b) = evaluated objects scope locals a >>= λ v. evaluated objects scope locals b >>= λ w. operator_value objects o v w
  evaluated objects scope locals (both_of a b) = evaluated objects scope locals a >>= λ v. if truthy v then evaluated objects scope locals b else Ok v
  evaluated objects scope locals (either_of a b) = evaluated objects scope locals a >>= λ v. if truthy v then Ok v else evaluated objects scope locals b
  evaluated objects scope locals (choice_of c a b) = evaluated objects scope locals c >>= λ v. if truthy v then evaluated objects scope locals a else evaluated objects scope locals b
  evaluated objects scope locals (assigned a b) = Err ImpureCall
  evaluated objects scope locals (filtered t s ts) = evaluated objects scope locals t >>= λ v. evaluated_all objects scope locals [] ts >>= λ vs. applied objects s v (views_from vs)

  -- what a dotted call is made on, and the name that it calls
  pub receiver : List Object → ℕ → List Local → Tree → Result (ViewTree × List ℕ) Fault
  receiver objects scope locals (member_of t s) = evaluated objects scope locals t >>= λ v. Ok (v, s)
  receiver objects scope locals t = Err ImpureCall

  -- values behind those that were made
  pub evaluated_all : List Object → ℕ → List Local → List ViewTree → Trees → Result (List ViewTree) Fault
  evaluated_all objects scope locals done no_trees = Ok done
  evaluated_all objects scope locals done (tree_then t ts) = evaluated objects scope locals t >>= λ v. evaluated_all objects scope locals (done ++ v ∷ []) ts

  pub evaluated_pair : List Object → ℕ → List Local → PairTree → Result Field Fault
  evaluated_pair objects scope locals (labelled l t) = evaluated objects scope locals t >>= λ v. Ok (label_name l, v)
  evaluated_pair objects scope locals (shorthand s t) = evaluated objects scope locals t >>= λ v. Ok (s, v)
  evaluated_pair objects scope locals (computed n t) = evaluated objects scope locals n >>= λ w. to_text objects w >>= λ s. evaluated objects scope locals t >>= λ v. Ok (s, v)

  -- a name that is there already keeps its place and gets the new value
  pub evaluated_pairs : List Object → ℕ → List Local → List Field → Pairs → Result (List Field) Fault
  evaluated_pairs objects scope locals done no_pairs = Ok done
  evaluated_pairs objects scope locals done (pair_then p ps) = evaluated_pair objects scope locals p >>= λ f. evaluated_pairs objects scope locals (insert_entry bytes_eq done f.0 f.1) ps

-- the value of the last statement, or the one before them
abbrev pub evaluated_statements : List Object → ℕ → List Local → ViewTree → Trees → Result ViewTree Fault
evaluated_statements objects scope locals v no_trees = Ok v
evaluated_statements objects scope locals v (tree_then t ts) = evaluated objects scope locals t >>= λ w. evaluated_statements objects scope locals w ts

-- a program's value is that of its last statement, or undefined
abbrev pub evaluated_program : List Object → ℕ → List Local → Trees → Result ViewTree Fault
evaluated_program objects scope locals ts = evaluated_statements objects scope locals (prim value.Undefined) ts
