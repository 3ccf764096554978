-- Which faults a program can give: those of calls only where it calls or assigns, and that of filters only where it
-- filters.
use Rattle.std.proofs.Common.{◌≡◌, ℕ, List, [], ◌∷◌, ◌++◌, Bool, true, false, refl, sym, subst, true≢false}
use Rattle.std.specs.Prelude.{pos, Result, Ok, Err, IfErr, if◌then◌else◌, ◌&&◌}
use Rattle.std.specs.Str.{bytes_eq}
use Rattle.indexmap.specs.IndexMap.{insert_entry}
use Rattle.ng_base.specs.Meets.{◌>>=◌}
use Rattle.ng_base.specs.Objects.{Object}
use Rattle.ng_base.specs.Views.{ViewTree, prim, list, rec, views_from, fields_from}
use Rattle.ng_base.specs.declared.value.Value.TheVariants as value
use Rattle.ng_base.specs.declared.fault.Fault.{Fault}
use Rattle.ng_base.specs.declared.fault.Fault.TheVariants.{NotAFunction, ImpureCall, Syntax}
use Rattle.ng_language.specs.Operators.{truthy}
use Rattle.ng_language.specs.Texts.{to_text}
use Rattle.ng_language.specs.Trees.{Tree, Trees, PairTree, Pairs, a_number, a_text, a_name, the_scope, a_constant, member_of, item_of, call_of, a_list, a_record, in_brackets, signed, combined, both_of, either_of, choice_of, assigned, filtered, no_trees, tree_then, labelled, shorthand, computed, no_pairs, pair_then}
use Rattle.ng_members.specs.declared.calls.Callee.{Callee}
use Rattle.ng_members.specs.declared.calls.Callee.TheVariants as callees
use Rattle.ng_evaluation.specs.Applied.{applied}
use Rattle.ng_members.specs.Members.{member, item}
use Rattle.ng_view.specs.Calls.{keeps_to, all_keep_to, pair_keeps_to, pairs_keep_to, calls_nothing, filters_nothing}
use Rattle.ng_members.specs.Leaves.{Local, Field, sign_value, operator_value, label_name}
use Rattle.ng_members.specs.Callees.{callee, called, called_on, is_nothing}
use Rattle.ng_evaluation.specs.Evaluation.{evaluated, receiver, evaluated_all, evaluated_pair, evaluated_pairs, evaluated_statements, evaluated_program}
use Rattle.ng_members.proofs.Faults.{OfAll, only_then, only_if, to_text_only, number_only, sign_only, operator_only, item_only, method_only}
use Rattle.ng_view.proofs.FilterFaults.{applied_only}

-- both of two tests that hold together
first : (a b : Bool) → (a && b) ≡ true → a ≡ true
first true b h = refl
first false b h = absurd (true≢false (sym h))

second : (a b : Bool) → (a && b) ≡ true → b ≡ true
second true b h = h
second false b h = absurd (true≢false (sym h))

-- what holds of the faults of all programs, and of those of calls and of filters where these may stand
abbrev pub OfSome : (Fault → Type 0) → Bool → Bool → Type 0
OfSome Q calls filters = record { all : OfAll Q; function : calls ≡ true → Q NotAFunction; impure : calls ≡ true → Q ImpureCall; filter : filters ≡ true → Q Syntax }

module _ (Q : Fault → Type 0) (calls filters : Bool) (k : OfSome Q calls filters) (objects : List Object) (scope : ℕ) (locals : List Local) where
  called_on_only : calls ≡ true → (c : Callee) (t : ViewTree) (args : List ViewTree) → IfErr (called_on objects c t args) Q
  unfolding called_on
  called_on_only h (callees.Method m) t args = method_only Q k.all.big objects m t args
  called_on_only h callees.Nothing t args = tt
  called_on_only h callees.Function t args = k.impure h
  called_on_only h callees.Other t args = k.function h

  called_only : calls ≡ true → (c : Callee) (t : ViewTree) (args : Result (List ViewTree) Fault) → IfErr args Q → IfErr (called objects c t args) Q
  called_only h c t args p = only_if Q (is_nothing c) (Ok (prim value.Undefined)) (args >>= λ vs. called_on objects c t vs) tt (only_then Q args (λ vs. called_on objects c t vs) p (called_on_only h c t))

  mutual
    pub evaluated_only : (t : Tree) → keeps_to calls filters t ≡ true → IfErr (evaluated objects scope locals t) Q
    evaluated_only (a_number n) h = number_only Q k.all (pos n)
    evaluated_only (a_text s) h = tt
    evaluated_only (a_name s) h = tt
    evaluated_only the_scope h = tt
    evaluated_only (a_constant c) h = tt
    evaluated_only (member_of t s) h = only_then Q (evaluated objects scope locals t) (λ v. Ok (member objects v s)) (evaluated_only t h) (λ v. tt)
    evaluated_only (item_of t i) h =
        only_then Q (evaluated objects scope locals t) (λ v. evaluated objects scope locals i >>= λ w. item objects v w) (evaluated_only t (first (keeps_to calls filters t) (keeps_to calls filters i) h))
        (λ v. only_then Q (evaluated objects scope locals i) (λ w. item objects v w) (evaluated_only i (second (keeps_to calls filters t) (keeps_to calls filters i) h)) (item_only Q k.all.big objects v))
    evaluated_only (call_of t ts) h =
        let may = first calls (keeps_to calls filters t && all_keep_to calls filters ts) h in
        let both = second calls (keeps_to calls filters t && all_keep_to calls filters ts) h in
        only_then Q (receiver objects scope locals t) (λ r. called objects (callee objects r.0 r.1) r.0 (evaluated_all objects scope locals [] ts))
        (receiver_only may t (first (keeps_to calls filters t) (all_keep_to calls filters ts) both))
        (λ r. called_only may (callee objects r.0 r.1) r.0 (evaluated_all objects scope locals [] ts) (all_only [] ts (second (keeps_to calls filters t) (all_keep_to calls filters ts) both)))
    evaluated_only (a_list ts) h = only_then Q (evaluated_all objects scope locals [] ts) (λ vs. Ok (list (views_from vs))) (all_only [] ts h) (λ vs. tt)
    evaluated_only (a_record ps) h = only_then Q (evaluated_pairs objects scope locals [] ps) (λ fs. Ok (rec (fields_from fs))) (pairs_only [] ps h) (λ fs. tt)
    evaluated_only (in_brackets t) h = evaluated_only t h
    evaluated_only (signed o t) h = only_then Q (evaluated objects scope locals t) (λ v. sign_value o v) (evaluated_only t h) (sign_only Q k.all o)
    evaluated_only (combined o a b) h =
        only_then Q (evaluated objects scope locals a) (λ v. evaluated objects scope locals b >>= λ w. operator_value objects o v w) (evaluated_only a (first (keeps_to calls filters a) (keeps_to calls filters b) h))
        (λ v. only_then Q (evaluated objects scope locals b) (λ w. operator_value objects o v w) (evaluated_only b (second (keeps_to calls filters a) (keeps_to calls filters b) h)) (operator_only Q k.all objects o v))
    evaluated_only (both_of a b) h =
        only_then Q (evaluated objects scope locals a) (λ v. if truthy v then evaluated objects scope locals b else Ok v) (evaluated_only a (first (keeps_to calls filters a) (keeps_to calls filters b) h))
        (λ v. only_if Q (truthy v) (evaluated objects scope locals b) (Ok v) (evaluated_only b (second (keeps_to calls filters a) (keeps_to calls filters b) h)) tt)
    evaluated_only (either_of a b) h =
        only_then Q (evaluated objects scope locals a) (λ v. if truthy v then Ok v else evaluated objects scope locals b) (evaluated_only a (first (keeps_to calls filters a) (keeps_to calls filters b) h))
        (λ v. only_if Q (truthy v) (Ok v) (evaluated objects scope locals b) tt (evaluated_only b (second (keeps_to calls filters a) (keeps_to calls filters b) h)))
    evaluated_only (choice_of c a b) h =
        let both = second (keeps_to calls filters c) (keeps_to calls filters a && keeps_to calls filters b) h in
        only_then Q (evaluated objects scope locals c) (λ v. if truthy v then evaluated objects scope locals a else evaluated objects scope locals b)
        (evaluated_only c (first (keeps_to calls filters c) (keeps_to calls filters a && keeps_to calls filters b) h))
        (λ v. only_if Q (truthy v) (evaluated objects scope locals a) (evaluated objects scope locals b) (evaluated_only a (first (keeps_to calls filters a) (keeps_to calls filters b) both))
        (evaluated_only b (second (keeps_to calls filters a) (keeps_to calls filters b) both)))
    evaluated_only (assigned a b) h = k.impure (first calls (keeps_to calls filters a && keeps_to calls filters b) h)
    evaluated_only (filtered t s ts) h =
        let may = first filters (keeps_to calls filters t && all_keep_to calls filters ts) h in
        let both = second filters (keeps_to calls filters t && all_keep_to calls filters ts) h in
        only_then Q (evaluated objects scope locals t) (λ v. evaluated_all objects scope locals [] ts >>= λ vs. applied objects s v (views_from vs)) (evaluated_only t (first (keeps_to calls filters t) (all_keep_to calls filters ts) both))
        (λ v. only_then Q (evaluated_all objects scope locals [] ts) (λ vs. applied objects s v (views_from vs)) (all_only [] ts (second (keeps_to calls filters t) (all_keep_to calls filters ts) both))
        (λ vs. applied_only Q k.all.big (k.filter may) objects s v (views_from vs)))

    receiver_only : calls ≡ true → (t : Tree) → keeps_to calls filters t ≡ true → IfErr (receiver objects scope locals t) Q
    receiver_only may (a_number n) h = k.impure may
    receiver_only may (a_text s) h = k.impure may
    receiver_only may (a_name s) h = k.impure may
    receiver_only may the_scope h = k.impure may
    receiver_only may (a_constant c) h = k.impure may
    receiver_only may (member_of t s) h = only_then Q (evaluated objects scope locals t) (λ v. Ok (v, s)) (evaluated_only t h) (λ v. tt)
    receiver_only may (item_of t i) h = k.impure may
    receiver_only may (call_of t ts) h = k.impure may
    receiver_only may (a_list ts) h = k.impure may
    receiver_only may (a_record ps) h = k.impure may
    receiver_only may (in_brackets t) h = k.impure may
    receiver_only may (signed o t) h = k.impure may
    receiver_only may (combined o a b) h = k.impure may
    receiver_only may (both_of a b) h = k.impure may
    receiver_only may (either_of a b) h = k.impure may
    receiver_only may (choice_of c a b) h = k.impure may
    receiver_only may (assigned a b) h = k.impure may
    receiver_only may (filtered t s ts) h = k.impure may

    all_only : (done : List ViewTree) (ts : Trees) → all_keep_to calls filters ts ≡ true → IfErr (evaluated_all objects scope locals done ts) Q
    all_only done no_trees h = tt
    all_only done (tree_then t ts) h =
        only_then Q (evaluated objects scope locals t) (λ v. evaluated_all objects scope locals (done ++ v ∷ []) ts) (evaluated_only t (first (keeps_to calls filters t) (all_keep_to calls filters ts) h))
        (λ v. all_only (done ++ v ∷ []) ts (second (keeps_to calls filters t) (all_keep_to calls filters ts) h))

    pair_only : (p : PairTree) → pair_keeps_to calls filters p ≡ true → IfErr (evaluated_pair objects scope locals p) Q
    pair_only (labelled l t) h = only_then Q (evaluated objects scope locals t) (λ v. Ok (label_name l, v)) (evaluated_only t h) (λ v. tt)
    pair_only (shorthand s t) h = only_then Q (evaluated objects scope locals t) (λ v. Ok (s, v)) (evaluated_only t h) (λ v. tt)
    pair_only (computed n t) h =
        only_then Q (evaluated objects scope locals n) (λ w. to_text objects w >>= λ s. evaluated objects scope locals t >>= λ v. Ok (s, v)) (evaluated_only n (first (keeps_to calls filters n) (keeps_to calls filters t) h))
        (λ w. only_then Q (to_text objects w) (λ s. evaluated objects scope locals t >>= λ v. Ok (s, v)) (to_text_only Q k.all.big objects w)
        (λ s. only_then Q (evaluated objects scope locals t) (λ v. Ok (s, v)) (evaluated_only t (second (keeps_to calls filters n) (keeps_to calls filters t) h)) (λ v. tt)))

    pairs_only : (done : List Field) (ps : Pairs) → pairs_keep_to calls filters ps ≡ true → IfErr (evaluated_pairs objects scope locals done ps) Q
    pairs_only done no_pairs h = tt
    pairs_only done (pair_then p ps) h =
        only_then Q (evaluated_pair objects scope locals p) (λ f. evaluated_pairs objects scope locals (insert_entry bytes_eq done f.0 f.1) ps) (pair_only p (first (pair_keeps_to calls filters p) (pairs_keep_to calls filters ps) h))
        (λ f. pairs_only (insert_entry bytes_eq done f.0 f.1) ps (second (pair_keeps_to calls filters p) (pairs_keep_to calls filters ps) h))

  -- a program's faults are those of its statements
  pub program_only : (v : ViewTree) (ts : Trees) → all_keep_to calls filters ts ≡ true → IfErr (evaluated_statements objects scope locals v ts) Q
  program_only v no_trees h = tt
  program_only v (tree_then t ts) h =
      only_then Q (evaluated objects scope locals t) (λ w. evaluated_statements objects scope locals w ts) (evaluated_only t (first (keeps_to calls filters t) (all_keep_to calls filters ts) h))
      (λ w. program_only w ts (second (keeps_to calls filters t) (all_keep_to calls filters ts) h))

-- what holds of each fault of an answer holds of the one that it is
held_of : {A : Type 0} (Q : Fault → Type 0) (r : Result A Fault) (e : Fault) → IfErr r Q → r ≡ Err e → Q e
held_of Q r e p h = subst (λ s. IfErr s Q) h p

abbrev is_of_calls : Fault → Bool
is_of_calls NotAFunction = true
is_of_calls ImpureCall = true
is_of_calls e = false

abbrev is_of_filters : Fault → Bool
is_of_filters Syntax = true
is_of_filters e = false

no_fault_of_calls : (objects : List Object) (scope : ℕ) (locals : List Local) (ts : Trees) → calls_nothing ts ≡ true → IfErr (evaluated_program objects scope locals ts) (λ e. is_of_calls e ≡ false)
no_fault_of_calls objects scope locals ts h =
    program_only (λ e. is_of_calls e ≡ false) false true
    (record { all = record { whole = refl; range = refl; big = refl }; function = λ f. absurd (true≢false (sym f)); impure = λ f. absurd (true≢false (sym f)); filter = λ f. refl })
    objects scope locals (prim value.Undefined) ts h

no_fault_of_filters : (objects : List Object) (scope : ℕ) (locals : List Local) (ts : Trees) → filters_nothing ts ≡ true → IfErr (evaluated_program objects scope locals ts) (λ e. is_of_filters e ≡ false)
no_fault_of_filters objects scope locals ts h =
    program_only (λ e. is_of_filters e ≡ false) true false
    (record { all = record { whole = refl; range = refl; big = refl }; function = λ f. refl; impure = λ f. refl; filter = λ f. absurd (true≢false (sym f)) })
    objects scope locals (prim value.Undefined) ts h

pub never_no_function : (objects : List Object) (scope : ℕ) (locals : List Local) (ts : Trees) → calls_nothing ts ≡ true → ¬ (evaluated_program objects scope locals ts ≡ Err NotAFunction)
never_no_function objects scope locals ts h e = true≢false (held_of (λ d. is_of_calls d ≡ false) (evaluated_program objects scope locals ts) NotAFunction (no_fault_of_calls objects scope locals ts h) e)

pub never_impure : (objects : List Object) (scope : ℕ) (locals : List Local) (ts : Trees) → calls_nothing ts ≡ true → ¬ (evaluated_program objects scope locals ts ≡ Err ImpureCall)
never_impure objects scope locals ts h e = true≢false (held_of (λ d. is_of_calls d ≡ false) (evaluated_program objects scope locals ts) ImpureCall (no_fault_of_calls objects scope locals ts h) e)

pub never_syntax : (objects : List Object) (scope : ℕ) (locals : List Local) (ts : Trees) → filters_nothing ts ≡ true → ¬ (evaluated_program objects scope locals ts ≡ Err Syntax)
never_syntax objects scope locals ts h e = true≢false (held_of (λ d. is_of_filters d ≡ false) (evaluated_program objects scope locals ts) Syntax (no_fault_of_filters objects scope locals ts h) e)
