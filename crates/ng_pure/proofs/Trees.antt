-- Running a pure program follows its evaluation, tree by tree.
use Rattle.std.proofs.Common.{◌≡◌, ◌∙◌, ◌<◌, ◌≤◌, ◌+◌, ℕ, Bool, true, false, List, [], ◌∷◌, ◌++◌, length, refl, sym, ap, subst, arith, if◌then◌else◌, Option, Some, None, bytes_eq, pos, length-append, codes, true≢false}
use Rattle.std.specs.Prelude.{Result, Ok, Err, IsTrue}
use Rattle.std.specs.List.{IsDistinct}
use Rattle.std.specs.Map.{keys_of}
use Rattle.indexmap.specs.IndexMap.{insert_entry}
use Rattle.ng_base.specs.Meets.{◌>>=◌ as ◌>>?◌}
use Rattle.ng_base.specs.Objects.{Object}
use Rattle.ng_base.specs.Views.{ViewTree, prim, list, rec, views_from, fields_from, fields_list}
use Rattle.ng_base.specs.declared.value.Value.{Value}
use Rattle.ng_base.specs.declared.value.Value.TheVariants as value
use Rattle.ng_base.specs.declared.fault.Fault.{Fault}
use Rattle.ng_base.specs.declared.fault.Fault.TheVariants.{ImpureCall, NotAFunction, Syntax}
use Rattle.ng_base.proofs.ViewLists.{fields_list-from}
use Rattle.ng_behaviour.specs.Scopes.{Scope, object_at}
use Rattle.ng_language.specs.Objects.{AreObjects}
use Rattle.ng_language.specs.Operators.{in_range, truthy}
use Rattle.ng_language.specs.Sums.{as_view}
use Rattle.ng_language.specs.Texts.{to_text}
use Rattle.ng_language.specs.Trees.{Tree, Trees, PairTree, Pairs, a_number, a_text, a_name, the_scope, a_constant, member_of, item_of, call_of, a_list, a_record, in_brackets, signed, combined, both_of, either_of, choice_of, assigned, filtered, no_trees, tree_then, labelled, shorthand, computed, no_pairs, pair_then}
use Rattle.ng_language.specs.declared.syntax.Constant.{Constant}
use Rattle.ng_language.specs.declared.syntax.Constant.TheVariants as constants
use Rattle.ng_evaluation.specs.Applied.{known, applied}
use Rattle.ng_members.specs.Leaves.{Field, LocalsStand, named, constant_value, label_name, sign_value, operator_value}
use Rattle.ng_members.specs.Callees.{method_of, member_callee, callee_or, callee, called_on, called}
use Rattle.ng_evaluation.specs.Evaluation.{evaluated, evaluated_all, evaluated_pair, evaluated_pairs, evaluated_statements}
use Rattle.ng_members.specs.Members.{member, item}
use Rattle.ng_members.specs.Methods.{method_value}
use Rattle.ng_members.specs.Names.{is_pure_method}
use Rattle.ng_evaluation.specs.Purity.{IsPure, ArePure, IsPurePair, ArePurePairs, count_of, IsKnown, FiltersKnown, IsPairKnown, ArePairsKnown}
use Rattle.ng_members.specs.declared.methods.Method.{Method}
use Rattle.ng_core.specs.Keeping.{stores, stores_result, filter_result, nothing}
use Rattle.ng_act.specs.Asked.{Doing}
use Rattle.ng_act.specs.Calls.{runs}
use Rattle.ng_act.specs.Expressions.{acted, acted_all, acted_pair, acted_pairs, statements}
use Rattle.ng_core.specs.Calling.{called_on as run_called_on, method_or, value_called, is_nothing as runs_nothing}
use Rattle.ng_core.specs.State.{State, Run, ◌>>=◌, with_objects, given}
use Rattle.ng_core.specs.declared.called.Called.{Called}
use Rattle.ng_core.specs.declared.called.Called.TheVariants as calls
use Rattle.ng_write.proofs.Extending.{extends_self}
use Rattle.ng_pure.specs.Patterns.{HasShortLists, EachFilter, EachFilterOfAll, EachFilterOfPair, EachFilterOfPairs, HasShortPattern}
use Rattle.ng_pure.proofs.Shown.{Grown, grown_on, Seen, AllSeen, FieldSeen, FieldsSeen, ResultBy, seen_on, all_on, fields_on, one_more, all_length}
use Rattle.ng_pure.proofs.Alike.{truthy_same}
use Rattle.ng_pure.proofs.Texts.{text_same}
use Rattle.ng_pure.proofs.Members.{member_seen, item_seen, name_seen}
use Rattle.ng_pure.proofs.Operators.{sign_seen, operator_seen, whole_seen}
use Rattle.ng_pure.proofs.Methods.{given_list, method_same, method_given}
use Rattle.ng_filters.specs.Applied.{first_of}
use Rattle.ng_pure.proofs.Applied.{applied_given}
use Rattle.ng_pure.proofs.Called.{called_plainly}
use Rattle.ng_pure.proofs.Named.{put_seen, put_distinct, nothing_distinct}
use Rattle.ng_pure.proofs.Running.{Follows, SeenAt, follows_then, follows_then_is, follows_weaker, follows_ok, follows_result, follows_fault, follows_stored, follows_stored_result}

-- what a run begins with: the objects are those of a store, and the scope and the locals stand
pub record Begins (scope : ℕ) (s : State) : Type 0 where
  pub sound : AreObjects s.objects
  pub there : object_at s.scopes scope < length s.objects
  pub locals : LocalsStand (length s.objects) s.locals

-- a pattern of a filter has short lists
abbrev ShortAt : ℕ → State → List ℕ → Trees → Type 0
ShortAt scope s name ts = HasShortPattern s.objects (object_at s.scopes scope) s.locals name ts

constant_seen : (n from : ℕ) (now : List Object) (c : Constant) → Seen n from now (prim (constant_value c)) (prim (constant_value c))
constant_seen n from now constants.True = (refl, tt)
constant_seen n from now constants.False = (refl, tt)
constant_seen n from now constants.Null = (refl, tt)
constant_seen n from now constants.Undefined = (refl, tt)

abbrev AllAt : ℕ → ℕ → ℕ → List Object → List ViewTree → List ViewTree → Type 0
AllAt n from k objects us ts = AllSeen n from objects us ts × (length ts ≡ k)

abbrev FieldsAt : ℕ → ℕ → List Object → List Field → List Field → Type 0
FieldsAt n from objects fs gs = FieldsSeen n from objects fs gs × IsDistinct bytes_eq (keys_of gs)

abbrev FieldAt : ℕ → ℕ → List Object → Field → Field → Type 0
FieldAt n from objects f g = FieldSeen n from objects f g

abbrev CallAt : ℕ → ℕ → List Scope → List ℕ → List Object → ViewTree × Called → ViewTree × List ℕ → Type 0
CallAt n from scopes name objects r q = Seen n from objects r.0 q.0 × (r.1 ≡ run_called_on objects scopes r.0 name) × (q.1 ≡ name)

-- a value that was shown from a place on was so from an earlier one on
earlier : (n from to : ℕ) (s : State) (now : List Object) (r : Run ViewTree) (x : Result ViewTree Fault) → to ≤ from → Follows (SeenAt n from) s now r x → Follows (SeenAt n to) s now r x
earlier n from to s now r x h f =
    follows_weaker (SeenAt n from) (SeenAt n to) s now r x (λ objects v w e q. seen_on n from to objects objects (extends_self objects) h v w q) f

chosen : (R : List Object → ViewTree → ViewTree → Type 0) (s : State) (now : List Object) (b c : Bool) (x y : Run ViewTree) (p q : Result ViewTree Fault) → b ≡ c → Follows R s now x p → Follows R s now y q → Follows R s now (if b then x else y) (if c then p else q)
chosen R s now true true x y p q e f g = f
chosen R s now true false x y p q e f g = absurd (cc)
chosen R s now false true x y p q e f g = absurd (cc)
chosen R s now false false x y p q e f g = g

names_by : (x y : Result (List ℕ) Fault) → x ≡ y → ResultBy (λ (a b : List ℕ). a ≡ b) x y
names_by x (Ok a) e = subst (λ z. ResultBy (λ (c b : List ℕ). c ≡ b) z (Ok a)) (sym e) refl
names_by x (Err d) e = subst (λ z. ResultBy (λ (c b : List ℕ). c ≡ b) z (Err d)) (sym e) refl

-- a call of what is no method
call_other : (go : Doing) (n from : ℕ) (s : State) (now : List Object) (u v t w : ViewTree) (k : ℕ) (args : Run (List ViewTree)) (asked : Result (List ViewTree) Fault) (before : List Object)
    → Seen n from now v w → Follows (AllAt n from k) s now args asked
    → Follows (SeenAt n from) s now (if runs_nothing (value_called v) then (with_objects now s, Ok nothing) else (args >>= λ vs b. runs go (value_called v) u vs b)) (called before (member_callee w) t asked)
unfolding called_on
call_other go n from s now u (prim x) t (prim y) k args asked before e h =
    subst (λ z. Follows (SeenAt n from) s now (if runs_nothing (value_called (prim z)) then (with_objects now s, Ok nothing) else (args >>= λ vs b. runs go (value_called (prim z)) u vs b)) (called before (member_callee (prim y)) t asked)) (sym e.0) (by y)
  where
    other : Follows (SeenAt n from) s now (args >>= λ vs b. (b, (let r : Result ViewTree Fault = Err NotAFunction in r))) (asked >>? λ vs. (let r : Result ViewTree Fault = Err NotAFunction in r))
    other = follows_then (AllAt n from k) (SeenAt n from) s now args asked (λ vs b. (b, Err NotAFunction)) (λ vs. Err NotAFunction) h (λ after vs ws x q. follows_fault (SeenAt n from) s after NotAFunction)

    by : (y : Value) → Follows (SeenAt n from) s now (if runs_nothing (value_called (prim y)) then (with_objects now s, Ok nothing) else (args >>= λ vs b. runs go (value_called (prim y)) u vs b)) (called before (member_callee (prim y)) t asked)
    by value.Undefined = follows_ok (SeenAt n from) s now nothing nothing (refl, tt)
    by value.Null = follows_ok (SeenAt n from) s now nothing nothing (refl, tt)
    by (value.Fun f) =
        follows_then (AllAt n from k) (SeenAt n from) s now args asked (λ vs b. runs go (calls.Function f) u vs b) (λ vs. Err ImpureCall) h (λ after vs ws x q never. absurd (never refl))
    by (value.Bool b) = other
    by (value.Int i) = other
    by value.Nan = other
    by (value.Text x) = other
    by (value.Obj o) = other
call_other go n from s now u (prim x) t (list ts) k args asked before e h =
    subst (λ z. Follows (SeenAt n from) s now (if runs_nothing (value_called (prim z)) then (with_objects now s, Ok nothing) else (args >>= λ vs b. runs go (value_called (prim z)) u vs b)) (called before (member_callee (list ts)) t asked)) (sym e.2)
    (follows_then (AllAt n from k) (SeenAt n from) s now args asked (λ vs b. (b, Err NotAFunction)) (λ vs. Err NotAFunction) h (λ after vs ws x q. follows_fault (SeenAt n from) s after NotAFunction))
call_other go n from s now u (prim x) t (rec fs) k args asked before e h =
    subst (λ z. Follows (SeenAt n from) s now (if runs_nothing (value_called (prim z)) then (with_objects now s, Ok nothing) else (args >>= λ vs b. runs go (value_called (prim z)) u vs b)) (called before (member_callee (rec fs)) t asked)) (sym e.2)
    (follows_then (AllAt n from k) (SeenAt n from) s now args asked (λ vs b. (b, Err NotAFunction)) (λ vs. Err NotAFunction) h (λ after vs ws x q. follows_fault (SeenAt n from) s after NotAFunction))
call_other go n from s now u (list us) t w k args asked before e h = absurd e
call_other go n from s now u (rec us) t w k args asked before e h = absurd e

-- a call on a value, whose arguments are evaluated after it
call_follows : (go : Doing) (s : State) (from : ℕ) (mid : List Object) (name : List ℕ) (k : ℕ) (u t : ViewTree) (args : Run (List ViewTree)) (asked : Result (List ViewTree) Fault)
    → Grown s.objects mid → length s.objects ≤ from → from ≤ length mid → IsTrue (is_pure_method name) → Seen (length s.objects) from mid u t → Follows (AllAt (length s.objects) (length mid) k) s mid args asked
    → Follows (SeenAt (length s.objects) from) s mid
    (if runs_nothing (run_called_on mid s.scopes u name) then (with_objects mid s, Ok nothing) else (args >>= λ vs b. runs go (run_called_on mid s.scopes u name) u vs b))
    (called s.objects (callee s.objects t name) t asked)
unfolding callee called_on
call_follows go s from mid name k u t args asked g a b pure e h =
    subst (λ c. Follows (SeenAt n from) s mid (if runs_nothing c then (with_objects mid s, Ok nothing) else (args >>= λ vs z. runs go c u vs z)) (called s.objects (callee s.objects t name) t asked)) (sym same)
    (by (method_of s.objects t name))
  where
    n : ℕ
    n = length s.objects

    same : run_called_on mid s.scopes u name ≡ method_or (method_of s.objects t name) (value_called (member mid u name))
    same = called_plainly mid s.scopes name pure u ∙ ap (λ m. method_or m (value_called (member mid u name))) (method_same from s.objects mid g name u t e)

    asked_from : Follows (AllAt n from k) s mid args asked
    asked_from = follows_weaker (AllAt n (length mid) k) (AllAt n from k) s mid args asked (λ objects vs ws x q. (all_on n (length mid) from objects objects (extends_self objects) b vs ws q.0, q.1)) h

    by : (m : Option Method) → Follows (SeenAt n from) s mid
        (if runs_nothing (method_or m (value_called (member mid u name))) then (with_objects mid s, Ok nothing) else (args >>= λ vs z. runs go (method_or m (value_called (member mid u name))) u vs z))
        (called s.objects (callee_or m (member_callee (member s.objects t name))) t asked)
    by None = call_other go n from s mid u (member mid u name) t (member s.objects t name) k args asked s.objects (member_seen from s.objects mid name g u t e) asked_from
    by (Some m) =
        follows_then (AllAt n (length mid) k) (SeenAt n from) s mid args asked (λ vs z. runs go (calls.Pure m) u vs z) (λ vs. method_value s.objects m t vs) h
        (λ after vs ws x q. follows_stored_result n from s after (let y : length mid ≤ length after = x.no_fewer in omega arith) (method_value after m u vs) (method_value s.objects m t ws)
        (method_given from (length mid) s.objects mid after (grown_on s.objects mid after g x) x a b (omega arith) m u t vs ws e q.0))

filter_follows : (s : State) (from : ℕ) (now : List Object) (name : List ℕ) (k : ℕ) (u t : ViewTree) (vs ws : List ViewTree)
    → Grown s.objects now → from ≤ length now → IsTrue (known name k) → (bytes_eq name (codes "filter") ≡ true → HasShortLists (first_of (views_from ws))) → Seen (length s.objects) from now u t → AllSeen (length s.objects) from now vs ws → length ws ≡ k
    → Follows (SeenAt (length s.objects) from) s now (stores_result (filter_result now name u vs) (with_objects now s)) (applied s.objects name t (views_from ws))
filter_follows s from now name k u t vs ws g h known_is pattern e r many =
    let n = length s.objects in
    let is : known name (length vs) ≡ true = ap (known name) (all_length (Seen n from now) vs ws r ∙ many) ∙ known_is in
    subst (λ b. Follows (SeenAt n from) s now (stores_result (if b then applied now name u (views_from vs) else Err Syntax) (with_objects now s)) (applied s.objects name t (views_from ws))) (sym is)
    (follows_stored_result n from s now h (applied now name u (views_from vs)) (applied s.objects name t (views_from ws)) (applied_given from s.objects now name g (length vs) is u t vs ws pattern e r))

mutual
  tree_follows : (go : Doing) (scope : ℕ) (s : State) → Begins scope s → (t : Tree) → IsPure t → IsKnown t → EachFilter (ShortAt scope s) t → (now : List Object) → Grown s.objects now
      → Follows (SeenAt (length s.objects) (length now)) s now (acted go scope t (with_objects now s)) (evaluated s.objects (object_at s.scopes scope) s.locals t)
  tree_follows go scope s c (a_number k) p q f now g = follows_result (SeenAt (length s.objects) (length now)) s now (as_view (in_range (pos k))) (as_view (in_range (pos k))) (whole_seen (length s.objects) (length now) now (pos k))
  tree_follows go scope s c (a_text t) p q f now g = follows_ok (SeenAt (length s.objects) (length now)) s now (prim (value.Text t)) (prim (value.Text t)) (refl, tt)
  tree_follows go scope s c (a_name name) p q f now g =
      follows_ok (SeenAt (length s.objects) (length now)) s now (named now (object_at s.scopes scope) s.locals name) (named s.objects (object_at s.scopes scope) s.locals name) (name_seen (length now) s.objects now g (object_at s.scopes scope) s.locals name c.there c.locals)
  tree_follows go scope s c the_scope p q f now g =
      follows_ok (SeenAt (length s.objects) (length now)) s now (prim (value.Obj (record { 0 = object_at s.scopes scope }))) (prim (value.Obj (record { 0 = object_at s.scopes scope }))) (refl, c.there)
  tree_follows go scope s c (a_constant k) p q f now g = follows_ok (SeenAt (length s.objects) (length now)) s now (prim (constant_value k)) (prim (constant_value k)) (constant_seen (length s.objects) (length now) now k)
  tree_follows go scope s c (member_of t name) p q f now g =
      let R = SeenAt (length s.objects) (length now) in
      follows_then R R s now (acted go scope t (with_objects now s)) (evaluated s.objects (object_at s.scopes scope) s.locals t) (λ v a. (a, Ok (member a.objects v name))) (λ v. Ok (member s.objects v name))
      (tree_follows go scope s c t p q f now g)
      (λ after v w e r. follows_ok R s after (member after v name) (member s.objects w name) (member_seen (length now) s.objects after name (grown_on s.objects now after g e) v w r))
  tree_follows go scope s c (item_of t i) p q f now g =
      let n = length s.objects in
      let R = SeenAt n (length now) in
      follows_then R R s now (acted go scope t (with_objects now s)) (evaluated s.objects (object_at s.scopes scope) s.locals t) (λ v a. acted go scope i a >>= λ w b. given b (item b.objects v w)) (λ v. evaluated s.objects (object_at s.scopes scope) s.locals i >>? λ w. item s.objects v w)
      (tree_follows go scope s c t p.0 q.0 f.0 now g)
      (λ mid v w e r. follows_then (SeenAt n (length mid)) R s mid (acted go scope i (with_objects mid s)) (evaluated s.objects (object_at s.scopes scope) s.locals i) (λ x b. given b (item b.objects v x)) (λ x. item s.objects w x)
      (tree_follows go scope s c i p.1 q.1 f.1 mid (grown_on s.objects now mid g e))
      (λ after x y d m. follows_result R s after (item after v x) (item s.objects w y)
      (item_seen (length now) s.objects after (grown_on s.objects mid after (grown_on s.objects now mid g e) d) v w x y
      (seen_on n (length now) (length now) mid after d (omega arith) v w r)
      (seen_on n (length mid) (length now) after after (extends_self after) e.no_fewer x y m))))
  tree_follows go scope s c (call_of (member_of t name) ts) p q f now g =
      let n = length s.objects in
      let so = object_at s.scopes scope in
      let R = SeenAt n (length now) in
      let C = CallAt n (length now) s.scopes name in
      follows_then C R s now (acted go scope t (with_objects now s) >>= λ v a. (a, Ok (v, run_called_on a.objects a.scopes v name))) (evaluated s.objects so s.locals t >>? λ v. Ok (v, name))
      (λ r a. if runs_nothing r.1 then (a, Ok nothing) else (acted_all go scope [] ts a >>= λ args b. runs go r.1 r.0 args b)) (λ r. called s.objects (callee s.objects r.0 r.1) r.0 (evaluated_all s.objects so s.locals [] ts))
      (follows_then R C s now (acted go scope t (with_objects now s)) (evaluated s.objects so s.locals t) (λ v a. (a, Ok (v, run_called_on a.objects a.scopes v name))) (λ v. Ok (v, name))
      (tree_follows go scope s c t p.1.0 q.0 f.0 now g)
      (λ mid v w e r. follows_ok C s mid (v, run_called_on mid s.scopes v name) (w, name) (r, refl, refl)))
      (λ mid r x e m.
      let grown = grown_on s.objects now mid g e in
      let from_start : length s.objects ≤ length now = g.no_fewer in
      let more : length now ≤ length mid = e.no_fewer in
      let main = call_follows go s (length now) mid name (count_of ts) r.0 x.0 (acted_all go scope [] ts (with_objects mid s)) (evaluated_all s.objects so s.locals [] ts) grown from_start more p.0 m.0
      (trees_follow go scope s c ts p.1.1 q.1 f.1 mid grown (length mid) (omega arith) [] [] tt (count_of ts) (omega arith)) in
      subst (λ k. Follows R s mid (if runs_nothing k then (with_objects mid s, Ok nothing) else (acted_all go scope [] ts (with_objects mid s) >>= λ args b. runs go k r.0 args b)) (called s.objects (callee s.objects x.0 x.1) x.0 (evaluated_all s.objects so s.locals [] ts))) (sym m.1)
      (subst (λ k. Follows R s mid (if runs_nothing (run_called_on mid s.scopes r.0 name) then (with_objects mid s, Ok nothing) else (acted_all go scope [] ts (with_objects mid s) >>= λ args b. runs go (run_called_on mid s.scopes r.0 name) r.0 args b)) (called s.objects (callee s.objects x.0 k) x.0 (evaluated_all s.objects so s.locals [] ts))) (sym m.2) main))
  tree_follows go scope s c (call_of t ts) p q f now g = absurd (true≢false (sym p.0))
  tree_follows go scope s c (a_list ts) p q f now g =
      let n = length s.objects in
      let R = SeenAt n (length now) in
      follows_then (AllAt n (length now) (count_of ts)) R s now (acted_all go scope [] ts (with_objects now s)) (evaluated_all s.objects (object_at s.scopes scope) s.locals [] ts) (λ vs a. stores (list (views_from vs)) a) (λ vs. Ok (list (views_from vs)))
      (trees_follow go scope s c ts p q f now g (length now) (omega arith) [] [] tt (count_of ts) (omega arith))
      (λ after vs ws e r. follows_stored n (length now) s after e.no_fewer (list (views_from vs)) (list (views_from ws)) (given_list n (length now) after vs ws r.0))
  tree_follows go scope s c (a_record ps) p q f now g =
      let n = length s.objects in
      let R = SeenAt n (length now) in
      follows_then (FieldsAt n (length now)) R s now (acted_pairs go scope [] ps (with_objects now s)) (evaluated_pairs s.objects (object_at s.scopes scope) s.locals [] ps) (λ fs a. stores (rec (fields_from fs)) a) (λ fs. Ok (rec (fields_from fs)))
      (pairs_follow go scope s c ps p q f now g (length now) (omega arith) [] [] tt nothing_distinct)
      (λ after fs gs e r. follows_stored n (length now) s after e.no_fewer (rec (fields_from fs)) (rec (fields_from gs))
      (subst (λ x. FieldsSeen n (length now) after x (fields_list (fields_from gs)) × IsDistinct bytes_eq (keys_of (fields_list (fields_from gs)))) (sym (fields_list-from fs)) (subst (λ x. FieldsSeen n (length now) after fs x × IsDistinct bytes_eq (keys_of x)) (sym (fields_list-from gs)) r)))
  tree_follows go scope s c (in_brackets t) p q f now g = tree_follows go scope s c t p q f now g
  tree_follows go scope s c (signed o t) p q f now g =
      let n = length s.objects in
      let R = SeenAt n (length now) in
      follows_then R R s now (acted go scope t (with_objects now s)) (evaluated s.objects (object_at s.scopes scope) s.locals t) (λ v a. given a (sign_value o v)) (λ v. sign_value o v)
      (tree_follows go scope s c t p q f now g)
      (λ after v w e r. follows_result R s after (sign_value o v) (sign_value o w) (sign_seen n (length now) after o v w r))
  tree_follows go scope s c (combined o x y) p q f now g =
      let n = length s.objects in
      let so = object_at s.scopes scope in
      let R = SeenAt n (length now) in
      follows_then R R s now (acted go scope x (with_objects now s)) (evaluated s.objects so s.locals x) (λ v a. acted go scope y a >>= λ w b. given b (operator_value b.objects o v w)) (λ v. evaluated s.objects so s.locals y >>? λ w. operator_value s.objects o v w)
      (tree_follows go scope s c x p.0 q.0 f.0 now g)
      (λ mid v w e r. follows_then (SeenAt n (length mid)) R s mid (acted go scope y (with_objects mid s)) (evaluated s.objects so s.locals y) (λ z b. given b (operator_value b.objects o v z)) (λ z. operator_value s.objects o w z)
      (tree_follows go scope s c y p.1 q.1 f.1 mid (grown_on s.objects now mid g e))
      (λ after z k d m. follows_result R s after (operator_value after o v z) (operator_value s.objects o w k)
      (operator_seen (length now) (length mid) s.objects mid after (grown_on s.objects mid after (grown_on s.objects now mid g e) d) d g.no_fewer e.no_fewer (omega arith) o v z w k r m)))
  tree_follows go scope s c (both_of x y) p q f now g =
      let n = length s.objects in
      let so = object_at s.scopes scope in
      let R = SeenAt n (length now) in
      follows_then R R s now (acted go scope x (with_objects now s)) (evaluated s.objects so s.locals x) (λ v a. if truthy v then acted go scope y a else (a, Ok v)) (λ v. if truthy v then evaluated s.objects so s.locals y else Ok v)
      (tree_follows go scope s c x p.0 q.0 f.0 now g)
      (λ mid v w e r. chosen R s mid (truthy v) (truthy w) (acted go scope y (with_objects mid s)) (with_objects mid s, Ok v) (evaluated s.objects so s.locals y) (Ok w) (truthy_same n (length now) mid v w r)
      (earlier n (length mid) (length now) s mid (acted go scope y (with_objects mid s)) (evaluated s.objects so s.locals y) e.no_fewer (tree_follows go scope s c y p.1 q.1 f.1 mid (grown_on s.objects now mid g e)))
      (follows_ok R s mid v w r))
  tree_follows go scope s c (either_of x y) p q f now g =
      let n = length s.objects in
      let so = object_at s.scopes scope in
      let R = SeenAt n (length now) in
      follows_then R R s now (acted go scope x (with_objects now s)) (evaluated s.objects so s.locals x) (λ v a. if truthy v then (a, Ok v) else acted go scope y a) (λ v. if truthy v then Ok v else evaluated s.objects so s.locals y)
      (tree_follows go scope s c x p.0 q.0 f.0 now g)
      (λ mid v w e r. chosen R s mid (truthy v) (truthy w) (with_objects mid s, Ok v) (acted go scope y (with_objects mid s)) (Ok w) (evaluated s.objects so s.locals y) (truthy_same n (length now) mid v w r)
      (follows_ok R s mid v w r)
      (earlier n (length mid) (length now) s mid (acted go scope y (with_objects mid s)) (evaluated s.objects so s.locals y) e.no_fewer (tree_follows go scope s c y p.1 q.1 f.1 mid (grown_on s.objects now mid g e))))
  tree_follows go scope s c (choice_of z x y) p q f now g =
      let n = length s.objects in
      let so = object_at s.scopes scope in
      let R = SeenAt n (length now) in
      follows_then R R s now (acted go scope z (with_objects now s)) (evaluated s.objects so s.locals z) (λ v a. if truthy v then acted go scope x a else acted go scope y a) (λ v. if truthy v then evaluated s.objects so s.locals x else evaluated s.objects so s.locals y)
      (tree_follows go scope s c z p.0 q.0 f.0 now g)
      (λ mid v w e r. chosen R s mid (truthy v) (truthy w) (acted go scope x (with_objects mid s)) (acted go scope y (with_objects mid s)) (evaluated s.objects so s.locals x) (evaluated s.objects so s.locals y) (truthy_same n (length now) mid v w r)
      (earlier n (length mid) (length now) s mid (acted go scope x (with_objects mid s)) (evaluated s.objects so s.locals x) e.no_fewer (tree_follows go scope s c x p.1.0 q.1.0 f.1.0 mid (grown_on s.objects now mid g e)))
      (earlier n (length mid) (length now) s mid (acted go scope y (with_objects mid s)) (evaluated s.objects so s.locals y) e.no_fewer (tree_follows go scope s c y p.1.1 q.1.1 f.1.1 mid (grown_on s.objects now mid g e))))
  tree_follows go scope s c (assigned x y) p q f now g = absurd p
  tree_follows go scope s c (filtered t name ts) p q f now g =
      let n = length s.objects in
      let so = object_at s.scopes scope in
      let R = SeenAt n (length now) in
      follows_then_is R R s now (acted go scope t (with_objects now s)) (evaluated s.objects so s.locals t) (λ v a. acted_all go scope [] ts a >>= λ vs b. stores_result (filter_result b.objects name v vs) b) (λ v. evaluated_all s.objects so s.locals [] ts >>? λ vs. applied s.objects name v (views_from vs))
      (tree_follows go scope s c t p.0 q.1.0 f.1.0 now g)
      (λ mid v w is e r. follows_then_is (AllAt n (length now) (count_of ts)) R s mid (acted_all go scope [] ts (with_objects mid s)) (evaluated_all s.objects so s.locals [] ts) (λ vs b. stores_result (filter_result b.objects name v vs) b) (λ vs. applied s.objects name w (views_from vs))
      (trees_follow go scope s c ts p.1 q.1.1 f.1.1 mid (grown_on s.objects now mid g e) (length now) e.no_fewer [] [] tt (count_of ts) (omega arith))
      (λ after vs ws are d m. filter_follows s (length now) after name (count_of ts) v w vs ws (grown_on s.objects mid after (grown_on s.objects now mid g e) d) (let k : length now ≤ length mid = e.no_fewer in let l : length mid ≤ length after = d.no_fewer in omega arith) q.0
      (λ j. f.0 j ws are)
      (seen_on n (length now) (length now) mid after d (omega arith) v w r) m.0 m.1))

  trees_follow : (go : Doing) (scope : ℕ) (s : State) → Begins scope s → (ts : Trees) → ArePure ts → FiltersKnown ts → EachFilterOfAll (ShortAt scope s) ts → (now : List Object) → Grown s.objects now → (from : ℕ) → from ≤ length now
      → (us ws : List ViewTree) → AllSeen (length s.objects) from now us ws → (k : ℕ) → length ws + count_of ts ≡ k
      → Follows (AllAt (length s.objects) from k) s now (acted_all go scope us ts (with_objects now s)) (evaluated_all s.objects (object_at s.scopes scope) s.locals ws ts)
  trees_follow go scope s c no_trees p q f now g from h us ws d k many = follows_ok (AllAt (length s.objects) from k) s now us ws (d, omega arith)
  trees_follow go scope s c (tree_then t ts) p q f now g from h us ws d k many =
      let n = length s.objects in
      let so = object_at s.scopes scope in
      follows_then (SeenAt n (length now)) (AllAt n from k) s now (acted go scope t (with_objects now s)) (evaluated s.objects so s.locals t) (λ v a. acted_all go scope (us ++ v ∷ []) ts a) (λ v. evaluated_all s.objects so s.locals (ws ++ v ∷ []) ts)
      (tree_follows go scope s c t p.0 q.0 f.0 now g)
      (λ after v w e r.
      trees_follow go scope s c ts p.1 q.1 f.1 after (grown_on s.objects now after g e) from (let m : length now ≤ length after = e.no_fewer in omega arith) (us ++ v ∷ []) (ws ++ w ∷ [])
      (one_more (Seen n from after) us ws v w (all_on n from from now after e (omega arith) us ws d) (seen_on n (length now) from after after (extends_self after) h v w r))
      k (omega (arith, length-append ws (w ∷ []))))

  pair_follows : (go : Doing) (scope : ℕ) (s : State) → Begins scope s → (p : PairTree) → IsPurePair p → IsPairKnown p → EachFilterOfPair (ShortAt scope s) p → (now : List Object) → Grown s.objects now
      → Follows (FieldAt (length s.objects) (length now)) s now (acted_pair go scope p (with_objects now s)) (evaluated_pair s.objects (object_at s.scopes scope) s.locals p)
  pair_follows go scope s c (labelled l t) p q f now g =
      let n = length s.objects in
      follows_then (SeenAt n (length now)) (FieldAt n (length now)) s now (acted go scope t (with_objects now s)) (evaluated s.objects (object_at s.scopes scope) s.locals t) (λ v a. (a, Ok (label_name l, v))) (λ v. Ok (label_name l, v))
      (tree_follows go scope s c t p q f now g) (λ after v w e r. follows_ok (FieldAt n (length now)) s after (label_name l, v) (label_name l, w) (refl, r))
  pair_follows go scope s c (shorthand m t) p q f now g =
      let n = length s.objects in
      follows_then (SeenAt n (length now)) (FieldAt n (length now)) s now (acted go scope t (with_objects now s)) (evaluated s.objects (object_at s.scopes scope) s.locals t) (λ v a. (a, Ok (m, v))) (λ v. Ok (m, v))
      (tree_follows go scope s c t p q f now g) (λ after v w e r. follows_ok (FieldAt n (length now)) s after (m, v) (m, w) (refl, r))
  pair_follows go scope s c (computed i t) p q f now g =
      let n = length s.objects in
      let so = object_at s.scopes scope in
      let F = FieldAt n (length now) in
      let N : List Object → List ℕ → List ℕ → Type 0 = λ objects a b. a ≡ b in
      follows_then (SeenAt n (length now)) F s now (acted go scope i (with_objects now s)) (evaluated s.objects so s.locals i) (λ w a. given a (to_text a.objects w) >>= λ m b. acted go scope t b >>= λ v z. (z, Ok (m, v))) (λ w. to_text s.objects w >>? λ m. evaluated s.objects so s.locals t >>? λ v. Ok (m, v))
      (tree_follows go scope s c i p.0 q.0 f.0 now g)
      (λ mid v w e r.
      let grown = grown_on s.objects now mid g e in
      follows_then N F s mid (with_objects mid s, to_text mid v) (to_text s.objects w) (λ m b. acted go scope t b >>= λ x z. (z, Ok (m, x))) (λ m. evaluated s.objects so s.locals t >>? λ x. Ok (m, x))
      (follows_result N s mid (to_text mid v) (to_text s.objects w) (names_by (to_text mid v) (to_text s.objects w) (text_same (length now) s.objects mid grown v w r)))
      (λ after a b d m. follows_then (SeenAt n (length after)) F s after (acted go scope t (with_objects after s)) (evaluated s.objects so s.locals t) (λ x z. (z, Ok (a, x))) (λ x. Ok (b, x))
      (tree_follows go scope s c t p.1 q.1 f.1 after (grown_on s.objects mid after grown d))
      (λ last x y k z. follows_ok F s last (a, x) (b, y)
      (m, seen_on n (length after) (length now) last last (extends_self last) (let o : length now ≤ length mid = e.no_fewer in let o2 : length mid ≤ length after = d.no_fewer in omega arith) x y z))))

  pairs_follow : (go : Doing) (scope : ℕ) (s : State) → Begins scope s → (ps : Pairs) → ArePurePairs ps → ArePairsKnown ps → EachFilterOfPairs (ShortAt scope s) ps → (now : List Object) → Grown s.objects now → (from : ℕ) → from ≤ length now
      → (fs gs : List Field) → FieldsSeen (length s.objects) from now fs gs → IsDistinct bytes_eq (keys_of gs)
      → Follows (FieldsAt (length s.objects) from) s now (acted_pairs go scope fs ps (with_objects now s)) (evaluated_pairs s.objects (object_at s.scopes scope) s.locals gs ps)
  pairs_follow go scope s c no_pairs p q f now g from h fs gs d k = follows_ok (FieldsAt (length s.objects) from) s now fs gs (d, k)
  pairs_follow go scope s c (pair_then x ps) p q f now g from h fs gs d k =
      let n = length s.objects in
      let so = object_at s.scopes scope in
      follows_then (FieldAt n (length now)) (FieldsAt n from) s now (acted_pair go scope x (with_objects now s)) (evaluated_pair s.objects so s.locals x) (λ f a. acted_pairs go scope (insert_entry bytes_eq fs f.0 f.1) ps a) (λ f. evaluated_pairs s.objects so s.locals (insert_entry bytes_eq gs f.0 f.1) ps)
      (pair_follows go scope s c x p.0 q.0 f.0 now g)
      (λ after v w e r. pairs_follow go scope s c ps p.1 q.1 f.1 after (grown_on s.objects now after g e) from (let o : length now ≤ length after = e.no_fewer in omega arith) (insert_entry bytes_eq fs v.0 v.1) (insert_entry bytes_eq gs w.0 w.1)
      (put_seen n from after fs gs v w (fields_on n from from now after e (omega arith) fs gs d) (r.0, seen_on n (length now) from after after (extends_self after) h v.1 w.1 r.1)) (put_distinct gs w.0 w.1 k))

pub statements_follow : (go : Doing) (scope : ℕ) (s : State) → Begins scope s → (ts : Trees) → ArePure ts → FiltersKnown ts → EachFilterOfAll (ShortAt scope s) ts → (now : List Object) → Grown s.objects now → (from : ℕ) → from ≤ length now → (u t : ViewTree) → Seen (length s.objects) from now u t
    → Follows (SeenAt (length s.objects) from) s now (statements go scope u ts (with_objects now s)) (evaluated_statements s.objects (object_at s.scopes scope) s.locals t ts)
statements_follow go scope s c no_trees p q f now g from h u t d = follows_ok (SeenAt (length s.objects) from) s now u t d
statements_follow go scope s c (tree_then x ts) p q f now g from h u t d =
    let n = length s.objects in
    let so = object_at s.scopes scope in
    follows_then (SeenAt n (length now)) (SeenAt n from) s now (acted go scope x (with_objects now s)) (evaluated s.objects so s.locals x) (λ w a. statements go scope w ts a) (λ w. evaluated_statements s.objects so s.locals w ts)
    (tree_follows go scope s c x p.0 q.0 f.0 now g)
    (λ after v w e r. statements_follow go scope s c ts p.1 q.1 f.1 after (grown_on s.objects now after g e) from (let o : length now ≤ length after = e.no_fewer in omega arith) v w
    (seen_on n (length now) from after after (extends_self after) h v w r))
