-- The scope of what is transcluded inherits from the scope outside.
use Rattle.std.proofs.Common.{◌≡◌, ◌<◌, ◌+◌, ℕ, zero, suc, Bool, true, false, cond, List, [], ◌∷◌, ◌++◌, length, Option, Some, None, Result, Ok, Err, refl, ap, sym, subst, ◌∙◌, length-append, arith}
use Rattle.std.specs.Prelude.{nat_lt, bytes_eq, pos}
use Rattle.ng_base.specs.Objects as heap
use Rattle.ng_base.specs.Objects.{Object, own}
use Rattle.ng_base.specs.declared.fault.Fault.{Fault}
use Rattle.ng_base.specs.declared.fault.Fault.TheVariants.{StoreFull}
use Rattle.ng_base.specs.declared.heap.ObjKind.TheVariants.{Scope as a_scope}
use Rattle.ng_base.specs.declared.value.Value.{Value}
use Rattle.ng_base.specs.declared.value.Value.TheVariants.{Int}
use Rattle.ng_behaviour.proofs.ScopeTree.{grown-new}
use Rattle.ng_behaviour.specs.ScopeObjects.{id_name, parent_name, root_name, of_object_named, with_scope_object}
use Rattle.ng_behaviour.specs.Scopes.{Scope, object_at, with_child}
use Rattle.ng_core.specs.State as act
use Rattle.ng_core.specs.State.{Run, with_scopes, with_objects}
use Rattle.ng_changes.specs.ScopeRuns.{object_limit}
use Rattle.ng_language.specs.Objects.{proto_of, update_at, with_property, set_name, new_object}
use Rattle.ng_instances.specs.Registering.{scope_in_ground, outside_in_ground}
use Rattle.ng_store.proofs.Looks.{looks_up}
use Rattle.ng_laws.specs.Bindings.{ReadsFrom, TranscludedReadsOutside}

-- an object that is changed, and the last of some
changed_at : (xs : List Object) (f : Object → Object) (o : ℕ) → o < length xs → heap.object_at (update_at xs o f) o ≡ f (heap.object_at xs o)
changed_at [] f o l = absurd (omega (arith, l))
changed_at (x ∷ xs) f zero l = refl
changed_at (x ∷ xs) f (suc o) l = changed_at xs f o (omega (arith, l))

changed_length : (xs : List Object) (f : Object → Object) (o : ℕ) → length (update_at xs o f) ≡ length xs
changed_length [] f o = refl
changed_length (x ∷ xs) f zero = refl
changed_length (x ∷ xs) f (suc o) = ap suc (changed_length xs f o)

last_at : (xs : List Object) (x : Object) (o : ℕ) → o ≡ length xs → heap.object_at (xs ++ x ∷ []) o ≡ x
last_at [] x zero e = refl
last_at [] x (suc o) e = absurd (omega (arith, e))
last_at (y ∷ xs) x zero e = absurd (omega (arith, e))
last_at (y ∷ xs) x (suc o) e = last_at xs x o (omega (arith, e))

-- the object of a scope that was made last
module _ (objects : List Object) (scopes : List Scope) (proto : Option ℕ) (parent : ℕ) where
  abbrev o : ℕ
  o = length objects

  abbrev before : List Object
  before = objects ++ new_object a_scope proto ∷ []

  abbrev with_names : Value → Value → Value → Object
  with_names i p r = with_property root_name r (with_property parent_name p (with_property id_name i (new_object a_scope proto)))

  there : o < length before
  there = let e = length-append objects (new_object a_scope proto ∷ []) in omega (arith, e)

  set_three : (i p r : Value) → heap.object_at (set_name (set_name (set_name before o id_name i) o parent_name p) o root_name r) o ≡ with_names i p r
  set_three i p r =
      let one = changed_length before (with_property id_name i) o in
      let two = changed_length (set_name before o id_name i) (with_property parent_name p) o in
      let l = there in
      changed_at (set_name (set_name before o id_name i) o parent_name p) (with_property root_name r) o (omega (arith, one, two, l))
      ∙ (ap (with_property root_name r) (changed_at (set_name before o id_name i) (with_property parent_name p) o (omega (arith, one, l)))
      ∙ (ap (λ (x : Object). with_property root_name r (with_property parent_name p x)) (changed_at before (with_property id_name i) o l)
      ∙ ap (λ (x : Object). with_property root_name r (with_property parent_name p (with_property id_name i x))) (last_at objects (new_object a_scope proto) o refl)))

  abbrev grown : List Object
  grown = with_scope_object objects scopes proto parent

  three_names : (i p r : Value) (name : List ℕ) → bytes_eq name id_name ≡ false → bytes_eq name parent_name ≡ false → bytes_eq name root_name ≡ false → heap.own_of (with_names i p r) name ≡ None
  three_names i p r name not_id not_parent not_root = rw (not_id, not_parent, not_root) refl

  abbrev made_object : Object
  made_object = with_names (Int (pos (length scopes + 1))) (of_object_named (object_at scopes parent)) (of_object_named (object_at scopes 0))

  object_made : heap.object_at grown o ≡ made_object
  object_made = set_three (Int (pos (length scopes + 1))) (of_object_named (object_at scopes parent)) (of_object_named (object_at scopes 0))

  made_proto : proto_of grown o ≡ proto
  made_proto = ap (λ (x : Object). x.proto) object_made

  made_bare : (name : List ℕ) → bytes_eq name id_name ≡ false → bytes_eq name parent_name ≡ false → bytes_eq name root_name ≡ false → own grown o name ≡ None
  made_bare name a b c =
      ap (λ (x : Object). heap.own_of x name) object_made
      ∙ three_names (Int (pos (length scopes + 1))) (of_object_named (object_at scopes parent)) (of_object_named (object_at scopes 0)) name a b c

  pub made_reads : (outside : ℕ) → proto ≡ Some outside → ReadsFrom grown o outside
  made_reads outside is = record {
    proto = made_proto ∙ is;
    bare = made_bare;
    reads = λ later sound l up name none. looks_up later name o outside sound l none up;
  }

-- a scope that is made with an object to inherit from
module _ (parent outside : ℕ) (c : act.State) where
  abbrev made : act.State
  made = with_scopes (with_child c.scopes parent (length c.objects)) (with_objects (with_scope_object c.objects c.scopes (Some outside) parent) c)

  object_of_made : object_at made.scopes (length c.scopes) ≡ length c.objects
  object_of_made = ap (λ (x : Scope). x.object) (grown-new c.scopes parent (length c.objects) (length c.scopes) refl)

  at_made : ReadsFrom made.objects (object_at made.scopes (length c.scopes)) outside
  at_made = subst (λ o. ReadsFrom made.objects o outside) (sym object_of_made) (made_reads c.objects c.scopes (Some outside) parent outside refl)

  run_reads : (b : Bool) (d : act.State) (k : ℕ) → ◌≡◌ {A = Run ℕ} (cond b (made, Ok (length c.scopes)) (c, Err StoreFull)) (d, Ok k) → ReadsFrom d.objects (object_at d.scopes k) outside
  run_reads false d k e = let none : ◌≡◌ {A = Result ℕ Fault} (Err StoreFull) (Ok k) = ap (λ (q : Run ℕ). q.1) e in absurd (cc)
  run_reads true d k e =
      let state : made ≡ d = ap (λ (q : Run ℕ). q.0) e in
      let result : ◌≡◌ {A = Result ℕ Fault} (Ok (length c.scopes)) (Ok k) = ap (λ (q : Run ℕ). q.1) e in
      let number : length c.scopes ≡ k = cc in
      subst (λ (x : act.State). ReadsFrom x.objects (object_at x.scopes k) outside) state (subst (λ i. ReadsFrom made.objects (object_at made.scopes i) outside) number at_made)

pub transcluded_reads_outside : TranscludedReadsOutside
transcluded_reads_outside g n o c d k e = run_reads (scope_in_ground g n) (object_at c.scopes (outside_in_ground g o)) c (nat_lt (length c.objects) object_limit) d k e
