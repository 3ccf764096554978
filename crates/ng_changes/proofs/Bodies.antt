-- What the steps of a block's fire leave.
use Rattle.std.proofs.Common.{◌≡◌, ◌∙◌, ◌<◌, ℕ, Bool, true, false, true≢false, List, [], ◌∷◌, ◌++◌, append_assoc, length, Option, Some, None, refl, ap, sym, subst, inl, inr, ◌⊎◌, if◌then◌else◌}
use Rattle.std.proofs.lemmas.Bool.{and_parts, and_from, eqb-true}
use Rattle.std.specs.List.{AllByRecursion, list_any}
use Rattle.std.specs.Map.{lookup}
use Rattle.std.specs.Prelude.{◌&&◌, ◌||◌, ◌==◌, Result, Ok, Err, IsSome, nat_lt}
use Rattle.ng_base.specs.Objects.{Object}
use Rattle.ng_base.specs.declared.fault.Memory.{Memory}
use Rattle.ng_base.specs.declared.fault.Memory.TheVariants.{Worn}
use Rattle.ng_base.specs.declared.name.ScopeId.{ScopeId}
use Rattle.ng_behaviour.proofs.Grown.{fresh-below}
use Rattle.ng_behaviour.proofs.ScopeTree.{grown-new}
use Rattle.ng_behaviour.specs.Scopes.{Scope, IsScopeTree, path_at, child_path, children_at, with_child}
use Rattle.ng_changes.proofs.Answered.{there}
use Rattle.ng_changes.proofs.InnerPaths.{begins_same, not_true, path_of, unused_linked}
use Rattle.ng_changes.proofs.ScopePaths.{AreMore, child_more}
use Rattle.ng_changes.proofs.AllAt.{all_at}
use Rattle.ng_changes.specs.Whole.{HasInner, HasScope, HaveScopes}
use Rattle.ng_build.proofs.Paths.{begins_itself}
use Rattle.ng_instances.proofs.PathIs.{path_is}
use Rattle.ng_link.specs.Calls.{left_at}
use Rattle.ng_link.specs.Events.{scope_in}
use Rattle.ng_instances.specs.Instances.{Inner, Inners, Linked, Instances, instance_path, is_path, linked_at}
use Rattle.ng_link.specs.FreePlace.{IsNewBelow}
use Rattle.ng_link.specs.Standing.{AreInner, IsBelow}
use Rattle.ng_link.specs.State.{State}
use Rattle.ng_scopes.specs.Answers.{named_scope, next_number, next_scope_name}
use Rattle.ng_store.specs.declared.store.StoreFault.{StoreFault}
use Rattle.ng_store.specs.declared.store.StoreFault.TheVariants.{Full}
use Rattle.ng_behaviour.specs.Keys.{begins}

-- the scope of what is linked is one of the scopes
pub scope_stands : (t : List Scope) (inner : Inners) (is : Instances) (p : List ℕ) → 0 < length t → HaveScopes t inner is → scope_in (linked_at p is) < length t
scope_stands t inner is p root h = by (linked_at p is) refl
  where
    by : (o : Option Linked) → linked_at p is ≡ o → scope_in o < length t
    by None e = root
    by (Some l) e = (all_at (HasScope t inner) is p l h e).scope

-- ---- a child of a scope

pub child_wider : (t u : List Scope) (c o : ℕ) → u ≡ with_child t c o → AreMore t u
child_wider t u c o e = subst (AreMore t) (sym e) (child_more t c o)

-- what begins a path begins it without its last number, or is it
begins_last : (q p : List ℕ) (n : ℕ) → begins q (p ++ n ∷ []) ≡ true → (begins q p ≡ true) ⊎ (q ≡ p ++ n ∷ [])
begins_last [] p n e = inl refl
begins_last (x ∷ []) [] n e = inr (ap (λ (k : ℕ). k ∷ []) (eqb-true x n (and_parts (x == n) true e).0))
begins_last (x ∷ y ∷ q) [] n e = absurd (true≢false (sym (and_parts (x == n) false e).1))
begins_last (x ∷ q) (y ∷ p) n e = by (begins_last q p n two.1)
  where
    two : ((x == y) ≡ true) × (begins q (p ++ n ∷ []) ≡ true)
    two = and_parts (x == y) (begins q (p ++ n ∷ [])) e

    by : (begins q p ≡ true) ⊎ (q ≡ p ++ n ∷ []) → (begins (x ∷ q) (y ∷ p) ≡ true) ⊎ (x ∷ q ≡ y ∷ p ++ n ∷ [])
    by (inl h) = inl (and_from (x == y) (begins q p) two.0 h)
    by (inr h) = inr (ap (λ (k : ℕ). k ∷ q) (eqb-true x y two.0) ∙ ap (λ (r : List ℕ). y ∷ r) h)

-- its path is new below that of the instance that has the scope
module _ (t : List Scope) (c : ℕ) (inner : Inners) (is : Instances) (tree : IsScopeTree t) (lt : c < length t) (known : AreInner inner is) (scopes : HaveScopes t inner is) where
  abbrev new : List ℕ
  new = child_path t c

  below_holder : IsBelow (instance_path inner (path_at t c)) new
  below_holder = by (path_of inner is (path_at t c) known)
    where
      n : ℕ
      n = length (children_at t c)

      by : (instance_path inner (path_at t c) ≡ path_at t c) ⊎ IsBelow (instance_path inner (path_at t c)) (path_at t c) → IsBelow (instance_path inner (path_at t c)) new
      by (inl same) = ([], (n, ap (λ (p : List ℕ). p ++ n ∷ []) (sym same)))
      by (inr below) = (
        below.0 ++ below.1.0 ∷ [],
        (n, ap (λ (p : List ℕ). p ++ n ∷ []) below.1.1 ∙ append_assoc (instance_path inner (path_at t c)) (below.0 ++ below.1.0 ∷ []) (n ∷ [])),
      )

  -- no scope that is there has a path that begins with it
  not_begins : (r : ℕ) (q : List ℕ) → r < length t → path_at t r ≡ q → begins new q ≡ false
  not_begins r q within e = not_true (begins new q) (λ on. fresh-below t c r tree lt within (begins_same new (path_at t r) ∙ (ap (begins new) e ∙ on)))

  inner_scope : (q : List ℕ) (xs : List Inner) → AllByRecursion (HasInner t) xs → list_any (λ (i : Inner). is_path q i.path) xs ≡ true → begins new q ≡ false
  inner_scope q [] h e = absurd (cc)
  inner_scope q (i ∷ xs) h e = by (is_path q i.path) refl (inner_scope q xs h.1) e
    where
      by : (b : Bool) → is_path q i.path ≡ b → (list_any (λ (x : Inner). is_path q x.path) xs ≡ true → begins new q ≡ false) → (b || list_any (λ (x : Inner). is_path q x.path) xs) ≡ true → begins new q ≡ false
      by true same more e = not_begins i.scope q h.0.0 (h.0.1 ∙ sym (path_is q i.path same))
      by false off more e = more e

  new_unused : (q : List ℕ) → IsSome (linked_at q is) ⊎ IsSome (lookup (is_path q) inner) → begins new q ≡ false
  new_unused q (inl h) =
      let l = there (linked_at q is) h in
      let one = all_at (HasScope t inner) is q l.0 scopes l.1 in
      not_begins l.0.page.scope q one.scope one.path
  new_unused q (inr h) =
      let p = there (lookup (is_path q) inner) h in
      let l = (known.leads q p.0 p.1).there in
      let one = all_at (HasScope t inner) is p.0 l.0 scopes l.1.0 in
      inner_scope q l.0.page.inner one.inner l.1.1

  new_nearest : (q : List ℕ) → IsSome (linked_at q is) → begins q new ≡ true → begins q (instance_path inner (path_at t c)) ≡ true
  new_nearest q linked e = by (begins_last q (path_at t c) (length (children_at t c)) e)
    where
      by : (begins q (path_at t c) ≡ true) ⊎ (q ≡ new) → begins q (instance_path inner (path_at t c)) ≡ true
      by (inl on) = known.nearest (path_at t c) q linked on
      by (inr same) = absurd (true≢false (sym (begins_itself new) ∙ (ap (begins new) (sym same) ∙ new_unused q (inl linked))))

pub child_new : (t u : List Scope) (c o : ℕ) (s : State) → u ≡ with_child t c o → IsScopeTree t → c < length t → AreInner s.inner s.instances → HaveScopes t s.inner s.instances → IsNewBelow (instance_path s.inner (path_at t c)) (path_at u (length t)) s
child_new t u c o s e tree lt known scopes =
    subst (λ (p : List ℕ). IsNewBelow (instance_path s.inner (path_at t c)) p s) (sym (ap (λ (x : List Scope). path_at x (length t)) e ∙ ap (λ (x : Scope). x.path) (grown-new t c o (length t) refl)))
    (record { below = below_holder t c s.inner s.instances tree lt known scopes; unused = new_unused t c s.inner s.instances tree lt known scopes; nearest = new_nearest t c s.inner s.instances tree lt known scopes })

-- nothing is linked on it
pub new_free : (holder p : List ℕ) (s : State) → IsNewBelow holder p s → linked_at p s.instances ≡ None
new_free holder p s h = unused_linked p s h.unused

-- ---- a body is linked

pub rested_same : (b : Bool) (s : State) (p : List ℕ) → (let u : State = if b then s else left_at p s in (u.instances ≡ s.instances) × (u.core ≡ s.core))
rested_same true s p = (refl, refl)
rested_same false s p = (refl, refl)

-- ---- what making a child answers

pub child_is : (t : List Scope) (c : ℕ) (objects : List Object) (child : ScopeId) → next_scope_name t c objects ≡ Ok child → child.0 ≡ length t
child_is t c objects child e = by (next_number t c) refl e
  where
    number : (b : Bool) (id : ℕ) → (let r : Result ℕ Memory = if b then Ok (length t) else Err Worn in r ≡ Ok id) → id ≡ length t
    number true id e = sym (let same : length t ≡ id = cc in same)
    number false id e = absurd (cc)

    within : (b : Bool) (id : ℕ) → (let r : Result ScopeId StoreFault = if b then Ok (record { 0 = id }) else Err Full in r ≡ Ok child) → child.0 ≡ id
    within true id e = let same : (let x : ScopeId = record { 0 = id } in x ≡ child) = cc in sym (ap (λ (x : ScopeId). x.0) same)
    within false id e = absurd (cc)

    by : (r : Result ℕ Memory) → next_number t c ≡ r → named_scope r objects ≡ Ok child → child.0 ≡ length t
    by (Ok id) q e = within (nat_lt (length objects) 1000000) id e ∙ number (nat_lt (length t) 4294967295 && nat_lt (length (children_at t c)) 4294967295) id q
    by (Err m) q e = absurd (cc)
