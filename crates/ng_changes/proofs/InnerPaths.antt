-- Of which instances scopes are, as inner scopes and instances come and go.
use Rattle.std.proofs.Common.{◌≡◌, ◌∙◌, ℕ, Bool, true, false, cond, true≢false, List, [], ◌∷◌, ◌++◌, length, length-append, Option, Some, None, refl, ap, sym, subst, arith, inl, inr, ◌⊎◌}
use Rattle.std.specs.List.{AllByRecursion, filter, list_any}
use Rattle.std.specs.Map.{lookup}
use Rattle.std.specs.Prelude.{◌&&◌, ◌||◌, ◌==◌, IsSome, not, option_map, unwrap_or}
use Rattle.std.proofs.lemmas.Bool.{eq-eqb}
use Rattle.ng_base.specs.declared.path.Key.{Key}
use Rattle.ng_behaviour.specs.Scopes as scopes
use Rattle.ng_changes.proofs.Answered.{there}
use Rattle.ng_link.proofs.NotedFound.{noted_found}
use Rattle.ng_link.proofs.Lookups.{changed_here, changed_other, inserted_other, kept_found}
use Rattle.ng_build.proofs.Paths.{begins_itself}
use Rattle.ng_instances.proofs.PathIs.{path_is}
use Rattle.ng_link.proofs.PathsBelow.{other_path}
use Rattle.ng_instances.specs.Changing.{Place, at_top, in_outlet}
use Rattle.ng_link.specs.Calls.{taken_in}
use Rattle.ng_instances.specs.Instances.{Inner, Inners, Instances, Linked, OutletState, body_added, body_gone, inner_without, instance_path, is_path, is_site, is_site_in, linked_at, linked_for, outlets_changed, unlinked, with_inner, with_instance, with_outlets}
use Rattle.ng_link.specs.FreePlace.{IsFree, IsUsed}
use Rattle.ng_link.specs.Standing.{AreInner, IsBelow}
use Rattle.ng_link.specs.State.{State}
use Rattle.ng_behaviour.specs.Keys.{begins}

-- a path begins with its first part
pub begins_more : (p q : List ℕ) → begins p (p ++ q) ≡ true
begins_more [] q = refl
begins_more (x ∷ xs) q = ap (λ (b : Bool). b && begins xs (xs ++ q)) (eq-eqb x x refl) ∙ begins_more xs q

and_true : (b c : Bool) → (b && c) ≡ true → (b ≡ true) × (c ≡ true)
and_true true c e = (refl, e)
and_true false c e = absurd (cc)

pub begins_on : (p q r : List ℕ) → begins p q ≡ true → begins p (q ++ r) ≡ true
begins_on [] q r e = refl
begins_on (x ∷ xs) [] r e = absurd (cc)
begins_on (x ∷ xs) (y ∷ ys) r e =
    let two = and_true (x == y) (begins xs ys) e in
    ap (λ (b : Bool). b && begins xs (ys ++ r)) two.0 ∙ begins_on xs ys r two.1

-- both words for that are one
pub begins_same : (p q : List ℕ) → scopes.begins p q ≡ begins p q
begins_same [] q = refl
begins_same (x ∷ xs) [] = refl
begins_same (x ∷ xs) (y ∷ ys) = ap (λ (b : Bool). (x == y) && b) (begins_same xs ys)

is_not : (b : Bool) → (b ≡ true → ⊥) → b ≡ false
is_not true never = absurd (never refl)
is_not false never = refl

pub not_true : (b : Bool) → (b ≡ true → ⊥) → b ≡ false
not_true b never = is_not b never

-- what is below a path is another
longer_than : (p q : List ℕ) (n : ℕ) → p ≡ p ++ (q ++ n ∷ []) → ⊥
longer_than p q n e =
    let a : length p ≡ length (p ++ (q ++ n ∷ [])) = ap length e in
    let b = length-append p (q ++ n ∷ []) in
    let c = length-append q (n ∷ []) in
    omega (arith, a, b, c)

pub below_begins : (p q : List ℕ) → IsBelow p q → begins p q ≡ true
below_begins p q h = ap (begins p) h.1.1 ∙ begins_more p (h.0 ++ h.1.0 ∷ [])

pub below_other : (p q : List ℕ) → IsBelow p q → is_path q p ≡ false
below_other p q h = other_path q p (λ (e : q ≡ p). longer_than p h.0 h.1.0 (sym e ∙ h.1.1))

-- ---- the instance of a path

abbrev instance_or : List ℕ → Option (List ℕ) → List ℕ
instance_or q o = unwrap_or o q

pub own_path : (t : Inners) (q : List ℕ) → lookup (is_path q) t ≡ None → instance_path t q ≡ q
own_path t q e = ap (instance_or q) e

pub inner_path : (t : Inners) (q p : List ℕ) → lookup (is_path q) t ≡ Some p → instance_path t q ≡ p
inner_path t q p e = ap (instance_or q) e

-- it is the path itself, or that of an instance above
pub path_of : (t : Inners) (is : Instances) (q : List ℕ) → AreInner t is → (instance_path t q ≡ q) ⊎ IsBelow (instance_path t q) q
path_of t is q h = by (lookup (is_path q) t) refl
  where
    by : (o : Option (List ℕ)) → lookup (is_path q) t ≡ o → (instance_path t q ≡ q) ⊎ IsBelow (instance_path t q) q
    by None e = inl (own_path t q e)
    by (Some p) e = inr (subst (λ (r : List ℕ). IsBelow r q) (sym (inner_path t q p e)) (h.leads q p e).below)

-- ---- inner scopes come

abbrev has_path : List ℕ → List Inner → Bool
has_path q xs = list_any (λ (i : Inner). is_path i.path q) xs

chosen_twice : (b c : Bool) (p : List ℕ) (o : Option (List ℕ)) → cond c (Some p) (cond b (Some p) o) ≡ cond (b || c) (Some p) o
chosen_twice true true p o = refl
chosen_twice true false p o = refl
chosen_twice false c p o = refl

pub inner_found : (p : List ℕ) (xs : List Inner) (t : Inners) (q : List ℕ) → lookup (is_path q) (with_inner p xs t) ≡ cond (has_path q xs) (Some p) (lookup (is_path q) t)
inner_found p [] t q = refl
inner_found p (i ∷ xs) t q =
    inner_found p xs _ q
    ∙ (ap (cond (has_path q xs) (Some p)) (noted_found i.path p t q)
    ∙ chosen_twice (is_path i.path q) (has_path q xs) p (lookup (is_path q) t))

has_begun : (p : List ℕ) (xs : List Inner) (q : List ℕ) → AllByRecursion (λ (i : Inner). IsBelow p i.path) xs → has_path q xs ≡ true → begins p q ≡ true
has_begun p [] q h e = absurd (cc)
has_begun p (i ∷ xs) q h e = by (is_path i.path q) refl (has_begun p xs q h.1) e
  where
    by : (b : Bool) → is_path i.path q ≡ b → (has_path q xs ≡ true → begins p q ≡ true) → (b || has_path q xs) ≡ true → begins p q ≡ true
    by true is more e = subst (λ (r : List ℕ). begins p r ≡ true) (path_is i.path q is) (below_begins p i.path h.0)
    by false is more e = more e

-- a path that doesn't begin with that of the instance leads where it led
pub other_inner : (p : List ℕ) (xs : List Inner) (t : Inners) (q : List ℕ) → AllByRecursion (λ (i : Inner). IsBelow p i.path) xs → begins p q ≡ false → instance_path (with_inner p xs t) q ≡ instance_path t q
other_inner p xs t q h off =
    let none : has_path q xs ≡ false = not_true (has_path q xs) (λ e. true≢false (sym (has_begun p xs q h e) ∙ off)) in
    ap (instance_or q) (inner_found p xs t q ∙ ap (λ (b : Bool). cond b (Some p) (lookup (is_path q) t)) none)

has_itself : (p : List ℕ) (xs : List Inner) → AllByRecursion (λ (i : Inner). IsBelow p i.path) xs → has_path p xs ≡ false
has_itself p [] h = refl
has_itself p (i ∷ xs) h = ap (λ (b : Bool). b || has_path p xs) (below_other p i.path h.0) ∙ has_itself p xs h.1

-- its own leads to it
pub own_inner : (p : List ℕ) (xs : List Inner) (t : Inners) → AllByRecursion (λ (i : Inner). IsBelow p i.path) xs → lookup (is_path p) t ≡ None → instance_path (with_inner p xs t) p ≡ p
own_inner p xs t h free =
    own_path (with_inner p xs t) p (inner_found p xs t p ∙ (ap (λ (b : Bool). cond b (Some p) (lookup (is_path p) t)) (has_itself p xs h) ∙ free))

-- and so do its inner scopes
pub new_inner : (p : List ℕ) (xs : List Inner) (t : Inners) (q : List ℕ) → has_path q xs ≡ true → instance_path (with_inner p xs t) q ≡ p
new_inner p xs t q e = inner_path (with_inner p xs t) q p (inner_found p xs t q ∙ ap (λ (b : Bool). cond b (Some p) (lookup (is_path q) t)) e)

-- ---- what is free

-- no path that is used begins with one that is free
pub unused_for : (place : Place) (p : List ℕ) (s : State) → AreInner s.inner s.instances → IsFree place p s → (q : List ℕ) → IsUsed q s → begins p q ≡ false
unused_for (in_outlet holder o i role) p s inner free q used = free.1.unused q used
unused_for at_top p s inner free q used = absurd (none used)
  where
    nothing : (r : List ℕ) → linked_at r s.instances ≡ None
    nothing r = ap (linked_at r) free.0

    none : IsUsed q s → ⊥
    none (inl h) = let l = there (linked_at q s.instances) h in let two : None ≡ Some l.0 = sym (nothing q) ∙ l.1 in cc
    none (inr h) =
        let r = there (lookup (is_path q) s.inner) h in
        let l = (inner.leads q r.0 r.1).there in
        let two : None ≡ Some l.0 = sym (nothing r.0) ∙ l.1.0 in cc

some_is_some : {A : Type 0} (o : Option A) (x : A) → o ≡ Some x → IsSome o
some_is_some {A} o x e = subst (λ (y : Option A). IsSome y) (sym e) refl

-- nothing is linked on it, and no inner scope has it
pub unused_linked : (p : List ℕ) (s : State) → ((q : List ℕ) → IsUsed q s → begins p q ≡ false) → linked_at p s.instances ≡ None
unused_linked p s free = by (linked_at p s.instances) refl
  where
    by : (o : Option Linked) → linked_at p s.instances ≡ o → o ≡ None
    by None e = refl
    by (Some l) e = absurd (true≢false (sym (begins_itself p) ∙ free p (inl (some_is_some (linked_at p s.instances) l e))))

pub unused_inner : (p : List ℕ) (s : State) → ((q : List ℕ) → IsUsed q s → begins p q ≡ false) → lookup (is_path p) s.inner ≡ None
unused_inner p s free = by (lookup (is_path p) s.inner) refl
  where
    by : (o : Option (List ℕ)) → lookup (is_path p) s.inner ≡ o → o ≡ None
    by None e = refl
    by (Some q) e = absurd (true≢false (sym (begins_itself p) ∙ free p (inr (some_is_some (lookup (is_path p) s.inner) q e))))

-- the path of a scope that leads to an instance is used
pub leads_used : (s : State) (q : List ℕ) → IsSome (linked_for s.inner q s.instances) → IsUsed q s
leads_used s q h = by (lookup (is_path q) s.inner) refl
  where
    by : (o : Option (List ℕ)) → lookup (is_path q) s.inner ≡ o → IsUsed q s
    by None e = inl (subst (λ (r : List ℕ). IsSome (linked_at r s.instances)) (own_path s.inner q e) h)
    by (Some p) e = inr (some_is_some (lookup (is_path q) s.inner) p e)

-- ---- which keys are those of sites

site_with : (f : List OutletState → List OutletState) (o : Option Linked) (k : Key) → is_site_in (option_map (with_outlets f) o) k ≡ is_site_in o k
site_with f None k = refl
site_with f (Some l) k = refl

site_linked : (o : Option Linked) (k : Key) → is_site_in o k ≡ true → IsSome o
site_linked None k e = absurd (cc)
site_linked (Some l) k e = refl

-- the outlets of an instance have no part in it
pub site_changed : (inner : Inners) (p : List ℕ) (f : List OutletState → List OutletState) (is : Instances) (k : Key) → is_site inner (outlets_changed p f is) k ≡ is_site inner is k
site_changed inner p f is k = by_test (is_path q p) refl
  where
    q : List ℕ
    q = instance_path inner k.path

    by_test : (b : Bool) → is_path q p ≡ b → is_site inner (outlets_changed p f is) k ≡ is_site inner is k
    by_test true same =
        let here : q ≡ p = path_is q p same in
        ap (λ (r : List ℕ). is_site_in (linked_at r (outlets_changed p f is)) k) here
        ∙ (ap (λ (o : Option Linked). is_site_in o k) (changed_here p f is)
        ∙ (site_with f (linked_at p is) k ∙ ap (λ (r : List ℕ). is_site_in (linked_at r is) k) (sym here)))
    by_test false off = ap (λ (o : Option Linked). is_site_in o k) (changed_other p f is q off)

pub site_taken : (inner : Inners) (place : Place) (p : List ℕ) (is : Instances) (k : Key) → is_site inner (taken_in place p is) k ≡ is_site inner is k
site_taken inner at_top p is k = refl
site_taken inner (in_outlet holder o i role) p is k = site_changed inner holder (body_added o i (record { path = p; role = role })) is k

-- where an instance comes on a free path, what was a site is one
pub site_come : (p : List ℕ) (xs : List Inner) (l : Linked) (s : State) → AllByRecursion (λ (i : Inner). IsBelow p i.path) xs → ((q : List ℕ) → IsUsed q s → begins p q ≡ false) → (k : Key) → is_site s.inner s.instances k ≡ true → is_site (with_inner p xs s.inner) (with_instance p l s.instances) k ≡ true
site_come p xs l s below free k site =
    let q : List ℕ = instance_path s.inner k.path in
    let linked : IsSome (linked_for s.inner k.path s.instances) = site_linked (linked_for s.inner k.path s.instances) k site in
    let path : instance_path (with_inner p xs s.inner) k.path ≡ q = other_inner p xs s.inner k.path below (free k.path (leads_used s k.path linked)) in
    let apart : is_path q p ≡ false = other_path q p (λ (e : q ≡ p). true≢false (sym (begins_itself p) ∙ (ap (begins p) (sym e) ∙ free q (inl linked)))) in
    ap (λ (r : List ℕ). is_site_in (linked_at r (with_instance p l s.instances)) k) path
    ∙ (ap (λ (o : Option Linked). is_site_in o k) (inserted_other p l s.instances q apart) ∙ site)

-- ---- a body goes

passed : {X : Type 0} (test : List ℕ → Bool) (es : List (List ℕ × X)) (q : List ℕ) → test q ≡ true → lookup (is_path q) (filter (λ e. test e.0) es) ≡ lookup (is_path q) es
passed test [] q stays = refl
passed {X} test (e ∷ es) q stays = by_test (test e.0) refl (passed test es q stays)
  where
    others : List (List ℕ × X)
    others = filter (λ x. test x.0) es

    by_test : (b : Bool) → test e.0 ≡ b → lookup (is_path q) others ≡ lookup (is_path q) es → lookup (is_path q) (cond b (e ∷ others) others) ≡ lookup (is_path q) (e ∷ es)
    by_test true is more = ap (λ (o : Option X). cond (is_path q e.0) (Some e.1) o) more
    by_test false is more =
        let apart : is_path q e.0 ≡ false = other_path q e.0 (λ (same : q ≡ e.0). true≢false (sym stays ∙ (ap test same ∙ is))) in
        more ∙ sym (ap (λ (b : Bool). cond b (Some e.1) (lookup (is_path q) es)) apart)

-- a path that doesn't begin with that of a body leads where it led
pub left_inner : (b : List ℕ) (t : Inners) (q : List ℕ) → begins b q ≡ false → instance_path (inner_without b t) q ≡ instance_path t q
left_inner b t q off = ap (instance_or q) (passed (λ (r : List ℕ). not (begins b r)) t q (ap not off))

not_not : (b : Bool) → not b ≡ true → b ≡ false
not_not true e = absurd (cc)
not_not false e = refl

-- and so does its instance
pub instance_left : (b : List ℕ) (t : Inners) (is : Instances) (q : List ℕ) → AreInner t is → begins b q ≡ false → begins b (instance_path t q) ≡ false
instance_left b t is q h off = not_true (begins b (instance_path t q)) (λ e. true≢false (sym (on e) ∙ off))
  where
    on : begins b (instance_path t q) ≡ true → begins b q ≡ true
    on e = by (path_of t is q h)
      where
        by : (instance_path t q ≡ q) ⊎ IsBelow (instance_path t q) q → begins b q ≡ true
        by (inl same) = ap (begins b) (sym same) ∙ e
        by (inr below) = ap (begins b) below.1.1 ∙ begins_on b (instance_path t q) (below.0 ++ below.1.0 ∷ []) e

-- where instances go, the keys on other paths are as before
pub site_left : (holder b : List ℕ) (t : Inners) (is : Instances) (k : Key) → AreInner t is → not (begins b k.path) ≡ true → is_site (inner_without b t) (unlinked holder b is) k ≡ is_site t is k
site_left holder b t is k h stays =
    let off : begins b k.path ≡ false = not_not (begins b k.path) stays in
    let q : List ℕ = instance_path t k.path in
    ap (λ (r : List ℕ). is_site_in (linked_at r (unlinked holder b is)) k) (left_inner b t k.path off)
    ∙ (ap (λ (o : Option Linked). is_site_in o k) (kept_found (λ (r : List ℕ). not (begins b r)) (outlets_changed holder (body_gone b) is) q (ap not (instance_left b t is k.path h off)))
    ∙ site_changed t holder (body_gone b) is k)
