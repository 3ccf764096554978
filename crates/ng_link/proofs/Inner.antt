-- Which instance a scope of a path belongs to, where instances with inner scopes come and go.
use Rattle.std.proofs.Common.{◌≡◌, ◌⊎◌, inl, inr, ℕ, zero, suc, Bool, true, false, cond, List, [], ◌∷◌, Option, Some, None, refl, ap, ◌∙◌, sym, subst, map, slice_get, slice_index_or}
use Rattle.std.specs.Prelude.{◌||◌, IsSome, not, option_map, unwrap_or}
use Rattle.std.specs.BTreeMap.{insert_entry}
use Rattle.std.specs.List.{AllByRecursion, list_any}
use Rattle.std.specs.List.Sorted.{IsStrictlySortedBy}
use Rattle.std.specs.Map.{lookup, keys_of as map_keys}
use Rattle.std.proofs.lemmas.Map.Entries.{lookup-filter-keys}
use Rattle.ng_base.specs.Order.{path_cmp, path_cmp_total}
use Rattle.ng_base.specs.declared.path.Key.{Key}
use Rattle.ng_behaviour.specs.Keys.{begins}
use Rattle.ng_instances.specs.Instances.{OutletState, Inner, Page, Linked, Instances, Inners, is_path, linked_at, instance_path, inner_or, scope_path, key_in, keys_of, with_inner, inner_without, with_outlets, outlets_changed, without_below, with_instance}
use Rattle.ng_instances.specs.Registering.{mark_in}
use Rattle.ng_build.specs.Shape.{key_on}
use Rattle.ng_link.specs.Standing.{IsBelow, LeadsTo, AreInner}
use Rattle.ng_link.proofs.Grown.{all_weaker, no_some, is_some_of}
use Rattle.ng_link.proofs.NotedFound.{noted_found}
use Rattle.ng_link.proofs.Lookups.{changed_other, changed_here, inserted_here, inserted_other, kept_found, kept_gone}
use Rattle.ng_build.proofs.Paths.{begins_itself, begins_through, begins_either, not_begins, two_ways}
use Rattle.ng_instances.proofs.PathIs.{path_is}
use Rattle.ng_link.proofs.PathsBelow.{same_path, is_that, other_path, not_path, below_other, below_begins}
use Rattle.ng_link.proofs.Sorted.{insert_sorted, filter_sorted}

-- a path is that of one of some inner scopes
abbrev pub is_among : List ℕ → List Inner → Bool
is_among q is = list_any (λ (i : Inner). is_path q i.path) is

neither : (b c : Bool) → (b || c) ≡ false → (b ≡ false) × (c ≡ false)
neither true c e = absurd (cc)
neither false c e = (refl, e)

one_of : (b c : Bool) → (b || c) ≡ true → c ≡ false → b ≡ true
one_of true c e f = refl
one_of false c e f = absurd (let two : true ≡ false = sym e ∙ f in cc)

the_other : (b c : Bool) → c ≡ true → (b || c) ≡ true
the_other true c e = refl
the_other false c e = e

-- the inner scopes of an instance are noted
module _ (p : List ℕ) where
  pub inner_other : (is : List Inner) (t : Inners) (q : List ℕ) → is_among q is ≡ false → lookup (is_path q) (with_inner p is t) ≡ lookup (is_path q) t
  inner_other [] t q e = refl
  inner_other (i ∷ is) t q e =
      let two = neither (is_path q i.path) (is_among q is) e in
      let off : is_path i.path q ≡ false = other_path i.path q (λ same. not_path q i.path two.0 (sym same)) in
      inner_other is (insert_entry path_cmp t i.path p) q two.1
      ∙ (noted_found i.path p t q ∙ ap (λ (b : Bool). cond b (Some p) (lookup (is_path q) t)) off)

  pub inner_here : (is : List Inner) (t : Inners) (q : List ℕ) → is_among q is ≡ true → lookup (is_path q) (with_inner p is t) ≡ Some p
  inner_here [] t q e = absurd (cc)
  inner_here (i ∷ is) t q e = by_rest (is_among q is) refl (λ more. inner_here is (insert_entry path_cmp t i.path p) q more)
    where
      by_rest : (b : Bool) → is_among q is ≡ b → (is_among q is ≡ true → lookup (is_path q) (with_inner p is (insert_entry path_cmp t i.path p)) ≡ Some p) → lookup (is_path q) (with_inner p is (insert_entry path_cmp t i.path p)) ≡ Some p
      by_rest true more on = on more
      by_rest false none on =
          let here : is_path i.path q ≡ true = is_that i.path q (sym (path_is q i.path (one_of (is_path q i.path) (is_among q is) e none))) in
          inner_other is (insert_entry path_cmp t i.path p) q none
          ∙ (noted_found i.path p t q ∙ ap (λ (b : Bool). cond b (Some p) (lookup (is_path q) t)) here)

  pub inner_sorted : (is : List Inner) (t : Inners) → IsStrictlySortedBy path_cmp (map_keys t) → IsStrictlySortedBy path_cmp (map_keys (with_inner p is t))
  inner_sorted [] t o = o
  inner_sorted (i ∷ is) t o = inner_sorted is (insert_entry path_cmp t i.path p) (insert_sorted path_cmp path_cmp_total i.path p t o)

-- each is among them
all_among : (xs : List Inner) → AllByRecursion (λ (i : Inner). is_among i.path xs ≡ true) xs
all_among [] = tt
all_among (x ∷ xs) = (
  ap (λ (b : Bool). b || is_among x.path xs) (same_path x.path),
  all_weaker (λ (i : Inner). is_among i.path xs ≡ true) (λ (i : Inner). is_among i.path (x ∷ xs) ≡ true) (λ i e. the_other (is_path i.path x.path) (is_among i.path xs) e) xs (all_among xs),
)

among_below : (p q : List ℕ) (xs : List Inner) → AllByRecursion (λ (i : Inner). IsBelow p i.path) xs → is_among q xs ≡ true → IsBelow p q
among_below p q [] all e = absurd (cc)
among_below p q (x ∷ xs) all e = by_test (is_path q x.path) refl e (among_below p q xs all.1)
  where
    by_test : (b : Bool) → is_path q x.path ≡ b → (b || is_among q xs) ≡ true → (is_among q xs ≡ true → IsBelow p q) → IsBelow p q
    by_test true is f more = subst (IsBelow p) (sym (path_is q x.path is)) all.0
    by_test false is f more = more f

-- of a path that is none of theirs the instance is on it
pub path_alone : (inner : Inners) (q : List ℕ) → lookup (is_path q) inner ≡ None → instance_path inner q ≡ q
path_alone inner q none = ap (λ (o : Option (List ℕ)). unwrap_or o q) none

pub path_noted : (inner : Inners) (q c : List ℕ) → lookup (is_path q) inner ≡ Some c → instance_path inner q ≡ c
path_noted inner q c at = ap (λ (o : Option (List ℕ)). unwrap_or o q) at

-- the keys of an instance
pub keys_case : (P : Key → Type 0) (p : Page) → ((s : ℕ) → P (key_in p s)) → P (key_on [] 0) → (n : ℕ) → P (keys_of p n)
keys_case P p each none n = from_list p.serials n
  where
    from_list : (ss : List ℕ) (i : ℕ) → P (slice_index_or (map (key_in p) ss) i (key_on [] 0))
    from_list [] i = none
    from_list (s ∷ ss) zero = each s
    from_list (s ∷ ss) (suc i) = from_list ss i

pub keys_at : (p : Page) (i s : ℕ) → slice_get p.serials i ≡ Some s → keys_of p i ≡ key_in p s
keys_at p i s at = from_list p.serials i at
  where
    from_list : (ss : List ℕ) (j : ℕ) → slice_get ss j ≡ Some s → slice_index_or (map (key_in p) ss) j (key_on [] 0) ≡ key_in p s
    from_list [] j e = absurd (cc)
    from_list (t ∷ ss) zero e = let same : t ≡ s = cc in ap (key_in p) same
    from_list (t ∷ ss) (suc j) e = from_list ss j e

index_all : (P : Inner → Type 0) (i : Inner) (n : ℕ) (is : List Inner) → P i → AllByRecursion P is → P (slice_index_or is n i)
index_all P i n [] one all = one
index_all P i zero (x ∷ xs) one all = all.0
index_all P i (suc n) (x ∷ xs) one all = index_all P i n xs one all.1

pub inner_all : (P : Inner → Type 0) (i : Inner) (n : ℕ) (is : List Inner) → P i → AllByRecursion P is → P (inner_or i n is)
inner_all P i zero is one all = one
inner_all P i (suc n) is one all = index_all P i n is one all

-- each scope of an instance leads to it, and so does the key of each of its sites
module _ (inner : Inners) (is : Instances) (g : AreInner inner is) (path : List ℕ) (l : Linked) (at : linked_at path is ≡ Some l) (own : l.page.path ≡ path) where
  pub scope_leads : (n : ℕ) → instance_path inner (scope_path l.page n) ≡ path
  scope_leads n =
      inner_all (λ (i : Inner). instance_path inner i.path ≡ path) (record { scope = l.page.scope; path = l.page.path }) n l.page.inner
      (ap (instance_path inner) own ∙ g.apart path (is_some_of (linked_at path is) l at)) (g.noted path l at)

  pub key_leads : (s : ℕ) → instance_path inner (key_in l.page s).path ≡ path
  key_leads s = scope_leads (mark_in l.page.marks s).under

-- the outlets of an instance change
module _ (holder : List ℕ) (f : List OutletState → List OutletState) (is : Instances) where
  abbrev then_changed : Instances
  then_changed = outlets_changed holder f is

  changed_at : (q : List ℕ) → is_path q holder ≡ true → linked_at q then_changed ≡ option_map (with_outlets f) (linked_at q is)
  changed_at q e =
      let here : q ≡ holder = path_is q holder e in
      ap (λ (r : List ℕ). linked_at r then_changed) here ∙ (changed_here holder f is ∙ ap (λ (r : List ℕ). option_map (with_outlets f) (linked_at r is)) (sym here))

  seen_with : (o : Option Linked) (l : Linked) → option_map (with_outlets f) o ≡ Some l → (m : Linked) × ((o ≡ Some m) × (l.page.inner ≡ m.page.inner))
  seen_with None l e = absurd (cc)
  seen_with (Some m) l e = (m, (refl, let same : with_outlets f m ≡ l = cc in ap (λ (k : Linked). k.page.inner) (sym same)))

  pub was_linked : (q : List ℕ) (l : Linked) → linked_at q then_changed ≡ Some l → (m : Linked) × ((linked_at q is ≡ Some m) × (l.page.inner ≡ m.page.inner))
  was_linked q l at = by_holder (is_path q holder) refl
    where
      by_holder : (b : Bool) → is_path q holder ≡ b → (m : Linked) × ((linked_at q is ≡ Some m) × (l.page.inner ≡ m.page.inner))
      by_holder true e = seen_with (linked_at q is) l (sym (changed_at q e) ∙ at)
      by_holder false e = (l, (sym (changed_other holder f is q e) ∙ at, refl))

  pub still_linked : (q : List ℕ) (m : Linked) → linked_at q is ≡ Some m → (l : Linked) × ((linked_at q then_changed ≡ Some l) × (l.page.inner ≡ m.page.inner))
  still_linked q m at = by_holder (is_path q holder) refl
    where
      by_holder : (b : Bool) → is_path q holder ≡ b → (l : Linked) × ((linked_at q then_changed ≡ Some l) × (l.page.inner ≡ m.page.inner))
      by_holder true e = (with_outlets f m, (changed_at q e ∙ ap (option_map (with_outlets f)) at, refl))
      by_holder false e = (m, (changed_other holder f is q e ∙ at, refl))

  some_with : (o : Option Linked) → IsSome (option_map (with_outlets f) o) → IsSome o
  some_with None e = absurd (cc)
  some_with (Some m) e = refl

  pub was_there : (q : List ℕ) → IsSome (linked_at q then_changed) → IsSome (linked_at q is)
  was_there q some = by_holder (is_path q holder) refl
    where
      by_holder : (b : Bool) → is_path q holder ≡ b → IsSome (linked_at q is)
      by_holder true e = some_with (linked_at q is) (subst (λ (o : Option Linked). IsSome o) (changed_at q e) some)
      by_holder false e = subst (λ (o : Option Linked). IsSome o) (changed_other holder f is q e) some

  pub changed_inner : (inner : Inners) → AreInner inner is → AreInner inner then_changed
  changed_inner inner g = record {
    ordered = g.ordered;
    leads = λ q path at.
        let to = g.leads q path at in
        let there = still_linked path to.there.0 to.there.1.0 in
        record { there = (there.0, (there.1.0, subst (λ (xs : List Inner). is_among q xs ≡ true) (sym there.1.1) to.there.1.1)); below = to.below };
    noted = λ path l at.
        let was = was_linked path l at in
        subst (λ (xs : List Inner). AllByRecursion (λ (i : Inner). instance_path inner i.path ≡ path) xs) (sym was.1.1) (g.noted path was.0 was.1.0);
    apart = λ path some. g.apart path (was_there path some);
    nearest = λ q path some b. g.nearest q path (was_there path some) b;
  }

-- all below the path of an instance goes
module _ (p : List ℕ) (inner : Inners) (is : Instances) (g : AreInner inner is) (there : IsSome (linked_at p is)) where
  -- the instance that has a scope goes where the scope does
  pub on_stays : (q : List ℕ) → begins p q ≡ false → begins p (instance_path inner q) ≡ false
  on_stays q off = by_found (lookup (is_path q) inner) refl
    where
      by_found : (o : Option (List ℕ)) → lookup (is_path q) inner ≡ o → begins p (instance_path inner q) ≡ false
      by_found None e = ap (begins p) (path_alone inner q e) ∙ off
      by_found (Some c) e =
          let is_c : instance_path inner q ≡ c = path_noted inner q c e in
          ap (begins p) is_c ∙ not_begins p c (λ on. two_ways (begins p q) (begins_through p c q on (below_begins c q (g.leads q c e).below)) off)

  -- where an instance stays, so does each of its scopes
  pub stays_off : (q path : List ℕ) → instance_path inner q ≡ path → begins p path ≡ false → begins p q ≡ false
  stays_off q path leads off = not_begins p q (λ on. two_ways (begins p path) (ap (begins p) (sym leads) ∙ g.nearest q p there on) off)

  pub left_found : (q : List ℕ) → begins p q ≡ false → lookup (is_path q) (inner_without p inner) ≡ lookup (is_path q) inner
  left_found q off =
      lookup-filter-keys (is_path q) (λ (r : List ℕ). not (begins p r)) (not (begins p q)) (λ r same. ap (λ (s : List ℕ). not (begins p s)) (sym (path_is q r same))) inner
      ∙ ap (λ (b : Bool). cond (not b) (lookup (is_path q) inner) None) off

  pub left_gone : (q : List ℕ) → begins p q ≡ true → lookup (is_path q) (inner_without p inner) ≡ None
  left_gone q on =
      lookup-filter-keys (is_path q) (λ (r : List ℕ). not (begins p r)) (not (begins p q)) (λ r same. ap (λ (s : List ℕ). not (begins p s)) (sym (path_is q r same))) inner
      ∙ ap (λ (b : Bool). cond (not b) (lookup (is_path q) inner) None) on

  pub left_path : (q : List ℕ) → begins p q ≡ false → instance_path (inner_without p inner) q ≡ instance_path inner q
  left_path q off = ap (λ (o : Option (List ℕ)). unwrap_or o q) (left_found q off)

  abbrev rest : Instances
  rest = without_below p is

  -- what is left is linked as before
  rest_found : (q : List ℕ) → begins p q ≡ false → linked_at q rest ≡ linked_at q is
  rest_found q off = kept_found (λ (r : List ℕ). not (begins p r)) is q (ap not off)

  rest_stays : (q : List ℕ) → IsSome (linked_at q rest) → begins p q ≡ false
  rest_stays q some = not_begins p q (λ on. no_some (linked_at q rest) (kept_gone (λ (r : List ℕ). not (begins p r)) is q (ap not on)) some)

  rest_there : (q : List ℕ) → IsSome (linked_at q rest) → IsSome (linked_at q is)
  rest_there q some = subst (λ (o : Option Linked). IsSome o) (rest_found q (rest_stays q some)) some

  pub cut_inner : AreInner (inner_without p inner) rest
  cut_inner = record {
    ordered = filter_sorted path_cmp path_cmp_total (λ e. not (begins p e.0)) inner g.ordered;
    leads = leads;
    noted = λ path l at.
        let off = rest_stays path (is_some_of (linked_at path rest) l at) in
        all_weaker (λ (i : Inner). instance_path inner i.path ≡ path) (λ (i : Inner). instance_path (inner_without p inner) i.path ≡ path)
        (λ i e. left_path i.path (stays_off i.path path e off) ∙ e) l.page.inner (g.noted path l (sym (rest_found path off) ∙ at));
    apart = λ path some. left_path path (rest_stays path some) ∙ g.apart path (rest_there path some);
    nearest = nearest;
  }
    where
      leads : (q path : List ℕ) → lookup (is_path q) (inner_without p inner) ≡ Some path → LeadsTo rest q path
      leads q path at = by_test (begins p q) refl
        where
          by_test : (b : Bool) → begins p q ≡ b → LeadsTo rest q path
          by_test true on = absurd (let two : None ≡ Some path = sym (left_gone q on) ∙ at in cc)
          by_test false off =
              let to = g.leads q path (sym (left_found q off) ∙ at) in
              let stays : begins p path ≡ false = not_begins p path (λ on. two_ways (begins p q) (begins_through p path q on (below_begins path q to.below)) off) in
              record { there = (to.there.0, (rest_found path stays ∙ to.there.1.0, to.there.1.1)); below = to.below }

      nearest : (q path : List ℕ) → IsSome (linked_at path rest) → begins path q ≡ true → begins path (instance_path (inner_without p inner) q) ≡ true
      nearest q path some b = by_test (begins p q) refl
        where
          by_test : (c : Bool) → begins p q ≡ c → begins path (instance_path (inner_without p inner) q) ≡ true
          by_test true on = ap (begins path) (path_alone (inner_without p inner) q (left_gone q on)) ∙ b
          by_test false off = ap (begins path) (left_path q off) ∙ g.nearest q path (rest_there path some) b

-- an instance comes, whose path begins none that is used
module _ (p : List ℕ) (l : Linked) (inner : Inners) (is : Instances) (g : AreInner inner is) (free : (q : List ℕ) → begins p q ≡ true → linked_at q is ≡ None)
    (unused : (q : List ℕ) → begins p q ≡ true → lookup (is_path q) inner ≡ None) (below : AllByRecursion (λ (i : Inner). IsBelow p i.path) l.page.inner) where
  abbrev then_inner : Inners
  then_inner = with_inner p l.page.inner inner

  abbrev come : Instances
  come = with_instance p l is

  -- at a path that doesn't begin with it all is as before
  not_among : (q : List ℕ) → begins p q ≡ false → is_among q l.page.inner ≡ false
  not_among q off = by_test (is_among q l.page.inner) refl
    where
      by_test : (b : Bool) → is_among q l.page.inner ≡ b → b ≡ false
      by_test true e = two_ways (begins p q) (below_begins p q (among_below p q l.page.inner below e)) off
      by_test false e = refl

  pub other_found : (q : List ℕ) → begins p q ≡ false → lookup (is_path q) then_inner ≡ lookup (is_path q) inner
  other_found q off = inner_other p l.page.inner inner q (not_among q off)

  pub other_leads : (q : List ℕ) → begins p q ≡ false → instance_path then_inner q ≡ instance_path inner q
  other_leads q off = ap (λ (o : Option (List ℕ)). unwrap_or o q) (other_found q off)

  -- one that does is the instance's own, that of an inner scope, or unknown
  among_leads : (q : List ℕ) → is_among q l.page.inner ≡ true → instance_path then_inner q ≡ p
  among_leads q e = path_noted then_inner q p (inner_here p l.page.inner inner q e)

  alone_leads : (q : List ℕ) → begins p q ≡ true → is_among q l.page.inner ≡ false → instance_path then_inner q ≡ q
  alone_leads q on e = path_alone then_inner q (inner_other p l.page.inner inner q e ∙ unused q on)

  own_leads : instance_path then_inner p ≡ p
  own_leads = alone_leads p (begins_itself p) (by_test (is_among p l.page.inner) refl)
    where
      by_test : (b : Bool) → is_among p l.page.inner ≡ b → b ≡ false
      by_test true e = absurd (below_other p p (among_below p p l.page.inner below e) refl)
      by_test false e = refl

  come_other : (q : List ℕ) → is_path q p ≡ false → linked_at q come ≡ linked_at q is
  come_other q off = inserted_other p l is q off

  come_there : (q : List ℕ) → is_path q p ≡ false → IsSome (linked_at q come) → IsSome (linked_at q is)
  come_there q off some = subst (λ (o : Option Linked). IsSome o) (come_other q off) some

  -- what was linked begins not with its path
  was_off : (q : List ℕ) → IsSome (linked_at q is) → begins p q ≡ false
  was_off q some = not_begins p q (λ on. no_some (linked_at q is) (free q on) some)

  pub come_inner : AreInner then_inner come
  come_inner = record {
    ordered = inner_sorted p l.page.inner inner g.ordered;
    leads = leads;
    noted = noted;
    apart = apart;
    nearest = nearest;
  }
    where
      leads : (q path : List ℕ) → lookup (is_path q) then_inner ≡ Some path → LeadsTo come q path
      leads q path at = by_among (is_among q l.page.inner) refl
        where
          by_among : (b : Bool) → is_among q l.page.inner ≡ b → LeadsTo come q path
          by_among true e =
              let two : Some p ≡ Some path = sym (inner_here p l.page.inner inner q e) ∙ at in
              let here : p ≡ path = cc in
              subst (λ (r : List ℕ). LeadsTo come q r) here (record { there = (l, (inserted_here p l is, e)); below = among_below p q l.page.inner below e })
          by_among false e =
              let to = g.leads q path (sym (inner_other p l.page.inner inner q e) ∙ at) in
              let off : is_path path p ≡ false = other_path path p (λ same. no_some (linked_at path is) (ap (λ (r : List ℕ). linked_at r is) same ∙ free p (begins_itself p)) (is_some_of (linked_at path is) to.there.0 to.there.1.0)) in
              record { there = (to.there.0, (come_other path off ∙ to.there.1.0, to.there.1.1)); below = to.below }

      noted : (path : List ℕ) (m : Linked) → linked_at path come ≡ Some m → AllByRecursion (λ (i : Inner). instance_path then_inner i.path ≡ path) m.page.inner
      noted path m at = by_path (is_path path p) refl
        where
          by_path : (b : Bool) → is_path path p ≡ b → AllByRecursion (λ (i : Inner). instance_path then_inner i.path ≡ path) m.page.inner
          by_path true e =
              let here : path ≡ p = path_is path p e in
              let two : Some l ≡ Some m = sym (inserted_here p l is) ∙ (ap (λ (r : List ℕ). linked_at r come) (sym here) ∙ at) in
              let one : l ≡ m = cc in
              subst (λ (k : Linked). AllByRecursion (λ (i : Inner). instance_path then_inner i.path ≡ path) k.page.inner) one
              (all_weaker (λ (i : Inner). is_among i.path l.page.inner ≡ true) (λ (i : Inner). instance_path then_inner i.path ≡ path) (λ i among. among_leads i.path among ∙ sym here) l.page.inner (all_among l.page.inner))
          by_path false e =
              let was : linked_at path is ≡ Some m = sym (come_other path e) ∙ at in
              let some : IsSome (linked_at path is) = is_some_of (linked_at path is) m was in
              all_weaker (λ (i : Inner). instance_path inner i.path ≡ path) (λ (i : Inner). instance_path then_inner i.path ≡ path)
              (λ i to. other_leads i.path (not_begins p i.path (λ on. two_ways (begins p path) (ap (begins p) (sym (sym (path_alone inner i.path (unused i.path on)) ∙ to)) ∙ on) (was_off path some))) ∙ to)
              m.page.inner (g.noted path m was)

      apart : (path : List ℕ) → IsSome (linked_at path come) → instance_path then_inner path ≡ path
      apart path some = by_path (is_path path p) refl
        where
          by_path : (b : Bool) → is_path path p ≡ b → instance_path then_inner path ≡ path
          by_path true e = let here : path ≡ p = path_is path p e in subst (λ (r : List ℕ). instance_path then_inner r ≡ r) (sym here) own_leads
          by_path false e = let was = come_there path e some in other_leads path (was_off path was) ∙ g.apart path was

      nearest : (q path : List ℕ) → IsSome (linked_at path come) → begins path q ≡ true → begins path (instance_path then_inner q) ≡ true
      nearest q path some b = by_path (is_path path p) refl (is_among q l.page.inner) refl
        where
          through : is_path path p ≡ false → is_among q l.page.inner ≡ true → begins path p ≡ true
          through off among = by_either (begins_either path p q b (below_begins p q (among_below p q l.page.inner below among)))
            where
              by_either : (begins path p ≡ true) ⊎ (begins p path ≡ true) → begins path p ≡ true
              by_either (inl on) = on
              by_either (inr on) = two_ways (begins p path) on (was_off path (come_there path off some))

          by_path : (t : Bool) → is_path path p ≡ t → (u : Bool) → is_among q l.page.inner ≡ u → begins path (instance_path then_inner q) ≡ true
          by_path true e true among = ap (begins path) (among_leads q among) ∙ (ap (λ (r : List ℕ). begins r p) (path_is path p e) ∙ begins_itself p)
          by_path true e false among = ap (begins path) (alone_leads q (ap (λ (r : List ℕ). begins r q) (sym (path_is path p e)) ∙ b) among) ∙ b
          by_path false e true among = ap (begins path) (among_leads q among) ∙ through e among
          by_path false e false among =
              ap (begins path) (ap (λ (o : Option (List ℕ)). unwrap_or o q) (inner_other p l.page.inner inner q among)) ∙ g.nearest q path (come_there path e some) b
