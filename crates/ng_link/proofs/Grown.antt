-- The table of instances where one comes as a body of another.
use Rattle.std.proofs.Common.{◌≡◌, ◌⊎◌, inl, inr, ◌+◌, ◌<◌, ◌≤◌, ℕ, zero, suc, Bool, true, false, cond, List, [], ◌∷◌, Option, Some, None, refl, ap, ◌∙◌, sym, subst, slice_get, arith}
use Rattle.std.specs.Prelude.{IsSome, option_map}
use Rattle.std.specs.List.{AllByRecursion}
use Rattle.std.specs.List.Sorted.{IsStrictlySortedBy}
use Rattle.std.specs.Map.{keys_of as map_keys}
use Rattle.std.specs.declared.cmp.Ordering.TheVariants.{Less}
use Rattle.std.proofs.lemmas.Map.Keys.{sorted_head, sorted_tail}
use Rattle.ng_base.specs.Order.{path_cmp, path_cmp_total}
use Rattle.ng_base.specs.declared.path.Key.{Key}
use Rattle.ng_build.specs.Building.{AllAt}
use Rattle.ng_drawing.specs.Roles.{Role}
use Rattle.ng_instances.specs.Instances.{Body, OutletState, Linked, Instances, is_path, linked_at, keys_of, with_outlets, outlets_changed, body_added, with_instance}
use Rattle.ng_build.specs.Shape.{holes}
use Rattle.ng_link.specs.Standing.{IsBelow, IsPlaced, ArePlaced, Apart, AreApart, IsHeldIn, AreHeld, held_count}
use Rattle.ng_behaviour.specs.Keys.{begins}
use Rattle.ng_link.proofs.BodiesAt.{added_anchors, added_undrawn, added_in, added_count, added_more, added_there}
use Rattle.ng_link.proofs.Lookups.{changed_keys, changed_other, changed_here, changed_all, changed_apart, inserted_here, inserted_other, inserted_all, inserted_apart}
use Rattle.ng_build.proofs.Paths.{two_ways}
use Rattle.ng_instances.proofs.PathIs.{path_is}
use Rattle.ng_link.proofs.PathsBelow.{same_path, other_path, less_other, below_other}
use Rattle.ng_link.proofs.ReadOff.{at_path}
use Rattle.ng_link.proofs.Sorted.{insert_sorted}

pub all_weaker : {X : Type 0} (P Q : X → Type 0) → ((x : X) → P x → Q x) → (xs : List X) → AllByRecursion P xs → AllByRecursion Q xs
all_weaker P Q h [] all = tt
all_weaker P Q h (x ∷ xs) all = (h x all.0, all_weaker P Q h xs all.1)

pub all_both : {X : Type 0} (P Q : X → Type 0) → (xs : List X) → AllByRecursion P xs → AllByRecursion Q xs → AllByRecursion (λ (x : X). P x × Q x) xs
all_both P Q [] all more = tt
all_both P Q (x ∷ xs) all more = ((all.0, more.0), all_both P Q xs all.1 more.1)

-- each entry is found under its key
found_past : (e : List ℕ × Linked) (is : Instances) → AllByRecursion (λ (y : List ℕ). path_cmp e.0 y ≡ Less) (map_keys is) → (es : Instances) → AllByRecursion (λ (x : List ℕ × Linked). linked_at x.0 es ≡ Some x.1) is
    → AllByRecursion (λ (x : List ℕ × Linked). linked_at x.0 (e ∷ es) ≡ Some x.1) is
found_past e [] less es all = tt
found_past e (x ∷ xs) less es all = (
  ap (λ (b : Bool). cond b (Some e.1) (linked_at x.0 es)) (other_path x.0 e.0 (λ same. less_other e.0 x.0 less.0 (sym same))) ∙ all.0,
  found_past e xs less.1 es all.1,
)

pub each_found : (is : Instances) → IsStrictlySortedBy path_cmp (map_keys is) → AllByRecursion (λ (x : List ℕ × Linked). linked_at x.0 is ≡ Some x.1) is
each_found [] ordered = tt
each_found (e ∷ es) ordered = (
  ap (λ (b : Bool). cond b (Some e.1) (linked_at e.0 es)) (same_path e.0),
  found_past e es (sorted_head path_cmp e.0 (map_keys es) ordered) es (each_found es (sorted_tail path_cmp e.0 (map_keys es) ordered)),
)

-- sites of other instances are where they were
pub still_at : (site same : Key → Option ℕ) (keys : ℕ → Key) → ((n x : ℕ) → site (keys n) ≡ Some x → same (keys n) ≡ Some x) → (n : ℕ) (xs : List ℕ) → AllAt site keys n xs → AllAt same keys n xs
still_at site same keys h n [] at = tt
still_at site same keys h n (x ∷ xs) at = (h n x at.0, still_at site same keys h (n + 1) xs at.1)

pub still_placed : (places same : Key → Option ℕ) (next end : ℕ) (p : List ℕ) (l : Linked) → ((n x : ℕ) → places (keys_of l.page n) ≡ Some x → same (keys_of l.page n) ≡ Some x) → next ≤ end
    → IsPlaced places next p l → IsPlaced same end p l
still_placed places same next end p l h le placed = record {
  path = placed.path;
  numbered = placed.numbered;
  outlets = placed.outlets;
  count = placed.count;
  sites = still_at places same (keys_of l.page) h 0 (holes l.page.node l.fragment.parts) placed.sites;
  anchors = placed.anchors;
  rising = placed.rising;
  marked = placed.marked;
  undrawn = placed.undrawn;
  unbound = placed.unbound;
  bodies = placed.bodies;
  once = placed.once;
  end = let first = placed.end in omega (arith, first, le);
}

-- what is linked and unlinked at once
both_ways : {A : Type 0} (o : Option A) (x : A) → o ≡ None → o ≡ Some x → ⊥
both_ways None x e f = cc
both_ways (Some y) x e f = cc

pub no_some : {A : Type 0} (o : Option A) → o ≡ None → IsSome o → ⊥
no_some None e h = cc
no_some (Some x) e h = cc

pub is_some_of : {A : Type 0} (o : Option A) (x : A) → o ≡ Some x → IsSome o
is_some_of None x e = absurd (cc)
is_some_of (Some y) x e = refl

-- no instance holds a body on a path where nothing is linked
pub none_holds : (p : List ℕ) (is : Instances) → IsStrictlySortedBy path_cmp (map_keys is) → AreHeld is → linked_at p is ≡ None → AllByRecursion (λ (x : List ℕ × Linked). held_count p x.1.page.outlets ≡ 0) is
none_holds p is ordered held free =
    all_weaker (λ (x : List ℕ × Linked). linked_at x.0 is ≡ Some x.1) (λ (x : List ℕ × Linked). held_count p x.1.page.outlets ≡ 0)
    (λ x at. by_count x at (held_count p x.1.page.outlets) refl) is (each_found is ordered)
  where
    by_count : (x : List ℕ × Linked) → linked_at x.0 is ≡ Some x.1 → (c : ℕ) → held_count p x.1.page.outlets ≡ c → held_count p x.1.page.outlets ≡ 0
    by_count x at zero e = e
    by_count x at (suc c) e = absurd (no_some (linked_at p is) free (held.linked x.0 p (x.1, at, omega (arith, e))))

module _ (holder path : List ℕ) (below : IsBelow holder path) (o i : ℕ) (role : Role) (m : Linked) (x : OutletState) (l : Linked) (is : Instances)
    (ordered : IsStrictlySortedBy path_cmp (map_keys is)) (held : AreHeld is) (found : linked_at holder is ≡ Some m) (at : slice_get m.page.outlets o ≡ Some x)
    (free : linked_at path is ≡ None) where
  abbrev pub body : Body
  body = record { path = path; role = role }

  abbrev pub more : List OutletState → List OutletState
  more os = body_added o i body os

  abbrev pub come : Instances
  come = with_instance path l is

  abbrev pub grown : Instances
  grown = outlets_changed holder more come

  off_holder : is_path holder path ≡ false
  off_holder = other_path holder path (below_other holder path below)

  off_path : is_path path holder ≡ false
  off_path = other_path path holder (λ e. below_other holder path below (sym e))

  pub come_holder : linked_at holder come ≡ Some m
  come_holder = inserted_other path l is holder off_holder ∙ found

  pub grown_holder : linked_at holder grown ≡ Some (with_outlets more m)
  grown_holder = changed_here holder more come ∙ ap (option_map (with_outlets more)) come_holder

  pub grown_new : linked_at path grown ≡ Some l
  grown_new = changed_other holder more come path off_path ∙ inserted_here path l is

  pub grown_other : (q : List ℕ) → is_path q holder ≡ false → is_path q path ≡ false → linked_at q grown ≡ linked_at q is
  grown_other q off away = changed_other holder more come q off ∙ inserted_other path l is q away

  pub come_ordered : IsStrictlySortedBy path_cmp (map_keys come)
  come_ordered = insert_sorted path_cmp path_cmp_total path l is ordered

  pub grown_ordered : IsStrictlySortedBy path_cmp (map_keys grown)
  grown_ordered = subst (λ (ks : List (List ℕ)). IsStrictlySortedBy path_cmp ks) (sym (changed_keys holder more come)) come_ordered

  pub none_has : AllByRecursion (λ (y : List ℕ × Linked). held_count path y.1.page.outlets ≡ 0) is
  none_has = none_holds path is ordered held free

  pub holder_free : held_count path m.page.outlets ≡ 0
  holder_free = at_path (λ (y : List ℕ × Linked). held_count path y.1.page.outlets ≡ 0) holder m is none_has found

  -- they are placed
  module _ (places same : Key → Option ℕ) (next end : ℕ) (each : ArePlaced places next is) (old : (k : Key) (y : ℕ) → places k ≡ Some y → same k ≡ Some y) (le : next ≤ end) (placed : IsPlaced same end path l) where
    still : ArePlaced same end is
    still =
        all_weaker (λ (y : List ℕ × Linked). IsPlaced places next y.0 y.1) (λ (y : List ℕ × Linked). IsPlaced same end y.0 y.1)
        (λ y h. still_placed places same next end y.0 y.1 (λ n z e. old (keys_of y.1.page n) z e) le h) is each

    pub come_placed : ArePlaced same end come
    come_placed = inserted_all path l (λ (y : List ℕ × Linked). IsPlaced same end y.0 y.1) is placed still

    one_at_most : (k : Linked) → held_count path k.page.outlets ≡ 0 → ((q : List ℕ) → held_count q k.page.outlets ≤ 1) → (q : List ℕ) → held_count q (more k.page.outlets) ≤ 1
    one_at_most k none once q = by_test (is_path q path) refl
      where
        count : held_count q (more k.page.outlets) ≤ held_count q k.page.outlets + cond {A = ℕ} (is_path q path) 1 0
        count = added_count q body k.page.outlets o i

        by_test : (b : Bool) → is_path q path ≡ b → held_count q (more k.page.outlets) ≤ 1
        by_test true is =
            let one : cond {A = ℕ} (is_path q path) 1 0 ≡ 1 = ap (λ (b : Bool). cond {A = ℕ} b 1 0) is in
            let none_here : held_count q k.page.outlets ≡ 0 = ap (λ (r : List ℕ). held_count r k.page.outlets) (path_is q path is) ∙ none in
            omega (arith, count, one, none_here)
        by_test false is =
            let off : cond {A = ℕ} (is_path q path) 1 0 ≡ 0 = ap (λ (b : Bool). cond {A = ℕ} b 1 0) is in
            let few = once q in
            omega (arith, count, off, few)

    pub grown_placed : ArePlaced same end grown
    grown_placed =
        changed_all holder more (λ (y : List ℕ × Linked). IsPlaced same end y.0 y.1) come
        (λ k there p.
        let that : k ≡ m = let two : Some k ≡ Some m = sym there ∙ come_holder in cc in
        let none : held_count path k.page.outlets ≡ 0 = ap (λ (j : Linked). held_count path j.page.outlets) that ∙ holder_free in
        record {
          path = p.path;
          numbered = p.numbered;
          outlets = p.outlets;
          count = p.count;
          sites = p.sites;
          anchors = added_anchors body k.page.outlets o i ∙ p.anchors;
          rising = p.rising;
          marked = p.marked;
          undrawn = added_undrawn k.page.serials k.fragment.parts body k.page.outlets o i p.undrawn;
          unbound = p.unbound;
          bodies = added_in holder body below k.page.outlets o i p.bodies;
          once = one_at_most k none p.once;
          end = p.end;
        })
        come_placed

  -- they have no node in common
  pub grown_apart : AllByRecursion (λ (y : List ℕ × Linked). Apart l y.1) is → AreApart is → AreApart grown
  grown_apart one all = changed_apart holder more come (inserted_apart path l is one all)

  pub come_apart : AllByRecursion (λ (y : List ℕ × Linked). Apart l y.1) is → AreApart is → AreApart come
  come_apart one all = inserted_apart path l is one all

  -- bodies are linked, and what is linked is a body
  still_some : (q : List ℕ) → IsSome (linked_at q is) → IsSome (linked_at q grown)
  still_some q some = by_holder (is_path q holder) refl
    where
      apart : is_path q path ≡ false
      apart = other_path q path (λ e. no_some (linked_at path is) free (subst (λ (r : List ℕ). IsSome (linked_at r is)) e some))

      by_holder : (b : Bool) → is_path q holder ≡ b → IsSome (linked_at q grown)
      by_holder true is_it = is_some_of (linked_at q grown) (with_outlets more m) (ap (λ (r : List ℕ). linked_at r grown) (path_is q holder is_it) ∙ grown_holder)
      by_holder false off = subst (λ (r : Option Linked). IsSome r) (sym (grown_other q off apart)) some

  module _ (empty : (q : List ℕ) → held_count q l.page.outlets ≡ 0) where
    grown_linked : (h q : List ℕ) → IsHeldIn h q grown → IsSome (linked_at q grown)
    grown_linked h q given = by_holder (is_path h holder) refl
      where
        old_body : (k : Linked) → linked_at h is ≡ Some k → 0 < held_count q k.page.outlets → IsSome (linked_at q grown)
        old_body k there lt = still_some q (held.linked h q (k, there, lt))

        in_holder : (b : Bool) → is_path q path ≡ b → h ≡ holder → 0 < held_count q (more m.page.outlets) → IsSome (linked_at q grown)
        in_holder true is_it that lt = is_some_of (linked_at q grown) l (ap (λ (r : List ℕ). linked_at r grown) (path_is q path is_it) ∙ grown_new)
        in_holder false off that lt =
            let count = added_count q body m.page.outlets o i in
            let none : cond {A = ℕ} (is_path q path) 1 0 ≡ 0 = ap (λ (b : Bool). cond {A = ℕ} b 1 0) off in
            old_body m (ap (λ (r : List ℕ). linked_at r is) that ∙ found) (omega (arith, count, none, lt))

        by_path : (b : Bool) → is_path h path ≡ b → is_path h holder ≡ false → IsSome (linked_at q grown)
        by_path true is_it off =
            let two : Some given.0 ≡ Some l = sym given.1 ∙ (ap (λ (r : List ℕ). linked_at r grown) (path_is h path is_it) ∙ grown_new) in
            let that : given.0 ≡ l = cc in
            let none : held_count q given.0.page.outlets ≡ 0 = ap (λ (k : Linked). held_count q k.page.outlets) that ∙ empty q in
            let lt = given.2 in
            absurd (omega (arith, none, lt))
        by_path false away off = old_body given.0 (sym (grown_other h off away) ∙ given.1) given.2

        by_holder : (b : Bool) → is_path h holder ≡ b → IsSome (linked_at q grown)
        by_holder true is_it =
            let two : Some given.0 ≡ Some (with_outlets more m) = sym given.1 ∙ (ap (λ (r : List ℕ). linked_at r grown) (path_is h holder is_it) ∙ grown_holder) in
            let that : given.0 ≡ with_outlets more m = cc in
            in_holder (is_path q path) refl (path_is h holder is_it) (subst (λ (k : Linked). 0 < held_count q k.page.outlets) that given.2)
        by_holder false off = by_path (is_path h path) refl off

    abbrev HasHolder : List ℕ → Type 0
    HasHolder q = (h : List ℕ) × IsHeldIn h q grown

    grown_has : (q : List ℕ) → IsSome (linked_at q grown) → (q ≡ []) ⊎ HasHolder q
    grown_has q some = by_path (is_path q path) refl
      where
        old_holder : (q ≡ []) ⊎ ((h : List ℕ) × IsHeldIn h q is) → (q ≡ []) ⊎ HasHolder q
        old_holder (inl top) = inl top
        old_holder (inr given) = by_holder (is_path given.0 holder) refl
          where
            by_holder : (b : Bool) → is_path given.0 holder ≡ b → (q ≡ []) ⊎ HasHolder q
            by_holder true is_it =
                let two : Some given.1.0 ≡ Some m = sym given.1.1 ∙ (ap (λ (r : List ℕ). linked_at r is) (path_is given.0 holder is_it) ∙ found) in
                let that : given.1.0 ≡ m = cc in
                let count = added_more q body m.page.outlets o i in
                let lt : 0 < held_count q m.page.outlets = subst (λ (k : Linked). 0 < held_count q k.page.outlets) that given.1.2 in
                inr (holder, (with_outlets more m, grown_holder, omega (arith, count, lt)))
            by_holder false off =
                let away : is_path given.0 path ≡ false = other_path given.0 path (λ e. both_ways (linked_at path is) given.1.0 free (ap (λ (r : List ℕ). linked_at r is) (sym e) ∙ given.1.1)) in
                inr (given.0, (given.1.0, grown_other given.0 off away ∙ given.1.1, given.1.2))

        old_some : (b : Bool) → is_path q holder ≡ b → is_path q path ≡ false → IsSome (linked_at q is)
        old_some true is_it away = is_some_of (linked_at q is) m (ap (λ (r : List ℕ). linked_at r is) (path_is q holder is_it) ∙ found)
        old_some false off away = subst (λ (r : Option Linked). IsSome r) (grown_other q off away) some

        by_path : (b : Bool) → is_path q path ≡ b → (q ≡ []) ⊎ HasHolder q
        by_path true is_it =
            let lt = added_there body m.page.outlets o i x at in
            inr (holder, (with_outlets more m, grown_holder, subst (λ (r : List ℕ). 0 < held_count r (more m.page.outlets)) (sym (path_is q path is_it)) lt))
        by_path false away = old_holder (held.held q (old_some (is_path q holder) refl away))

    -- no instance stands between
    was_held : (h q : List ℕ) → is_path q path ≡ false → IsHeldIn h q grown → IsHeldIn h q is
    was_held h q off given = by_holder (is_path h holder) refl
      where
        by_path : (b : Bool) → is_path h path ≡ b → is_path h holder ≡ false → IsHeldIn h q is
        by_path true is_it away =
            let two : Some given.0 ≡ Some l = sym given.1 ∙ (ap (λ (r : List ℕ). linked_at r grown) (path_is h path is_it) ∙ grown_new) in
            let that : given.0 ≡ l = cc in
            let none : held_count q given.0.page.outlets ≡ 0 = ap (λ (k : Linked). held_count q k.page.outlets) that ∙ empty q in
            let lt = given.2 in
            absurd (omega (arith, none, lt))
        by_path false not_it away = (given.0, sym (grown_other h away not_it) ∙ given.1, given.2)

        by_holder : (b : Bool) → is_path h holder ≡ b → IsHeldIn h q is
        by_holder true is_it =
            let two : Some given.0 ≡ Some (with_outlets more m) = sym given.1 ∙ (ap (λ (r : List ℕ). linked_at r grown) (path_is h holder is_it) ∙ grown_holder) in
            let that : given.0 ≡ with_outlets more m = cc in
            let lt : 0 < held_count q (more m.page.outlets) = subst (λ (k : Linked). 0 < held_count q k.page.outlets) that given.2 in
            let count = added_count q body m.page.outlets o i in
            let none : cond {A = ℕ} (is_path q path) 1 0 ≡ 0 = ap (λ (b : Bool). cond {A = ℕ} b 1 0) off in
            (m, ap (λ (r : List ℕ). linked_at r is) (path_is h holder is_it) ∙ found, omega (arith, count, none, lt))
        by_holder false away = by_path (is_path h path) refl away

    was_some : (r : List ℕ) → is_path r path ≡ false → IsSome (linked_at r grown) → IsSome (linked_at r is)
    was_some r away some = by_holder (is_path r holder) refl
      where
        by_holder : (b : Bool) → is_path r holder ≡ b → IsSome (linked_at r is)
        by_holder true is_it = is_some_of (linked_at r is) m (ap (λ (s : List ℕ). linked_at s is) (path_is r holder is_it) ∙ found)
        by_holder false off = subst (λ (k : Option Linked). IsSome k) (grown_other r off away) some

    -- the one that came is held by this holder alone
    new_holder : (h : List ℕ) → IsHeldIn h path grown → h ≡ holder
    new_holder h given = by_holder (is_path h holder) refl
      where
        by_path : (b : Bool) → is_path h path ≡ b → is_path h holder ≡ false → h ≡ holder
        by_path true is_it away =
            let two : Some given.0 ≡ Some l = sym given.1 ∙ (ap (λ (r : List ℕ). linked_at r grown) (path_is h path is_it) ∙ grown_new) in
            let that : given.0 ≡ l = cc in
            let none : held_count path given.0.page.outlets ≡ 0 = ap (λ (k : Linked). held_count path k.page.outlets) that ∙ empty path in
            let lt = given.2 in
            absurd (omega (arith, none, lt))
        by_path false not_it away =
            let none = at_path (λ (y : List ℕ × Linked). held_count path y.1.page.outlets ≡ 0) h given.0 is none_has (sym (grown_other h away not_it) ∙ given.1) in
            let lt = given.2 in
            absurd (omega (arith, none, lt))

        by_holder : (b : Bool) → is_path h holder ≡ b → h ≡ holder
        by_holder true is_it = path_is h holder is_it
        by_holder false away = by_path (is_path h path) refl away

    module _ (unused : (q : List ℕ) → IsSome (linked_at q is) → begins path q ≡ false) (near : (q : List ℕ) → IsSome (linked_at q is) → begins q path ≡ true → begins q holder ≡ true) where
      grown_nearest : (h q r : List ℕ) → IsHeldIn h q grown → IsSome (linked_at r grown) → begins r q ≡ true → (r ≡ q) ⊎ (begins r h ≡ true)
      grown_nearest h q r given some b = by_body (is_path q path) refl (is_path r path) refl
        where
          by_body : (t : Bool) → is_path q path ≡ t → (u : Bool) → is_path r path ≡ u → (r ≡ q) ⊎ (begins r h ≡ true)
          by_body true body_is true other_is = inl (path_is r path other_is ∙ sym (path_is q path body_is))
          by_body true body_is false other_off =
              let here : q ≡ path = path_is q path body_is in
              let its : h ≡ holder = new_holder h (subst (λ (s : List ℕ). IsHeldIn h s grown) here given) in
              inr (ap (begins r) its ∙ near r (was_some r other_off some) (ap (begins r) (sym here) ∙ b))
          by_body false body_off true other_is =
              let there = held.linked h q (was_held h q body_off given) in
              two_ways (begins path q) (ap (λ (s : List ℕ). begins s q) (sym (path_is r path other_is)) ∙ b) (unused q there)
          by_body false body_off false other_off = held.nearest h q r (was_held h q body_off given) (was_some r other_off some) b

      pub grown_held : AreHeld grown
      grown_held = record { linked = grown_linked; held = grown_has; nearest = grown_nearest }
