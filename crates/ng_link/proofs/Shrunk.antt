-- The table of instances where a body goes, with those in it.
use Rattle.std.proofs.Common.{◌≡◌, ◌⊎◌, inl, inr, ◌<◌, ℕ, Bool, true, false, List, [], Option, Some, None, refl, ap, ◌∙◌, sym, subst, arith}
use Rattle.std.specs.Prelude.{IsSome, not, option_map}
use Rattle.std.specs.List.{AllByRecursion}
use Rattle.std.specs.List.Sorted.{IsStrictlySortedBy}
use Rattle.std.specs.Map.{keys_of as map_keys}
use Rattle.ng_base.specs.Order.{path_cmp, path_cmp_total}
use Rattle.ng_base.specs.declared.path.Key.{Key}
use Rattle.ng_dom.specs.Drawing.{none_stand}
use Rattle.ng_behaviour.specs.Keys.{begins}
use Rattle.ng_instances.specs.Instances.{OutletState, Linked, Instances, is_path, linked_at, keys_of, with_outlets, outlets_changed, body_gone, without_below, stands_join, stands_at}
use Rattle.ng_link.specs.Standing.{IsBelow, IsPlaced, ArePlaced, AreApart, IsHeldIn, AreHeld, held_count}
use Rattle.ng_link.proofs.BodiesAt.{gone_anchors, gone_undrawn, gone_in, gone_count, gone_itself, gone_other}
use Rattle.ng_link.proofs.Grown.{all_weaker, all_both, each_found, still_placed, no_some, is_some_of}
use Rattle.ng_link.proofs.Lookups.{changed_keys, changed_other, changed_here, changed_all, changed_apart, kept_all, kept_apart, kept_pass, kept_found, kept_gone}
use Rattle.ng_build.proofs.Paths.{begins_itself, begins_length, not_begins, two_ways, begins_through, begins_each}
use Rattle.ng_instances.proofs.PathIs.{path_is}
use Rattle.ng_link.proofs.PathsBelow.{other_path, below_longer, below_other, below_begins}
use Rattle.ng_link.proofs.ReadOff.{in_held, at_path, read_without}
use Rattle.ng_link.proofs.Sorted.{filter_sorted}

module _ (holder p : List ℕ) (m : Linked) (is : Instances) (child : IsBelow holder p)
    (ordered : IsStrictlySortedBy path_cmp (map_keys is)) (held : AreHeld is) (found : linked_at holder is ≡ Some m) (body : 0 < held_count p m.page.outlets) where
  abbrev fewer : List OutletState → List OutletState
  fewer = body_gone p

  abbrev cut : Instances
  cut = outlets_changed holder fewer is

  abbrev shrunk : Instances
  shrunk = without_below p cut

  abbrev stays : List ℕ → Bool
  stays q = not (begins p q)

  pub holder_stays : begins p holder ≡ false
  holder_stays = not_begins p holder (λ e. let long = below_longer holder p child in let le = begins_length p holder e in omega (arith, long, le))

  pub top_stays : begins p [] ≡ false
  top_stays = not_begins p [] (λ e. let long = below_longer holder p child in let le = begins_length p [] e in omega (arith, long, le))

  pub body_there : IsSome (linked_at p is)
  body_there = held.linked holder p (m, found, body)

  pub cut_holder : linked_at holder cut ≡ Some (with_outlets fewer m)
  cut_holder = changed_here holder fewer is ∙ ap (option_map (with_outlets fewer)) found

  pub shrunk_found : (q : List ℕ) → begins p q ≡ false → linked_at q shrunk ≡ linked_at q cut
  shrunk_found q off = kept_found stays cut q (ap not off)

  pub shrunk_gone : (q : List ℕ) → begins p q ≡ true → linked_at q shrunk ≡ None
  shrunk_gone q on = kept_gone stays cut q (ap not on)

  cut_ordered : IsStrictlySortedBy path_cmp (map_keys cut)
  cut_ordered = subst (λ (ks : List (List ℕ)). IsStrictlySortedBy path_cmp ks) (sym (changed_keys holder fewer is)) ordered

  pub shrunk_ordered : IsStrictlySortedBy path_cmp (map_keys shrunk)
  shrunk_ordered = filter_sorted path_cmp path_cmp_total (λ e. stays e.0) cut cut_ordered

  pub shrunk_apart : AreApart is → AreApart shrunk
  shrunk_apart all = kept_apart stays cut (changed_apart holder fewer is all)

  not_true : (b : Bool) → not b ≡ true → b ≡ false
  not_true true e = absurd (cc)
  not_true false e = refl

  module _ (places same : Key → Option ℕ) (next : ℕ) (each : ArePlaced places next is)
      (old : (q : List ℕ) (l : Linked) → linked_at q is ≡ Some l → begins p q ≡ false → (i x : ℕ) → places (keys_of l.page i) ≡ Some x → same (keys_of l.page i) ≡ Some x) where
    fewer_placed : (site : Key → Option ℕ) (q : List ℕ) (k : Linked) → IsPlaced site next q k → IsPlaced site next q (with_outlets fewer k)
    fewer_placed site q k y = record {
      path = y.path;
      numbered = y.numbered;
      outlets = y.outlets;
      count = y.count;
      sites = y.sites;
      anchors = gone_anchors p k.page.outlets ∙ y.anchors;
      rising = y.rising;
      marked = y.marked;
      undrawn = gone_undrawn p k.page.serials k.fragment.parts k.page.outlets y.undrawn;
      unbound = y.unbound;
      bodies = gone_in p q k.page.outlets y.bodies;
      once = λ r. (let few = gone_count p r k.page.outlets in let at_most = y.once r in omega (arith, few, at_most));
      end = y.end;
    }

    -- those that stay are placed where they were
    abbrev StaysPlaced : List ℕ × Linked → Type 0
    StaysPlaced y = begins p y.0 ≡ false → IsPlaced same next y.0 y.1

    each_stays : AllByRecursion StaysPlaced is
    each_stays =
        all_weaker (λ (y : List ℕ × Linked). IsPlaced places next y.0 y.1 × (linked_at y.0 is ≡ Some y.1)) StaysPlaced
        (λ y h off. still_placed places same next next y.0 y.1 (old y.0 y.1 h.1 off) (omega arith) h.0) is
        (all_both (λ (y : List ℕ × Linked). IsPlaced places next y.0 y.1) (λ (y : List ℕ × Linked). linked_at y.0 is ≡ Some y.1) is each (each_found is ordered))

    cut_stays : AllByRecursion StaysPlaced cut
    cut_stays = changed_all holder fewer StaysPlaced is (λ k there y off. fewer_placed same holder k (y off)) each_stays

    pub shrunk_placed : ArePlaced same next shrunk
    shrunk_placed =
        all_weaker (λ (y : List ℕ × Linked). StaysPlaced y × (stays y.0 ≡ true)) (λ (y : List ℕ × Linked). IsPlaced same next y.0 y.1)
        (λ y h. h.0 (not_true (begins p y.0) h.1)) shrunk
        (all_both StaysPlaced (λ (y : List ℕ × Linked). stays y.0 ≡ true) shrunk (kept_all stays StaysPlaced cut cut_stays) (kept_pass stays cut))

    -- bodies are linked, and what is linked is a body
    cut_some : (q : List ℕ) → IsSome (linked_at q is) → IsSome (linked_at q cut)
    cut_some q some = by_holder (is_path q holder) refl
      where
        by_holder : (b : Bool) → is_path q holder ≡ b → IsSome (linked_at q cut)
        by_holder true is_it = is_some_of (linked_at q cut) (with_outlets fewer m) (ap (λ (r : List ℕ). linked_at r cut) (path_is q holder is_it) ∙ cut_holder)
        by_holder false off = subst (λ (r : Option Linked). IsSome r) (sym (changed_other holder fewer is q off)) some

    was_some : (q : List ℕ) → IsSome (linked_at q cut) → IsSome (linked_at q is)
    was_some q some = by_holder (is_path q holder) refl
      where
        by_holder : (b : Bool) → is_path q holder ≡ b → IsSome (linked_at q is)
        by_holder true is_it = is_some_of (linked_at q is) m (ap (λ (r : List ℕ). linked_at r is) (path_is q holder is_it) ∙ found)
        by_holder false off = subst (λ (r : Option Linked). IsSome r) (changed_other holder fewer is q off) some

    -- an instance that stays held as much before, at least
    was_held : (h q : List ℕ) → IsHeldIn h q cut → IsHeldIn h q is
    was_held h q given = by_holder (is_path h holder) refl
      where
        by_holder : (b : Bool) → is_path h holder ≡ b → IsHeldIn h q is
        by_holder true is_it =
            let two : Some given.0 ≡ Some (with_outlets fewer m) = sym given.1 ∙ (ap (λ (r : List ℕ). linked_at r cut) (path_is h holder is_it) ∙ cut_holder) in
            let one : given.0 ≡ with_outlets fewer m = cc in
            let lt : 0 < held_count q (fewer m.page.outlets) = subst (λ (k : Linked). 0 < held_count q k.page.outlets) one given.2 in
            let few = gone_count p q m.page.outlets in
            (m, ap (λ (r : List ℕ). linked_at r is) (path_is h holder is_it) ∙ found, omega (arith, lt, few))
        by_holder false off = (given.0, sym (changed_other holder fewer is h off) ∙ given.1, given.2)

    -- what stays holds bodies that stay
    at_itself : (h : List ℕ) (l : Linked) → linked_at h cut ≡ Some l → h ≡ holder → held_count p l.page.outlets ≡ 0
    at_itself h l there that =
        let two : Some l ≡ Some (with_outlets fewer m) = sym there ∙ (ap (λ (r : List ℕ). linked_at r cut) that ∙ cut_holder) in
        let one : l ≡ with_outlets fewer m = cc in
        ap (λ (k : Linked). held_count p k.page.outlets) one ∙ gone_itself p m.page.outlets

    -- two that hold one body are one
    pub one_holder : (h : List ℕ) → IsHeldIn h p is → h ≡ holder
    one_holder h given =
        let placed = at_path (λ (y : List ℕ × Linked). IsPlaced places next y.0 y.1) h given.0 is each given.1 in
        let its : IsBelow h p = in_held h p given.0.page.outlets placed.bodies given.2 in
        let there : IsSome (linked_at h is) = is_some_of (linked_at h is) given.0 given.1 in
        let other : IsSome (linked_at holder is) = is_some_of (linked_at holder is) m found in
        by_near (held.nearest holder p h (m, found, body) there (below_begins h p its)) (held.nearest h p holder given other (below_begins holder p child)) its
      where
        by_near : (h ≡ p) ⊎ (begins h holder ≡ true) → (holder ≡ p) ⊎ (begins holder h ≡ true) → IsBelow h p → h ≡ holder
        by_near (inl same) more its = absurd (below_other h p its same)
        by_near (inr on) (inl same) its = absurd (below_other holder p child same)
        by_near (inr on) (inr back) its = begins_each h holder on back

    pub stays_held : (h : List ℕ) (l : Linked) → linked_at h cut ≡ Some l → begins p h ≡ false → (q : List ℕ) → 0 < held_count q l.page.outlets → begins p q ≡ false
    stays_held h l there off q lt = not_begins p q (λ e. by_near e (held.nearest h q p (was_held h q (l, there, lt)) body_there e))
      where
        by_near : begins p q ≡ true → (p ≡ q) ⊎ (begins p h ≡ true) → ⊥
        by_near e (inr on) = two_ways (begins p h) on off
        by_near e (inl same) =
            let given : IsHeldIn h q cut = (l, there, lt) in
            let holds : IsHeldIn h p is = was_held h p (subst (λ (r : List ℕ). IsHeldIn h r cut) (sym same) given) in
            let none = at_itself h l there (one_holder h holds) in
            let count : held_count q l.page.outlets ≡ held_count p l.page.outlets = ap (λ (r : List ℕ). held_count r l.page.outlets) (sym same) in
            omega (arith, none, count, lt)

    -- what stands is read as before
    pub shrunk_read : stands_at shrunk [] ≡ stands_at cut []
    shrunk_read =
        read_without none_stand stands_join p cut
        (all_weaker (λ (y : List ℕ × Linked). linked_at y.0 cut ≡ Some y.1) (λ (y : List ℕ × Linked). begins p y.0 ≡ false → (q : List ℕ) → 0 < held_count q y.1.page.outlets → begins p q ≡ false)
        (λ y there off q lt. stays_held y.0 y.1 there off q lt) cut (each_found cut cut_ordered)) [] top_stays

    shrunk_linked : (h q : List ℕ) → IsHeldIn h q shrunk → IsSome (linked_at q shrunk)
    shrunk_linked h q given = by_test (begins p h) refl
      where
        by_test : (b : Bool) → begins p h ≡ b → IsSome (linked_at q shrunk)
        by_test true on = absurd (let two : None ≡ Some given.0 = sym (shrunk_gone h on) ∙ given.1 in cc)
        by_test false off =
            let there : linked_at h cut ≡ Some given.0 = sym (shrunk_found h off) ∙ given.1 in
            let away = stays_held h given.0 there off q given.2 in
            subst (λ (r : Option Linked). IsSome r) (sym (shrunk_found q away)) (cut_some q (held.linked h q (was_held h q (given.0, there, given.2))))

    abbrev HasHolder : List ℕ → Type 0
    HasHolder q = (h : List ℕ) × IsHeldIn h q shrunk

    shrunk_has : (q : List ℕ) → IsSome (linked_at q shrunk) → (q ≡ []) ⊎ HasHolder q
    shrunk_has q some = by_test (begins p q) refl
      where
        still_held : (h : List ℕ) → begins p q ≡ false → IsHeldIn h q is → begins p h ≡ false → HasHolder q
        still_held h off given away = by_holder (is_path h holder) refl
          where
            other : is_path q p ≡ false
            other = other_path q p (λ e. two_ways (begins p q) (ap (begins p) e ∙ begins_itself p) off)

            by_holder : (b : Bool) → is_path h holder ≡ b → HasHolder q
            by_holder true is_it =
                let two : Some given.0 ≡ Some m = sym given.1 ∙ (ap (λ (r : List ℕ). linked_at r is) (path_is h holder is_it) ∙ found) in
                let one : given.0 ≡ m = cc in
                let lt : 0 < held_count q m.page.outlets = subst (λ (k : Linked). 0 < held_count q k.page.outlets) one given.2 in
                let many = gone_other p q other m.page.outlets in
                (holder, (with_outlets fewer m, shrunk_found holder holder_stays ∙ cut_holder, omega (arith, lt, many)))
            by_holder false not_it = (h, (given.0, shrunk_found h away ∙ (changed_other holder fewer is h not_it ∙ given.1), given.2))

        holder_of : begins p q ≡ false → (q ≡ []) ⊎ ((h : List ℕ) × IsHeldIn h q is) → (q ≡ []) ⊎ HasHolder q
        holder_of off (inl top) = inl top
        holder_of off (inr given) =
            let placed = at_path (λ (y : List ℕ × Linked). IsPlaced places next y.0 y.1) given.0 given.1.0 is each given.1.1 in
            let its : IsBelow given.0 q = in_held given.0 q given.1.0.page.outlets placed.bodies given.1.2 in
            let away : begins p given.0 ≡ false = not_begins p given.0 (λ on. two_ways (begins p q) (begins_through p given.0 q on (below_begins given.0 q its)) off) in
            inr (still_held given.0 off given.1 away)

        by_test : (b : Bool) → begins p q ≡ b → (q ≡ []) ⊎ HasHolder q
        by_test true on = absurd (no_some (linked_at q shrunk) (shrunk_gone q on) some)
        by_test false off = holder_of off (held.held q (was_some q (subst (λ (r : Option Linked). IsSome r) (shrunk_found q off) some)))

    -- no instance stands between
    was_linked : (q : List ℕ) → IsSome (linked_at q shrunk) → IsSome (linked_at q is)
    was_linked q some = by_test (begins p q) refl
      where
        by_test : (b : Bool) → begins p q ≡ b → IsSome (linked_at q is)
        by_test true on = absurd (no_some (linked_at q shrunk) (shrunk_gone q on) some)
        by_test false off = was_some q (subst (λ (r : Option Linked). IsSome r) (shrunk_found q off) some)

    was_in : (h q : List ℕ) → IsHeldIn h q shrunk → IsHeldIn h q is
    was_in h q given = by_test (begins p h) refl
      where
        by_test : (b : Bool) → begins p h ≡ b → IsHeldIn h q is
        by_test true on = absurd (let two : None ≡ Some given.0 = sym (shrunk_gone h on) ∙ given.1 in cc)
        by_test false off = was_held h q (given.0, sym (shrunk_found h off) ∙ given.1, given.2)

    pub shrunk_held : AreHeld shrunk
    shrunk_held = record { linked = shrunk_linked; held = shrunk_has; nearest = λ h q r given some b. held.nearest h q r (was_in h q given) (was_linked r some) b }
