-- Nothing is drawn from a site that fills outlets, or from one of a binding, so that what it has kept may be forgotten.
use Rattle.std.proofs.Common.{◌≡◌, ◌<◌, ℕ, zero, suc, Bool, true, false, List, [], ◌∷◌, Option, Some, refl, ap, ◌∙◌, sym, subst, length, slice_get, arith}
use Rattle.std.specs.Prelude.{◌+◌, ◌||◌, ◌==◌, not, is_some, nat_lt, slice_index_or}
use Rattle.std.proofs.lemmas.Bool.{eq-eqb, ltb-true}
use Rattle.std.proofs.lemmas.Option.{slice_get-get_or}
use Rattle.std.specs.List.{AllByRecursion, list_all}
use Rattle.std.specs.List.Sorted.{IsStrictlySortedBy}
use Rattle.std.specs.Ordering.{nat_cmp}
use Rattle.std.proofs.lemmas.Map.Keys.{sorted_head, sorted_tail}
use Rattle.ng_base.specs.declared.path.Key.{Key}
use Rattle.ng_dom.specs.Document.{next_name, Holds}
use Rattle.ng_dom.specs.Drawing.{Look, Stands, none_stand, DifferAt}
use Rattle.ng_dom.specs.Nodes.{NamedForest}
use Rattle.ng_dom.specs.declared.dom.Dom.{Dom}
use Rattle.ng_drawing.specs.Template.{Outlet, Fragment, Parts}
use Rattle.ng_drawing.specs.declared.origin.Origin.{Origin}
use Rattle.ng_drawing.specs.Numbering.{is_within, is_apart, is_outlet, is_body, is_undrawn, is_whole}
use Rattle.ng_parts.proofs.Ranges.{parts_within}
use Rattle.ng_instances.specs.Bindings.{bound_in_table, is_unbound}
use Rattle.ng_instances.specs.Changing.{fills_any, round_by, outlet_on, outlets_from, outlets_on}
use Rattle.ng_instances.specs.Instances.{OutletState, Linked, Instances, Inners, linked_at, linked_for, instance_path, is_path, is_filled_by, key_in, keys_of, groups_from, stands_join}
use Rattle.ng_instances.specs.Registering.{Ground, Round}
use Rattle.ng_link.specs.Showing.{parts_show}
use Rattle.ng_link.specs.Standing.{IsUndrawn, AreUndrawn, IsPlaced, ArePlaced, IsBuilt, AreInner}
use Rattle.ng_link.proofs.Below.{within, apart}
use Rattle.ng_link.proofs.Free.{AreFree, all_agree, parts_free, groups_free}
use Rattle.ng_link.proofs.Grown.{each_found}
use Rattle.ng_link.proofs.Inner.{keys_at, key_leads}
use Rattle.ng_build.proofs.Keys.{equal_numbers, same_key, other_key}
use Rattle.ng_link.proofs.Numbers.{both_true, whole_numbers, whole_undrawn}
use Rattle.ng_instances.proofs.PathIs.{path_is}
use Rattle.ng_link.proofs.PathsBelow.{not_path}
use Rattle.ng_link.proofs.ReadOff.{at_path, read_all}
use Rattle.ng_link.proofs.Showing.{parts_showing}
use Rattle.ng_behaviour.specs.Keys.{is_key}
use Rattle.ng_link.proofs.Serials.{above}

-- all keys but one
abbrev but : Key → Key → Bool
but k q = not (is_key k q)

-- numbers that rise differ
rising_above : (s : ℕ) (ns : List ℕ) (j : ℕ) → IsStrictlySortedBy nat_cmp (s ∷ ns) → j < length ns → s < slice_index_or ns j 0
rising_above s [] j o l = absurd (omega (arith, l))
rising_above s (n ∷ ns) zero o l = above s n (sorted_head nat_cmp s (n ∷ ns) o).0
rising_above s (n ∷ ns) (suc j) o l =
    let first : s < n = above s n (sorted_head nat_cmp s (n ∷ ns) o).0 in
    let more : n < slice_index_or ns j 0 = rising_above n ns j (sorted_tail nat_cmp s (n ∷ ns) o) (omega (arith, l)) in
    omega (arith, first, more)

pub rising_differ : (ns : List ℕ) (i j : ℕ) → IsStrictlySortedBy nat_cmp ns → i < length ns → j < length ns → (i ≡ j → ⊥) → slice_index_or ns i 0 ≡ slice_index_or ns j 0 → ⊥
rising_differ [] i j o l u ne same = absurd (omega (arith, l))
rising_differ (n ∷ ns) zero zero o l u ne same = ne refl
rising_differ (n ∷ ns) zero (suc j) o l u ne same = let lt = rising_above n ns j o (omega (arith, u)) in omega (arith, same, lt)
rising_differ (n ∷ ns) (suc i) zero o l u ne same = let lt = rising_above n ns i o (omega (arith, l)) in omega (arith, same, lt)
rising_differ (n ∷ ns) (suc i) (suc j) o l u ne same = rising_differ ns i j (sorted_tail nat_cmp n ns o) (omega (arith, l)) (omega (arith, u)) (λ e. ne (ap suc e)) same

-- a number from whose site nothing is drawn, where it fills an outlet
abbrev IsFilledAt : List ℕ → Parts → ℕ → Type 0
IsFilledAt serials ps serial = (n : ℕ) × ((n < length serials) × ((slice_index_or serials n 0 ≡ serial) × (parts_show (is_apart n 0 (length serials)) ps ≡ true)))

filled_at : (serials : List ℕ) (ps : Parts) (serial : ℕ) (os : List OutletState) → AreUndrawn serials ps os → fills_any serial os ≡ true → IsFilledAt serials ps serial
filled_at serials ps serial [] all e = absurd (cc)
filled_at serials ps serial (x ∷ xs) all e = by_test (is_filled_by serial x) refl e (filled_at serials ps serial xs all.1)
  where
    by_test : (b : Bool) → is_filled_by serial x ≡ b → (b || fills_any serial xs) ≡ true → (fills_any serial xs ≡ true → IsFilledAt serials ps serial) → IsFilledAt serials ps serial
    by_test true is f more = let u = all.0 in (u.0, (u.1.0, (u.1.1.0 ∙ sym (equal_numbers serial x.serial is), u.1.1.1)))
    by_test false is f more = more f

-- what is kept under a key is drawn nowhere, where nothing is drawn from the sites of its number
module _ (places : Key → Option ℕ) (looks same : Key → Look) (d : Dom) (is : Instances) (ts : Stands) (b : IsBuilt places looks d is ts) (k : Key) (off : DifferAt k looks same) where
  abbrev JoinsFree : List ℕ × Linked → Type 0
  JoinsFree e = (tsss : List (List Stands)) → AllByRecursion (AllByRecursion (AreFree (but k))) tsss → AreFree (but k) (stands_join e.1 tsss)

  -- another key
  is_other : (q : Key) → (q ≡ k → ⊥) → but k q ≡ true
  is_other q ne = ap not (other_key k q ne)

  -- on another path all keys are others
  elsewhere : (p : List ℕ) (m : Linked) → IsPlaced places (next_name d) p m → ((j : ℕ) → is_within 0 (length m.fragment.sites) j ≡ true → keys_of m.page j ≡ k → ⊥) → JoinsFree (p, m)
  elsewhere p m placed ne tsss all =
      parts_free (but k) (keys_of m.page) (is_within 0 (length m.fragment.sites)) (λ j e. is_other (keys_of m.page j) (ne j e)) (groups_from tsss) (groups_free (but k) tsss all) m.page.node
      m.fragment.parts (parts_showing (is_within 0 (length m.fragment.sites)) m.fragment.parts (parts_within 0 (length m.fragment.sites) m.fragment.parts placed.numbered).1)

  -- on its own path it has the number of one from which nothing is drawn
  module _ (p : List ℕ) (m : Linked) (placed : IsPlaced places (next_name d) p m) (test : ℕ → Bool) (draws : parts_show test m.fragment.parts ≡ true) (others : (j : ℕ) → test j ≡ true → keys_of m.page j ≡ k → ⊥) where
    pub on_path : JoinsFree (p, m)
    on_path tsss all = parts_free (but k) (keys_of m.page) test (λ j e. is_other (keys_of m.page j) (others j e)) (groups_from tsss) (groups_free (but k) tsss all) m.page.node m.fragment.parts draws

  module _ (all_free : AllByRecursion JoinsFree is) where
    stands_free : AreFree (but k) ts
    stands_free = subst (AreFree (but k)) (sym b.stands) (read_all none_stand stands_join (AreFree (but k)) tt is all_free [])

    alike : (q : Key) → but k q ≡ true → looks q ≡ same q
    alike q e = off q (λ same_key_as. let two : false ≡ true = sym (ap not (ap (is_key k) same_key_as ∙ same_key k)) ∙ e in cc)

    pub key_forgotten : IsBuilt places same d is ts
    key_forgotten = record {
      holds = subst (λ (f : NamedForest). Holds d f) (all_agree (but k) looks same alike ts stands_free) b.holds;
      stands = b.stands;
      homed = b.homed;
      ordered = b.ordered;
      each = b.each;
      apart = b.apart;
      bodies = b.bodies;
    }

-- the number of a key that an instance has
key_number : (l : Linked) (count : ℕ) → length l.page.serials ≡ count → (j : ℕ) → is_within 0 count j ≡ true → (k : Key) → keys_of l.page j ≡ k → slice_index_or l.page.serials j 0 ≡ k.serial.0
key_number l count many j e k same =
    let lt : j < length l.page.serials = let bounds = within 0 count j e in omega (arith, bounds.1, many) in
    let at : slice_get l.page.serials j ≡ Some (slice_index_or l.page.serials j 0) = slice_get-get_or l.page.serials j 0 lt in
    ap (λ (q : Key). q.serial.0) (sym (keys_at l.page j (slice_index_or l.page.serials j 0) at) ∙ same)

-- from a site that fills outlets nothing is drawn
module _ (places : Key → Option ℕ) (looks same : Key → Look) (d : Dom) (inner : Inners) (is : Instances) (ts : Stands) (b : IsBuilt places looks d is ts) (g : AreInner inner is) (k : Key) (l : Linked)
    (found : linked_for inner k.path is ≡ Some l) (off : DifferAt k looks same) where
  -- the key of a site is on a scope of its instance
  apart_from : (p : List ℕ) (m : Linked) → linked_at p is ≡ Some m → IsPlaced places (next_name d) p m → (p ≡ instance_path inner k.path → ⊥) → (j : ℕ) → is_within 0 (length m.fragment.sites) j ≡ true → keys_of m.page j ≡ k → ⊥
  apart_from p m at placed ne j e same =
      let lt : j < length m.page.serials = let bounds = within 0 (length m.fragment.sites) j e in let count = placed.count in omega (arith, bounds.1, count) in
      let s : ℕ = slice_index_or m.page.serials j 0 in
      let key : keys_of m.page j ≡ key_in m.page s = keys_at m.page j s (slice_get-get_or m.page.serials j 0 lt) in
      ne (sym (key_leads inner is g p m at placed.path s) ∙ ap (λ (q : Key). instance_path inner q.path) (sym key ∙ same))

  module _ (test : ℕ → Bool) (draws : parts_show test l.fragment.parts ≡ true) (others : (j : ℕ) → test j ≡ true → keys_of l.page j ≡ k → ⊥) where
    each_free : (es : Instances) → ArePlaced places (next_name d) es → AllByRecursion (λ (e : List ℕ × Linked). linked_at e.0 is ≡ Some e.1) es → AllByRecursion (JoinsFree places looks same d is ts b k off) es
    each_free [] placed at = tt
    each_free (e ∷ es) placed at = (by_path (is_path (instance_path inner k.path) e.0) refl, each_free es placed.1 at.1)
      where
        by_path : (t : Bool) → is_path (instance_path inner k.path) e.0 ≡ t → JoinsFree places looks same d is ts b k off e
        by_path true is_it =
            let two : Some e.1 ≡ Some l = sym at.0 ∙ (ap (λ (p : List ℕ). linked_at p is) (sym (path_is (instance_path inner k.path) e.0 is_it)) ∙ found) in
            let one : e.1 ≡ l = cc in
            on_path places looks same d is ts b k off e.0 e.1 placed.0 test (ap (λ (x : Linked). parts_show test x.fragment.parts) one ∙ draws)
            (λ j t same_as. others j t (ap (λ (x : Linked). keys_of x.page j) (sym one) ∙ same_as))
        by_path false off_path = elsewhere places looks same d is ts b k off e.0 e.1 placed.0 (apart_from e.0 e.1 at.0 placed.0 (λ same_path_as. not_path (instance_path inner k.path) e.0 off_path (sym same_path_as)))

    pub drawn_nowhere : IsBuilt places same d is ts
    drawn_nowhere = key_forgotten places looks same d is ts b k off (each_free is b.each (each_found is b.ordered))

  placed : IsPlaced places (next_name d) (instance_path inner k.path) l
  placed = at_path (λ (e : List ℕ × Linked). IsPlaced places (next_name d) e.0 e.1) (instance_path inner k.path) l is b.each found

  differ : (i j : ℕ) → (i == j) ≡ false → i ≡ j → ⊥
  differ i j e same_number = let two : true ≡ false = sym (eq-eqb i j same_number) ∙ e in cc

  pub filling_forgotten : fills_any k.serial.0 l.page.outlets ≡ true → IsBuilt places same d is ts
  filling_forgotten fills =
      let which = filled_at l.page.serials l.fragment.parts k.serial.0 l.page.outlets placed.undrawn fills in
      drawn_nowhere (is_apart which.0 0 (length l.page.serials)) which.1.1.1
      (λ j e same_as.
      let lies = apart which.0 0 (length l.page.serials) j e in
      let bounds = within 0 (length l.page.serials) j lies.0 in
      rising_differ l.page.serials j which.0 placed.rising bounds.1 which.1.0 (λ at_j. differ j which.0 lies.1 at_j)
      (key_number l (length l.page.serials) refl j lies.0 k same_as ∙ sym which.1.1.0))

  -- nor is it from one of a binding
  pub binding_forgotten : is_some (bound_in_table k.serial.0 l.page.bounds) ≡ true → IsBuilt places same d is ts
  binding_forgotten noted =
      drawn_nowhere (is_unbound l.page.serials l.page.bounds) placed.unbound
      (λ j e same_as.
      let two = both_true (is_within 0 (length l.page.serials) j) (not (is_some (bound_in_table (slice_index_or l.page.serials j 0) l.page.bounds))) e in
      let number = key_number l (length l.page.serials) refl j two.0 k same_as in
      let no : not (is_some (bound_in_table k.serial.0 l.page.bounds)) ≡ true = ap (λ (n : ℕ). not (is_some (bound_in_table n l.page.bounds))) (sym number) ∙ two.1 in
      let none : not true ≡ true = ap not (sym noted) ∙ no in
      cc)

-- the outlets of a whole fragment
one_undrawn : (serials : List ℕ) (f : Fragment) → length serials ≡ length f.sites → (bodies : ℕ) (r : Round) (o : Outlet) (a : ℕ) → is_outlet (length f.sites) bodies o ≡ true → is_undrawn (length f.sites) f.parts o ≡ true
    → IsUndrawn serials f.parts (outlet_on r serials o a)
one_undrawn serials f many bodies r o a e u =
    let lt : o.site < length f.sites = ltb-true o.site (length f.sites) (both_true (nat_lt o.site (length f.sites)) (is_body bodies o.filling) e).0 in
    (o.site, (omega (arith, lt, many), (refl, ap (λ (n : ℕ). parts_show (is_apart o.site 0 n) f.parts) many ∙ parts_showing (is_apart o.site 0 (length f.sites)) f.parts u)))

all_undrawn : (which : Origin) (g : Ground) (serials : List ℕ) (f : Fragment) → length serials ≡ length f.sites → (bodies i : ℕ) (os : List Outlet) (names : List ℕ) → list_all (is_outlet (length f.sites) bodies) os ≡ true
    → list_all (is_undrawn (length f.sites) f.parts) os ≡ true → AreUndrawn serials f.parts (outlets_from which g serials f i os names)
all_undrawn which g serials f many bodies i [] names e u = tt
all_undrawn which g serials f many bodies i (o ∷ os) [] e u = tt
all_undrawn which g serials f many bodies i (o ∷ os) (a ∷ names) e u =
    let first = both_true (is_outlet (length f.sites) bodies o) (list_all (is_outlet (length f.sites) bodies) os) e in
    let second = both_true (is_undrawn (length f.sites) f.parts o) (list_all (is_undrawn (length f.sites) f.parts) os) u in
    (one_undrawn serials f many bodies (round_by which g (slice_get f.spots i)) o a first.0 second.0, all_undrawn which g serials f many bodies (i + 1) os names first.1 second.1)

pub outlets_undrawn : (which : Origin) (g : Ground) (serials : List ℕ) (f : Fragment) → length serials ≡ length f.sites → (bodies : ℕ) → is_whole bodies f ≡ true → (names : List ℕ) → AreUndrawn serials f.parts (outlets_on which g serials f names)
outlets_undrawn which g serials f many bodies whole names = all_undrawn which g serials f many bodies 0 f.outlets names (whole_numbers bodies f whole) (whole_undrawn bodies f whole)
