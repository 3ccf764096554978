-- An instance comes: what is linked is watched, and each block has the bodies that it calls for.
use Rattle.std.proofs.Common.{◌≡◌, ◌⊎◌, inl, inr, ◌≤◌, ◌<◌, ℕ, Bool, true, false, List, ◌∷◌, length, drop, cond, Option, Some, None, refl, ap, sym, subst, ◌∙◌, slice_get, slice_index_or, arith}
use Rattle.std.specs.Prelude.{unwrap_or}
use Rattle.std.specs.List.{AllByRecursion, list_any}
use Rattle.std.specs.List.Sorted.{IsStrictlySortedBy}
use Rattle.std.specs.Map.{keys_of}
use Rattle.std.specs.Ordering.{nat_cmp}
use Rattle.ng_base.specs.Order.{path_cmp, path_cmp_total}
use Rattle.ng_base.specs.declared.path.Key.{Key}
use Rattle.ng_behaviour.specs.Scopes.{path_at, object_at}
use Rattle.ng_drawing.specs.Roles.{Role}
use Rattle.ng_drawing.specs.Template.{Site, SiteScopes, Outside, inside, handed, OutletScope, Outlet, Fragment}
use Rattle.ng_drawing.specs.declared.origin.Origin.{Origin}
use Rattle.ng_instances.specs.Bindings.{bound_in_table}
use Rattle.ng_instances.specs.Changing.{round_by, outlet_on, Place, at_top, in_outlet}
use Rattle.ng_link.specs.Calls.{linked_on, placed_on}
use Rattle.ng_instances.specs.Instances.{OutletState, Linked, Instances, Inners, is_path, linked_at, scope_number, scope_path, key_in, is_site_of, is_site_in, instance_path, with_inner, with_outlets, body_added, with_instance}
use Rattle.ng_build.specs.Linking.{is_bound_site, steps}
use Rattle.ng_link.specs.Placing.{IsRegistered}
use Rattle.ng_instances.specs.Registering.{scope_in_ground, outside_in_ground, Round, Registered, mark_at, way_of, kept_of, row_at, site_rows}
use Rattle.ng_instances.specs.Rows.{Row, watching_site, with_sites}
use Rattle.ng_build.specs.Shape.{key_on, anchors}
use Rattle.ng_link.specs.Standing.{held_count}
use Rattle.ng_link.specs.State.{State}
use Rattle.ng_link.proofs.Inner.{is_among, inner_here, inner_other}
use Rattle.ng_link.proofs.Lookups.{changed_keys, changed_here, changed_other, inserted_here, inserted_other}
use Rattle.ng_link.proofs.Marks.{marks_found, ground_scope, ground_path, site_row, site_numbers, ground_all}
use Rattle.ng_link.proofs.Numbers.{whole_numbers}
use Rattle.ng_instances.proofs.PathIs.{path_is}
use Rattle.ng_link.proofs.PathsBelow.{other_path}
use Rattle.ng_instances.proofs.Rows.{fresh_watcher, row_numbers, sites_other}
use Rattle.ng_link.proofs.FoundSites.{sites_found}
use Rattle.ng_link.proofs.Serials.{number_at, all_at_place}
use Rattle.ng_link.proofs.Sorted.{insert_sorted}
use Rattle.ng_drawing.specs.Numbering.{HasOrder}
use Rattle.ng_behaviour.specs.Keys.{is_key}
use Rattle.ng_watch.specs.Seen.{Watcher}
use Rattle.ng_watch.specs.Table.{Table, found}
use Rattle.ng_commands.specs.Settled.{site_keys, watching_at, WatchesAt, IsChild, IsRound, IsLinked, leads_in, NumbersDiffer, cases_under, CallsFor, OutletFits, IsWatched, Fits}
use Rattle.ng_page.proofs.NewRows.{IsWithin, round_within, index_below, outlets_are, as_many_anchors, sites_of, none_held, outlets_each, all_rest, all_inner, numbered_at, watched_there, rows_in_keys, all_watched, site_at, index_there}
use Rattle.ng_page.proofs.Bodies.{added_count, added_outlets, added_all, put_all}
use Rattle.ng_commands.proofs.ScopesStay.{scopes_refl}
use Rattle.ng_page.proofs.Unlinking.{some_changed, changed_some}
use Rattle.ng_commands.proofs.Watched.{all_map, number_there, linked_stays}

-- what is found where an instance has come
came_some : (p q : List ℕ) (l m : Linked) (is : Instances) → linked_at q (with_instance p l is) ≡ Some m → ((q ≡ p) × (m ≡ l)) ⊎ (linked_at q is ≡ Some m)
came_some p q l m is at = by_path (is_path q p) refl
  where
    by_path : (b : Bool) → is_path q p ≡ b → ((q ≡ p) × (m ≡ l)) ⊎ (linked_at q is ≡ Some m)
    by_path true here =
        let same : q ≡ p = path_is q p here in
        let one : ◌≡◌ {A = Option Linked} (Some l) (Some m) = sym (inserted_here p l is) ∙ (ap (λ (x : List ℕ). linked_at x (with_instance p l is)) (sym same) ∙ at) in
        inl (same, let two : l ≡ m = cc in sym two)
    by_path false off = inr (sym (inserted_other p l is q off) ∙ at)

-- ---- an instance on a scope, with numbers of registration that no other has

module _ (which : Origin) (scope : ℕ) (f : Fragment) (r : Registered) (s : State) (base : ℕ) where
  abbrev path : List ℕ
  path = path_at s.core.scopes scope

  abbrev new : Linked
  new = linked_on s.core.scopes which scope f r s.next_node

  abbrev rows : List Row
  rows = site_rows s.core.scopes f r

  abbrev watchers : Table
  watchers = with_sites rows f.sites s.watchers

  abbrev then_inner : Inners
  then_inner = with_inner path new.page.inner s.inner

  -- the scope is there, and the numbers are new
  pub record IsNew : Type 0 where
    pub there : scope < length s.core.scopes
    pub registered : IsRegistered f scope r s
    pub count : length r.serials ≡ length f.sites
    pub whole : HasOrder f
    pub plain : AllByRecursion (λ (o : Outlet). is_bound_site (steps f.parts) o.site ≡ false) f.outlets
    pub above : AllByRecursion (λ (n : ℕ). base ≤ n) r.serials
    pub others : (p : List ℕ) (l : Linked) → linked_at p s.instances ≡ Some l → AllByRecursion (λ (n : ℕ). n < base) l.page.serials

  -- where it is a body, its path is that of a child of the scope round the outlet that gets it, and no body of the instance is on that path yet
  pub record IsFree (holder : List ℕ) (outlet : ℕ) (m : Linked) : Type 0 where
    pub child : (x : OutletState) (role : Role) → slice_get m.page.outlets outlet ≡ Some x → IsChild s.core.scopes x.scope (record { path = path; role = role })
    pub free : held_count path m.page.outlets ≡ 0

  abbrev pub HasRoom : Place → Type 0
  HasRoom at_top = Unit {0}
  HasRoom (in_outlet holder o i role) = (holder ≡ path → ⊥) × ((m : Linked) → linked_at holder s.instances ≡ Some m → IsFree holder o m)

  -- what is found then: the new instance, or one that stood, with a body more where it is the holder
  abbrev IsHolder : Place → List ℕ → Linked → Type 0
  IsHolder at_top q l = ⊥
  IsHolder (in_outlet holder o i role) q l = (m : Linked) × (linked_at holder s.instances ≡ Some m) × (q ≡ holder) × (l ≡ with_outlets (body_added o i (record { path = path; role = role })) m)

  abbrev Was : Place → List ℕ → Linked → Type 0
  Was place q l = ((q ≡ path) × (l ≡ new)) ⊎ ((linked_at q s.instances ≡ Some l) ⊎ IsHolder place q l)

  was : (place : Place) (q : List ℕ) (l : Linked) → HasRoom place → linked_at q (placed_on place which scope f r s).instances ≡ Some l → Was place q l
  was at_top q l room at = by_new (came_some path q new l s.instances at)
    where
      by_new : ((q ≡ path) × (l ≡ new)) ⊎ (linked_at q s.instances ≡ Some l) → Was at_top q l
      by_new (inl here) = inl here
      by_new (inr old) = inr (inl old)
  was (in_outlet holder o i role) q l room at = by_holder (changed_some holder q (body_added o i (record { path = path; role = role })) (with_instance path new s.instances) l at)
    where
      by_new : ((q ≡ path) × (l ≡ new)) ⊎ (linked_at q s.instances ≡ Some l) → Was (in_outlet holder o i role) q l
      by_new (inl here) = inl here
      by_new (inr old) = inr (inl old)

      by_old : (m : Linked) → q ≡ holder → l ≡ with_outlets (body_added o i (record { path = path; role = role })) m → ((q ≡ path) × (m ≡ new)) ⊎ (linked_at q s.instances ≡ Some m) → Was (in_outlet holder o i role) q l
      by_old m same is (inl here) = absurd (room.0 (sym same ∙ here.0))
      by_old m same is (inr old) = inr (inr (m, ap (λ (x : List ℕ). linked_at x s.instances) (sym same) ∙ old, same, is))

      by_holder : (m : Linked) × (linked_at q (with_instance path new s.instances) ≡ Some m) × ((l ≡ m) ⊎ ((q ≡ holder) × (l ≡ with_outlets (body_added o i (record { path = path; role = role })) m))) → Was (in_outlet holder o i role) q l
      by_holder (m, there, inl same) = by_new (came_some path q new l s.instances (there ∙ ap Some (sym same)))
      by_holder (m, there, inr here) = by_old m here.0 here.1 (came_some path q new m s.instances there)

  -- on its path the new one stands
  new_there : (place : Place) → HasRoom place → linked_at path (placed_on place which scope f r s).instances ≡ Some new
  new_there at_top room = inserted_here path new s.instances
  new_there (in_outlet holder o i role) room =
      changed_other holder (body_added o i (record { path = path; role = role })) (with_instance path new s.instances) path (other_path path holder (λ same. room.0 (sym same))) ∙ inserted_here path new s.instances

  module _ (is : IsNew) where
    -- its numbers are none that was given before
    not_new : {A : Type 0} (n : ℕ) → n < base → is_site_of new.page n ≡ true → A
    not_new n low site =
        let place = number_at n r.serials site in
        let high : base ≤ n = all_at_place (λ (k : ℕ). base ≤ k) r.serials place.0 n is.above place.1 in
        absurd (omega (arith, low, high))

    -- a key with a number that was given before leads to a site as it did
    pub came_leads : (place : Place) → HasRoom place → (k : Key) → k.serial.0 < base → leads_in (placed_on place which scope f r s) k ≡ true → leads_in s k ≡ true
    came_leads place room k low on = by_among (is_among k.path new.page.inner) refl
      where
        now : Instances
        now = (placed_on place which scope f r s).instances

        by_was : (q : List ℕ) (l : Linked) → Was place q l → is_site_in (Some l) k ≡ true → is_site_in (linked_at q s.instances) k ≡ true
        by_was q l (inl here) site = not_new k.serial.0 low (ap (λ (x : Linked). is_site_of x.page k.serial.0) (sym here.1) ∙ site)
        by_was q l (inr (inl old)) site = ap (λ (o : Option Linked). is_site_in o k) old ∙ site
        by_was q l (inr (inr holder)) site = by_place place holder
          where
            by_place : (place : Place) → IsHolder place q l → is_site_in (linked_at q s.instances) k ≡ true
            by_place at_top none = absurd none
            by_place (in_outlet h o i role) (m, old, same, has) =
                ap (λ (x : List ℕ). is_site_in (linked_at x s.instances) k) same ∙ (ap (λ (x : Option Linked). is_site_in x k) old ∙ (ap (λ (x : Linked). is_site_of x.page k.serial.0) (sym has) ∙ site))

        by_found : (q : List ℕ) (o : Option Linked) → linked_at q now ≡ o → is_site_in o k ≡ true → is_site_in (linked_at q s.instances) k ≡ true
        by_found q None e site = absurd (cc)
        by_found q (Some l) e site = by_was q l (was place q l room e) site

        by_among : (b : Bool) → is_among k.path new.page.inner ≡ b → leads_in s k ≡ true
        by_among true e =
            let here : instance_path then_inner k.path ≡ path = ap (λ (o : Option (List ℕ)). unwrap_or o k.path) (inner_here path new.page.inner s.inner k.path e) in
            let site : is_site_in (linked_at path now) k ≡ true = ap (λ (q : List ℕ). is_site_in (linked_at q now) k) (sym here) ∙ on in
            not_new k.serial.0 low (ap (λ (o : Option Linked). is_site_in o k) (sym (new_there place room)) ∙ site)
        by_among false e =
            let here : instance_path then_inner k.path ≡ instance_path s.inner k.path = ap (λ (o : Option (List ℕ)). unwrap_or o k.path) (inner_other path new.page.inner s.inner k.path e) in
            let site : is_site_in (linked_at (instance_path s.inner k.path) now) k ≡ true = ap (λ (q : List ℕ). is_site_in (linked_at q now) k) (sym here) ∙ on in
            by_found (instance_path s.inner k.path) (linked_at (instance_path s.inner k.path) now) refl site

    -- and to the instance that it led to
    pub came_path : (place : Place) → HasRoom place → (k : Key) → k.serial.0 < base → leads_in (placed_on place which scope f r s) k ≡ true → instance_path (placed_on place which scope f r s).inner k.path ≡ instance_path s.inner k.path
    came_path place room k low on = by_among (is_among k.path new.page.inner) refl
      where
        by_among : (b : Bool) → is_among k.path new.page.inner ≡ b → instance_path then_inner k.path ≡ instance_path s.inner k.path
        by_among true e =
            let here : instance_path then_inner k.path ≡ path = ap (λ (o : Option (List ℕ)). unwrap_or o k.path) (inner_here path new.page.inner s.inner k.path e) in
            let site : is_site_in (linked_at path (placed_on place which scope f r s).instances) k ≡ true = ap (λ (q : List ℕ). is_site_in (linked_at q (placed_on place which scope f r s).instances) k) (sym here) ∙ on in
            not_new k.serial.0 low (ap (λ (o : Option Linked). is_site_in o k) (sym (new_there place room)) ∙ site)
        by_among false e = ap (λ (o : Option (List ℕ)). unwrap_or o k.path) (inner_other path new.page.inner s.inner k.path e)

    -- each of its sites has the key of its row, and is watched as that says
    own : r.at_hand.scopes ≡ scope ∷ drop 1 r.at_hand.scopes
    own = is.registered.own

    row_key : (j n : ℕ) → slice_get r.serials j ≡ Some n → key_in new.page n ≡ (row_at s.core.scopes f r j n).key
    row_key j n at =
        ap (λ (m : SiteScopes). key_on (scope_path new.page m.under) n) (marks_found f r.serials is.registered.rising j n at)
        ∙ ap (λ (p : List ℕ). key_on p n) (ground_path s.core.scopes which scope f r s.next_node own (mark_at f j).under)

    row_watching : (j n : ℕ) (x : Site) → slice_get r.serials j ≡ Some n → watching_at s.core.scopes new.page n x ≡ watching_site (row_at s.core.scopes f r j n).object (row_at s.core.scopes f r j n).way x
    row_watching j n x at =
        ap (λ (m : SiteScopes). watching_site (object_at s.core.scopes (scope_number new.page m.over)) (way_of s.core.scopes (bound_in_table n r.bounds)) x) (marks_found f r.serials is.registered.rising j n at)
        ∙ ap (λ (k : ℕ). watching_site (object_at s.core.scopes k) (way_of s.core.scopes (bound_in_table n r.bounds)) x) (ground_scope s.core.scopes which scope f r s.next_node own (mark_at f j).over)

    row_first : (j n : ℕ) → slice_get r.serials j ≡ Some n → slice_get rows j ≡ Some (row_at s.core.scopes f r j n)
    row_first j n at = site_row s.core.scopes f r j n at

    row_number : (j : ℕ) (row : Row) → slice_get rows j ≡ Some row → slice_get r.serials j ≡ Some row.key.serial.0
    row_number j row at = ap (λ (ns : List ℕ). slice_get ns j) (sym (site_numbers s.core.scopes f r)) ∙ numbered_at rows j row at

    rows_rising : IsStrictlySortedBy nat_cmp (row_numbers rows)
    rows_rising = subst (IsStrictlySortedBy nat_cmp) (sym (site_numbers s.core.scopes f r)) is.registered.rising

    new_watches : (j n : ℕ) (x : Site) → slice_get r.serials j ≡ Some n → slice_get f.sites j ≡ Some x → WatchesAt (key_in new.page n) (watching_at s.core.scopes new.page n x) watchers
    new_watches j n x at site w e =
        watched_there rows f.sites s.watchers j (row_at s.core.scopes f r j n) x rows_rising (row_first j n at) site w (ap (λ (k : Key). found k watchers) (sym (row_key j n at)) ∙ e)
        ∙ sym (row_watching j n x at)

    its_sites : AllByRecursion (λ (o : Outlet). o.site < length r.serials) f.outlets
    its_sites = sites_of (length f.sites) is.whole.0 (length r.serials) f.outlets is.count (whole_numbers is.whole.0 f is.whole.1)

    within : (k : ℕ) → scope_in_ground r.at_hand k < length s.core.scopes
    within k = ground_all (λ (n : ℕ). n < length s.core.scopes) r.at_hand scope own is.there (all_rest (λ (n : ℕ). n < length s.core.scopes) r.at_hand.scopes is.registered.scopes) k

    outside_there : (o : Outside) → outside_in_ground r.at_hand o < length s.core.scopes
    outside_there (inside n) = within n
    outside_there (handed i) = index_below (length s.core.scopes) r.at_hand.outsides i (let low = is.there in omega (arith, low)) is.registered.outsides

    rounds_within : (x : Option OutletScope) → IsWithin (length s.core.scopes) (round_by which r.at_hand x)
    rounds_within = round_within which r.at_hand (length s.core.scopes) within outside_there is.registered.outsides

    -- the number of an outlet's site
    number_of : (o : Outlet) → o.site < length r.serials → slice_get r.serials o.site ≡ Some (slice_index_or r.serials o.site 0)
    number_of o low = index_there r.serials o.site low

    new_linked : (leads : Key → Bool) → IsLinked s.core leads watchers path new
    new_linked leads = record {
      path = refl;
      scope = refl;
      there = is.there;
      inner = all_inner s.core.scopes (drop 1 r.at_hand.scopes) (all_rest (λ (n : ℕ). n < length s.core.scopes) r.at_hand.scopes is.registered.scopes);
      bounds = is.registered.bounds;
      count = is.count;
      below = is.registered.below;
      rising = is.registered.rising;
      sites = its_sites;
      watched = all_watched leads watchers (site_keys new.page) (watching_at s.core.scopes new.page) r.serials f.sites is.count new_watches;
      outlets = outlets_are which r.at_hand r.serials f 0 f.outlets (anchors s.next_node f.parts) (as_many_anchors is.whole.0 f s.next_node is.whole.1);
      rounds = outlets_each (IsRound s.core.scopes r.bounds) which r.at_hand r.serials f (length r.serials) (length s.core.scopes) 0 f.outlets (anchors s.next_node f.parts) its_sites is.plain rounds_within
          (λ ρ o a there low plain. record { scope = there.0; outsides = there.1; bodies = tt; unbound = (is.registered.drawn o.site (slice_index_or r.serials o.site 0) (number_of o low) plain).0 });
      once = λ q. let none = none_held q which r.at_hand r.serials f 0 f.outlets (anchors s.next_node f.parts) in omega (arith, none);
    }

    -- the numbers of an instance that stood were given before
    pub low_of : (q : List ℕ) (m : Linked) (n : ℕ) → linked_at q s.instances ≡ Some m → is_site_of m.page n ≡ true → n < base
    low_of q m n at site = let place = number_at n m.page.serials site in all_at_place (λ (k : ℕ). k < base) m.page.serials place.0 n (is.others q m at) place.1

    -- so its sites are found as before
    pub others_found : (q : List ℕ) (m : Linked) (n : ℕ) → linked_at q s.instances ≡ Some m → is_site_of m.page n ≡ true → found (key_in m.page n) watchers ≡ found (key_in m.page n) s.watchers
    others_found q m n at site =
        let low : n < base = low_of q m n at site in
        sites_other rows f.sites s.watchers (key_in m.page n)
        (λ j row there same.
        let high : base ≤ row.key.serial.0 = all_at_place (λ (i : ℕ). base ≤ i) r.serials j row.key.serial.0 is.above (row_number j row there) in
        let e : n ≡ row.key.serial.0 = ap (λ (x : Key). x.serial.0) same in
        omega (arith, low, high, e))

    -- the holder has the body
    pub holder_was : (holder : List ℕ) (o i : ℕ) (role : Role) → HasRoom (in_outlet holder o i role) → (l : Linked) → linked_at holder (placed_on (in_outlet holder o i role) which scope f r s).instances ≡ Some l
        → (m : Linked) × (linked_at holder s.instances ≡ Some m) × (l ≡ with_outlets (body_added o i (record { path = path; role = role })) m)
    holder_was holder o i role room l at =
        let changed = some_changed (body_added o i (record { path = path; role = role })) (linked_at holder (with_instance path new s.instances)) l (sym (changed_here holder (body_added o i (record { path = path; role = role })) (with_instance path new s.instances)) ∙ at) in
        (changed.0, sym (inserted_other path new s.instances holder (other_path holder path room.0)) ∙ changed.1, changed.2)

    others_linked : (place : Place) → HasRoom place → (q : List ℕ) (m : Linked) → linked_at q s.instances ≡ Some m → IsLinked s.core (leads_in s) s.watchers q m → IsLinked s.core (leads_in (placed_on place which scope f r s)) watchers q m
    others_linked place room q m at h =
        linked_stays s.core s.core (leads_in s) (leads_in (placed_on place which scope f r s)) s.watchers watchers q m (scopes_refl s.core.scopes) (omega arith)
        (λ j n v there on. (
          came_leads place room (key_in m.page n) (all_at_place (λ (k : ℕ). k < base) m.page.serials j n (is.others q m at) there) on,
          λ watches w e. watches w (sym (others_found q m n at (number_there m.page.serials j n there)) ∙ e),
        )) h

    holder_linked : (leads : Key → Bool) (holder : List ℕ) (o i : ℕ) (role : Role) (m : Linked) → IsFree holder o m → IsLinked s.core leads watchers holder m
        → IsLinked s.core leads watchers holder (with_outlets (body_added o i (record { path = path; role = role })) m)
    holder_linked leads holder o i role m free h = record {
      path = h.path;
      scope = h.scope;
      there = h.there;
      inner = h.inner;
      bounds = h.bounds;
      count = h.count;
      below = h.below;
      rising = h.rising;
      sites = h.sites;
      watched = h.watched;
      outlets = added_outlets o i (record { path = path; role = role }) m.page.serials m.fragment.outlets m.page.outlets h.outlets;
      rounds = added_all (IsRound s.core.scopes m.page.bounds) o i (record { path = path; role = role }) m.page.outlets
          (λ x at old. record { scope = old.scope; outsides = old.outsides; bodies = put_all (IsChild s.core.scopes x.scope) i x.bodies (record { path = path; role = role }) (free.child x role at) old.bodies; unbound = old.unbound }) h.rounds;
      once = λ q. by_path q (is_path q path) refl;
    }
      where
        by_path : (q : List ℕ) (b : Bool) → is_path q path ≡ b → held_count q (body_added o i (record { path = path; role = role }) m.page.outlets) ≤ 1
        by_path q true here =
            let none : held_count q m.page.outlets ≡ 0 = ap (λ (x : List ℕ). held_count x m.page.outlets) (path_is q path here) ∙ free.free in
            let more = added_count o i (record { path = path; role = role }) q m.page.outlets in
            let one : cond {A = ℕ} (is_path q path) 1 0 ≡ 1 = ap (λ (b : Bool). cond {A = ℕ} b 1 0) here in
            omega (arith, none, more, one)
        by_path q false off =
            let few = h.once q in
            let more = added_count o i (record { path = path; role = role }) q m.page.outlets in
            let one : cond {A = ℕ} (is_path q path) 1 0 ≡ 0 = ap (λ (b : Bool). cond {A = ℕ} b 1 0) off in
            omega (arith, few, more, one)

    placed_paths : (place : Place) → IsStrictlySortedBy path_cmp (keys_of s.instances) → IsStrictlySortedBy path_cmp (keys_of (placed_on place which scope f r s).instances)
    placed_paths at_top o = insert_sorted path_cmp path_cmp_total path new s.instances o
    placed_paths (in_outlet holder n i role) o =
        subst (IsStrictlySortedBy path_cmp) (sym (changed_keys holder (body_added n i (record { path = path; role = role })) (with_instance path new s.instances)))
        (insert_sorted path_cmp path_cmp_total path new s.instances o)

    -- no two instances have a number in common
    abbrev IsOld : List ℕ → Linked → ℕ → Type 0
    IsOld q l n = (m : Linked) × (linked_at q s.instances ≡ Some m) × (is_site_of m.page n ≡ true)

    old_of : (place : Place) (q : List ℕ) (l : Linked) (n : ℕ) → (linked_at q s.instances ≡ Some l) ⊎ IsHolder place q l → is_site_of l.page n ≡ true → IsOld q l n
    old_of place q l n (inl old) site = (l, old, site)
    old_of at_top q l n (inr none) site = absurd none
    old_of (in_outlet holder o i role) q l n (inr (m, old, same, has)) site =
        (m, ap (λ (x : List ℕ). linked_at x s.instances) same ∙ old, ap (λ (x : Linked). is_site_of x.page n) (sym has) ∙ site)

    placed_apart : (place : Place) → HasRoom place → NumbersDiffer s.instances → NumbersDiffer (placed_on place which scope f r s).instances
    placed_apart place room apart q t l m n at bt one two = by_both (was place q l room at) (was place t m room bt)
      where
        by_both : Was place q l → Was place t m → q ≡ t
        by_both (inl here) (inl there) = here.0 ∙ sym there.0
        by_both (inl here) (inr old) =
            let was_t = old_of place t m n old two in
            not_new n (low_of t was_t.0 n was_t.1 was_t.2) (ap (λ (x : Linked). is_site_of x.page n) (sym here.1) ∙ one)
        by_both (inr old) (inl there) =
            let was_q = old_of place q l n old one in
            not_new n (low_of q was_q.0 n was_q.1 was_q.2) (ap (λ (x : Linked). is_site_of x.page n) (sym there.1) ∙ two)
        by_both (inr old) (inr other) =
            let was_q = old_of place q l n old one in
            let was_t = old_of place t m n other two in
            apart q t was_q.0 was_t.0 n was_q.1 was_t.1 was_q.2 was_t.2

    pub placed_watched : (place : Place) → HasRoom place → IsWatched s → IsWatched (placed_on place which scope f r s)
    placed_watched place room h = record {
      linked = λ q l at. by_was place q l room (was place q l room at);
      apart = placed_apart place room h.apart;
      paths = placed_paths place h.paths;
      keys = rows_in_keys rows f.sites s.watchers h.keys;
      tree = h.tree;
      templates = h.templates;
    }
      where
        by_was : (place : Place) (q : List ℕ) (l : Linked) → HasRoom place → Was place q l → IsLinked s.core (leads_in (placed_on place which scope f r s)) watchers q l
        by_was place q l room (inl here) =
            let leads : Key → Bool = leads_in (placed_on place which scope f r s) in
            subst (λ (x : List ℕ). IsLinked s.core leads watchers x l) (sym here.0) (subst (IsLinked s.core leads watchers path) (sym here.1) (new_linked leads))
        by_was place q l room (inr (inl old)) = others_linked place room q l old (h.linked q l old)
        by_was at_top q l room (inr (inr none)) = absurd none
        by_was (in_outlet holder o i role) q l room (inr (inr (m, old, same, has))) =
            let leads : Key → Bool = leads_in (placed_on (in_outlet holder o i role) which scope f r s) in
            subst (λ (x : List ℕ). IsLinked s.core leads watchers x l) (sym same)
            (subst (IsLinked s.core leads watchers holder) (sym has) (holder_linked leads holder o i role m (room.1 m old) (others_linked (in_outlet holder o i role) room holder m old (h.linked holder m old))))

    -- ---- and fits: the sites of what is new have kept nothing yet, but for those of bindings, and the outlet that gets the body isn't asked

    new_fits : (leads : Key → Bool) (ks : List Key) → AllByRecursion (OutletFits leads watchers ks (site_keys new.page) r.serials f.outlets) new.page.outlets
    new_fits leads ks =
        outlets_each (OutletFits leads watchers ks (site_keys new.page) r.serials f.outlets) which r.at_hand r.serials f (length r.serials) (length s.core.scopes) 0 f.outlets (anchors s.next_node f.parts) its_sites is.plain rounds_within each
      where
        each : (ρ : Round) (o : Outlet) (a : ℕ) → IsWithin (length s.core.scopes) ρ → o.site < length r.serials → is_bound_site (steps f.parts) o.site ≡ false → OutletFits leads watchers ks (site_keys new.page) r.serials f.outlets (outlet_on ρ r.serials o a)
        each ρ o a there low plain site on w e out =
            let n : ℕ = slice_index_or r.serials o.site 0 in
            let at : slice_get r.serials o.site ≡ Some n = number_of o low in
            let has = site_at r.serials f.sites o.site n is.count at in
            let row : Row = row_at s.core.scopes f r o.site n in
            let none : kept_of (slice_get r.kept o.site) ≡ None = (is.registered.drawn o.site n at plain).1 in
            let there : found row.key watchers ≡ Some (fresh_watcher row has.0) = sites_found rows f.sites s.watchers o.site row has.0 rows_rising (row_first o.site n at) has.1 none in
            let one : ◌≡◌ {A = Option Watcher} (Some (fresh_watcher row has.0)) (Some w) = sym there ∙ (ap (λ (k : Key). found k watchers) (sym (row_key o.site n at)) ∙ e) in
            let two : fresh_watcher row has.0 ≡ w = cc in
            subst (λ (v : Watcher). CallsFor (cases_under r.serials f.outlets n) v.kept (outlet_on ρ r.serials o a)) two tt

    others_fit : (place : Place) → HasRoom place → (ks : List Key) (q : List ℕ) (m : Linked) → linked_at q s.instances ≡ Some m → AllByRecursion (OutletFits (leads_in s) s.watchers ks (site_keys m.page) m.page.serials m.fragment.outlets) m.page.outlets
        → AllByRecursion (OutletFits (leads_in (placed_on place which scope f r s)) watchers ks (site_keys m.page) m.page.serials m.fragment.outlets) m.page.outlets
    others_fit place room ks q m at fit =
        all_map (OutletFits (leads_in s) s.watchers ks (site_keys m.page) m.page.serials m.fragment.outlets)
        (OutletFits (leads_in (placed_on place which scope f r s)) watchers ks (site_keys m.page) m.page.serials m.fragment.outlets) m.page.outlets
        (λ x h site on w e out. h site (came_leads place room (key_in m.page x.serial) (low_of q m x.serial at site) on) w (sym (others_found q m x.serial at site) ∙ e) out) fit

    abbrev pub IsAsked : List Key → Place → Type 0
    IsAsked ks at_top = Unit {0}
    IsAsked ks (in_outlet holder o i role) = (m : Linked) (x : OutletState) → linked_at holder s.instances ≡ Some m → slice_get m.page.outlets o ≡ Some x → list_any (is_key (key_in m.page x.serial)) ks ≡ true

    pub placed_fits : (place : Place) (ks : List Key) → HasRoom place → IsAsked ks place → Fits ks s → Fits ks (placed_on place which scope f r s)
    placed_fits place ks room asked h q l at = by_was place q l room asked (was place q l room at)
      where
        by_was : (place : Place) (q : List ℕ) (l : Linked) → HasRoom place → IsAsked ks place → Was place q l
            → AllByRecursion (OutletFits (leads_in (placed_on place which scope f r s)) watchers ks (site_keys l.page) l.page.serials l.fragment.outlets) l.page.outlets
        by_was place q l room asked (inl here) =
            let leads : Key → Bool = leads_in (placed_on place which scope f r s) in
            subst (λ (x : Linked). AllByRecursion (OutletFits leads watchers ks (site_keys x.page) x.page.serials x.fragment.outlets) x.page.outlets) (sym here.1) (new_fits leads ks)
        by_was place q l room asked (inr (inl old)) = others_fit place room ks q l old (h q l old)
        by_was at_top q l room asked (inr (inr none)) = absurd none
        by_was (in_outlet holder o i role) q l room asked (inr (inr (m, old, same, has))) =
            let leads : Key → Bool = leads_in (placed_on (in_outlet holder o i role) which scope f r s) in
            subst (λ (x : Linked). AllByRecursion (OutletFits leads watchers ks (site_keys x.page) x.page.serials x.fragment.outlets) x.page.outlets) (sym has)
            (added_all (OutletFits leads watchers ks (site_keys m.page) m.page.serials m.fragment.outlets) o i (record { path = path; role = role }) m.page.outlets
            (λ x there fit site on w e out. let two : true ≡ false = sym (asked m x old there) ∙ out in absurd (cc))
            (others_fit (in_outlet holder o i role) room ks holder m old (h holder m old)))
