-- Bodies of an outlet stand in another order, or have other roles: all that is linked is built.
use Rattle.std.proofs.Common.{◌≡◌, ◌⊎◌, inl, inr, ◌<◌, ℕ, Bool, true, false, cond, List, [], Option, None, Some, refl, ap, ◌∙◌, sym, subst, map, slice_get, arith}
use Rattle.std.specs.Prelude.{◌==◌, IsSome, nat_eq, option_map}
use Rattle.std.specs.List.{AllByRecursion, IsDistinct}
use Rattle.std.specs.List.Sorted.{IsStrictlySortedBy}
use Rattle.std.specs.Map.{keys_of as map_keys}
use Rattle.ng_base.specs.Order.{path_cmp}
use Rattle.ng_base.specs.declared.path.Key.{Key}
use Rattle.ng_dom.specs.Document.{rooms, next_name, Holds, Becomes, Stays, Fewer}
use Rattle.ng_dom.specs.Drawing.{Look, Stand, Stands, Bodies, text_stands, comment_stands, element_stands, block_stands, none_stand, stand_then, no_bodies, body_then, shows, show_bodies, names_standing, at_block, at_block_all, at_block_bodies}
use Rattle.ng_dom.specs.Editing.{changed_in, with_groups, picked}
use Rattle.ng_dom.specs.Lists.{among}
use Rattle.ng_dom.specs.Nodes.{NamedForest, group_names}
use Rattle.ng_dom.specs.Rooms.{ReadsIn}
use Rattle.ng_dom.specs.declared.dom.Dom.{Dom}
use Rattle.ng_dom.proofs.Counting.{names_stand}
use Rattle.ng_dom.proofs.Focus.{groups_changed}
use Rattle.ng_dom.proofs.Homes.{bodies_are_homed, fewer_are_live}
use Rattle.ng_link.specs.Arranging.{are_alike, AreAt, IsOrder, PicksBy, Rearranges}
use Rattle.ng_instances.specs.Instances.{Body, OutletState, Linked, Instances, is_path, linked_at, read_bodies, bodies_from, groups_from, stands_at, with_outlets, outlets_changed, bodies_arranged}
use Rattle.ng_build.specs.Sources.{sources}
use Rattle.ng_link.specs.Standing.{IsIn, held_count, IsPlaced, ArePlaced, AreApart, IsHeldIn, AreHeld, IsBuilt}
use Rattle.ng_link.proofs.Arranged.{bodies_picked, show_picked, homed_picked, alike_told, picked_told, arranged_group, stood_group, arranged_others, arranged_anchors, arranged_undrawn, arranged_in, arranged_count, rearranged_in, outlet_in}
use Rattle.ng_link.proofs.ArrangedNames.{as_often}
use Rattle.ng_link.proofs.Blocks.{BlockAmong, IsAnchor, anchor_at}
use Rattle.ng_link.proofs.BodiesAt.{top_names}
use Rattle.ng_link.proofs.BodiesChanged.{bodies_changed}
use Rattle.ng_link.proofs.Homed.{homed_more, all_stay}
use Rattle.ng_link.proofs.Lookups.{changed_keys, changed_other, changed_here, changed_all, changed_apart}
use Rattle.ng_instances.proofs.PathIs.{path_is}
use Rattle.ng_link.proofs.ReadOff.{at_path}
use Rattle.ng_link.proofs.Reached.{outlet_anchor, block_at}
use Rattle.ng_link.proofs.Times.{times, same_among, same_distinct}

-- a change at the blocks of a name that changes nothing
module _ (a : ℕ) where
  abbrev still : Bodies → Bodies
  still bs = bs

  mutual
    one_still : (m : Stand) → at_block a still m ≡ m
    one_still (text_stands n ps) = refl
    one_still (comment_stands n t) = refl
    one_still (element_stands n e ats ms) = ap (element_stands n e ats) (all_still ms)
    one_still (block_stands n bs) = ap (block_stands n) (by_name (n == a) (bodies_still bs))
      where
        by_name : (t : Bool) → at_block_bodies a still bs ≡ bs → cond t (at_block_bodies a still bs) (at_block_bodies a still bs) ≡ bs
        by_name true e = e
        by_name false e = e

    pub all_still : (ms : Stands) → at_block_all a still ms ≡ ms
    all_still none_stand = refl
    all_still (stand_then m ms) = ap (λ (x : Stand). stand_then x (at_block_all a still ms)) (one_still m) ∙ ap (stand_then m) (all_still ms)

    bodies_still : (bs : Bodies) → at_block_bodies a still bs ≡ bs
    bodies_still no_bodies = refl
    bodies_still (body_then ms bs) = ap (λ (x : Stands). body_then x (at_block_bodies a still bs)) (all_still ms) ∙ ap (body_then ms) (bodies_still bs)

is_some_of : {A : Type 0} (o : Option A) (v : A) → o ≡ Some v → IsSome o
is_some_of o v e = subst (λ x. IsSome x) (sym e) refl

module _ (places : Key → Option ℕ) (looks : Key → Look) (d : Dom) (is : Instances) (ts : Stands) (holder : List ℕ) (m : Linked) (o : ℕ) (x : OutletState) (new : List Body)
    (b : IsBuilt places looks d is ts) (found : linked_at holder is ≡ Some m) (at : slice_get m.page.outlets o ≡ Some x) (same : Rearranges new x.bodies) where
  abbrev f : List OutletState → List OutletState
  f = bodies_arranged o new

  abbrev then_linked : Instances
  then_linked = outlets_changed holder f is

  placed : IsPlaced places (next_name d) holder m
  placed = at_path (λ (y : List ℕ × Linked). IsPlaced places (next_name d) y.0 y.1) holder m is b.each found

  new_in : AllByRecursion (IsIn holder) new
  new_in = rearranged_in holder x new same (outlet_in holder m.page.outlets o x at placed.bodies)

  counts : (q : List ℕ) → held_count q (f m.page.outlets) ≡ held_count q m.page.outlets
  counts q = arranged_count q new m.page.outlets o x at (same q)

  -- what is linked
  here : linked_at holder then_linked ≡ Some (with_outlets f m)
  here = changed_here holder f is ∙ ap (option_map (with_outlets f)) found

  on_holder : (q : List ℕ) → is_path q holder ≡ true → linked_at q then_linked ≡ Some (with_outlets f m)
  on_holder q is_it = ap (λ (r : List ℕ). linked_at r then_linked) (path_is q holder is_it) ∙ here

  was_holder : (q : List ℕ) → is_path q holder ≡ true → linked_at q is ≡ Some m
  was_holder q is_it = ap (λ (r : List ℕ). linked_at r is) (path_is q holder is_it) ∙ found

  other : (q : List ℕ) → is_path q holder ≡ false → linked_at q then_linked ≡ linked_at q is
  other q off = changed_other holder f is q off

  still_some : (q : List ℕ) → IsSome (linked_at q is) → IsSome (linked_at q then_linked)
  still_some q some = by_holder (is_path q holder) refl
    where
      by_holder : (t : Bool) → is_path q holder ≡ t → IsSome (linked_at q then_linked)
      by_holder true is_it = is_some_of (linked_at q then_linked) (with_outlets f m) (on_holder q is_it)
      by_holder false off = subst (λ (r : Option Linked). IsSome r) (sym (other q off)) some

  was_some : (q : List ℕ) → IsSome (linked_at q then_linked) → IsSome (linked_at q is)
  was_some q some = by_holder (is_path q holder) refl
    where
      by_holder : (t : Bool) → is_path q holder ≡ t → IsSome (linked_at q is)
      by_holder true is_it = is_some_of (linked_at q is) m (was_holder q is_it)
      by_holder false off = subst (λ (r : Option Linked). IsSome r) (other q off) some

  was_held : (h q : List ℕ) → IsHeldIn h q then_linked → IsHeldIn h q is
  was_held h q given = by_holder (is_path h holder) refl
    where
      by_holder : (t : Bool) → is_path h holder ≡ t → IsHeldIn h q is
      by_holder true is_it =
          let two : Some given.0 ≡ Some (with_outlets f m) = sym given.1 ∙ on_holder h is_it in
          let that : given.0 ≡ with_outlets f m = cc in
          let lt : 0 < held_count q (f m.page.outlets) = subst (λ (k : Linked). 0 < held_count q k.page.outlets) that given.2 in
          let e = counts q in
          (m, was_holder h is_it, omega (arith, lt, e))
      by_holder false off = (given.0, sym (other h off) ∙ given.1, given.2)

  still_held : (h q : List ℕ) → IsHeldIn h q is → IsHeldIn h q then_linked
  still_held h q given = by_holder (is_path h holder) refl
    where
      by_holder : (t : Bool) → is_path h holder ≡ t → IsHeldIn h q then_linked
      by_holder true is_it =
          let two : Some given.0 ≡ Some m = sym given.1 ∙ was_holder h is_it in
          let that : given.0 ≡ m = cc in
          let lt : 0 < held_count q m.page.outlets = subst (λ (k : Linked). 0 < held_count q k.page.outlets) that given.2 in
          let e = counts q in
          (with_outlets f m, on_holder h is_it, omega (arith, lt, e))
      by_holder false off = (given.0, other h off ∙ given.1, given.2)

  held : AreHeld then_linked
  held = record { linked = λ h q given. still_some q (b.bodies.linked h q (was_held h q given)); held = λ q some. by_held q (b.bodies.held q (was_some q some)); nearest = λ h q r given some e. b.bodies.nearest h q r (was_held h q given) (was_some r some) e }
    where
      by_held : (q : List ℕ) → (q ≡ []) ⊎ ((h : List ℕ) × IsHeldIn h q is) → (q ≡ []) ⊎ ((h : List ℕ) × IsHeldIn h q then_linked)
      by_held q (inl top) = inl top
      by_held q (inr given) = inr (given.0, still_held given.0 q given.1)

  each : ArePlaced places (next_name d) then_linked
  each =
      changed_all holder f (λ (y : List ℕ × Linked). IsPlaced places (next_name d) y.0 y.1) is
      (λ k there p.
      let that : m ≡ k = let two : Some m ≡ Some k = sym found ∙ there in cc in
      let same_counts : (q : List ℕ) → held_count q (f k.page.outlets) ≡ held_count q k.page.outlets = subst (λ (j : Linked). (q : List ℕ) → held_count q (f j.page.outlets) ≡ held_count q j.page.outlets) that counts in
      record {
        path = p.path;
        numbered = p.numbered;
        outlets = p.outlets;
        count = p.count;
        sites = p.sites;
        anchors = arranged_anchors new k.page.outlets o ∙ p.anchors;
        rising = p.rising;
        marked = p.marked;
        undrawn = arranged_undrawn k.page.serials k.fragment.parts new k.page.outlets o p.undrawn;
        unbound = p.unbound;
        bodies = arranged_in holder new new_in k.page.outlets o p.bodies;
        once = λ q. (let few = p.once q in let e = same_counts q in omega (arith, few, e));
        end = p.end;
      })
      b.each

  ordered : IsStrictlySortedBy path_cmp (map_keys then_linked)
  ordered = subst (λ (ks : List (List ℕ)). IsStrictlySortedBy path_cmp ks) (sym (changed_keys holder f is)) b.ordered

  apart : AreApart then_linked
  apart = changed_apart holder f is b.apart

  -- what stands
  abbrev go : List ℕ → Stands
  go = stands_at is

  abbrev bs : Bodies
  bs = groups_from (read_bodies go m.page.outlets) o

  then_read : (h : Bodies → Bodies) → bodies_from (map (λ (c : Body). go c.path) new) ≡ h (bodies_from (map (λ (c : Body). go c.path) x.bodies)) → at_block_all x.anchor h ts ≡ stands_at then_linked []
  then_read h becomes =
      ap (at_block_all x.anchor h) b.stands
      ∙ sym (bodies_changed places (next_name d) is holder m o x.anchor f h b.ordered b.each b.apart found (outlet_anchor places (next_name d) holder m o x placed at)
      (arranged_in holder new new_in m.page.outlets o placed.bodies) (
        arranged_group go new m.page.outlets o x at ∙ (becomes ∙ ap h (sym (stood_group go m.page.outlets o x at))),
        λ k ne. arranged_others go new m.page.outlets o k ne,
      ) [])

  -- in the same order
  built_alike : are_alike x.bodies new ≡ true → IsBuilt places looks d then_linked ts
  built_alike alike = record {
    holds = b.holds;
    stands = sym (all_still x.anchor ts) ∙ then_read (λ (cs : Bodies). cs) (ap bodies_from (alike_told go x.bodies new alike));
    homed = b.homed;
    ordered = ordered;
    each = each;
    apart = apart;
    bodies = held;
  }

  -- in another
  module _ (g : Dom) (order : List ℕ) (places_are : AreAt x.bodies order new) (becomes : Becomes d g (changed_in x.anchor (with_groups (picked order)))) (stays : Stays d g) where
    abbrev h : Bodies → Bodies
    h = bodies_picked order

    abbrev then_stands : Stands
    then_stands = at_block_all x.anchor h ts

    read : then_stands ≡ stands_at then_linked []
    read = then_read h (picked_told go x.bodies order new places_are)

    names : (n : ℕ) → times n (names_standing then_stands) ≡ times n (names_standing ts)
    names n =
        ap (λ (s : Stands). times n (names_standing s)) read
        ∙ (as_often n new o x same holder m at is found [] ∙ ap (λ (s : Stands). times n (names_standing s)) (sym b.stands))

    block : BlockAmong x.anchor bs ts
    block = subst (λ (s : Stands). BlockAmong x.anchor bs s) (sym b.stands) (block_at places (next_name d) is b.ordered b.each b.bodies holder m o x found at)

    anchor : IsAnchor x.anchor bs (rooms d) looks
    anchor = anchor_at x.anchor bs (rooms d) looks ts block None b.holds.shows.1

    drawn : changed_in x.anchor (with_groups (picked order)) (shows looks ts) ≡ shows looks then_stands
    drawn =
        groups_changed (rooms d) None x.anchor anchor.room (group_names (show_bodies looks bs)) looks ts (picked order) h b.holds.shows.1 anchor.there anchor.shape
        (λ cs are. sym (show_picked looks order cs))

    fewer : Fewer d g
    fewer = record { homes = λ q. inl (stays.homes q); next = stays.next }

    holds : Holds g (shows looks then_stands)
    holds = record {
      shows = (
        stays.top ∙ (b.holds.shows.0 ∙ sym (top_names looks x.anchor h ts)),
        subst (λ (s : NamedForest). ReadsIn (rooms g) None s) drawn (becomes None (shows looks ts) b.holds.shows.1),
      );
      all = λ q live.
          ap (among q) (names_stand looks then_stands)
          ∙ (same_among q (names_standing then_stands) (names_standing ts) (names q)
          ∙ (ap (among q) (sym (names_stand looks ts)) ∙ b.holds.all q (fewer_are_live d g q fewer live)));
      once =
          subst (λ (ks : List ℕ). IsDistinct nat_eq ks) (sym (names_stand looks then_stands))
          (same_distinct (names_standing ts) (names_standing then_stands) names (subst (λ (ks : List ℕ). IsDistinct nat_eq ks) (names_stand looks ts) b.holds.once));
    }

    pub built_picked : IsBuilt places looks g then_linked then_stands
    built_picked = record {
      holds = holds;
      stands = read;
      homed = homed_more (sources d) (sources g) (all_stay d g stays.homes) then_stands (bodies_are_homed (sources d) x.anchor h ts (λ cs hs. homed_picked (sources d) order cs hs) b.homed);
      ordered = ordered;
      each = subst (λ (n : ℕ). ArePlaced places n then_linked) (sym stays.next) each;
      apart = apart;
      bodies = held;
    }

  -- as the nodes were moved
  pub built_arranged : (g : Dom) (r : Option (ℕ × List ℕ)) → IsOrder r new (Some x) → PicksBy r d g → (us : Stands) × IsBuilt places looks g then_linked us
  built_arranged g None alike unmoved = (ts, subst (λ (e : Dom). IsBuilt places looks e then_linked ts) (sym unmoved) (built_alike alike))
  built_arranged g (Some r) order picks = (
    at_block_all x.anchor (bodies_picked r.1) ts,
    built_picked g r.1 order.1 (subst (λ (a : ℕ). Becomes d g (changed_in a (with_groups (picked r.1)))) order.0 picks.0) picks.1,
  )
