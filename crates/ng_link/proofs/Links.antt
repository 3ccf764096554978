-- What placing a fragment leaves stands.
use Rattle.std.proofs.Common.{◌≡◌, inl, inr, ◌≤◌, ◌<◌, ◌+◌, ℕ, zero, suc, Bool, true, false, List, [], ◌∷◌, Option, Some, None, refl, ap, ◌∙◌, sym, subst, map, cond, length, arith, slice_get, get_or, zero-add}
use Rattle.std.specs.Prelude.{IsSome, is_some, not, drop, option_and_then, option_map, unwrap_or}
use Rattle.std.specs.BTreeMap.{BTreeMap, is_at}
use Rattle.std.specs.List.{AllByRecursion, list_any}
use Rattle.std.specs.List.Sorted.{IsStrictlySortedBy}
use Rattle.std.specs.Map.{lookup}
use Rattle.std.specs.Ordering.{nat_cmp}
use Rattle.std.proofs.lemmas.Map.Made.{is_some-lookup}
use Rattle.std.proofs.lemmas.Option.{slice_get-get_or, slice_get_within}
use Rattle.ng_base.specs.declared.path.Key.{Key}
use Rattle.ng_behaviour.specs.Scopes.{Scope, path_at, object_at}
use Rattle.ng_control.specs.State.{ControlState}
use Rattle.ng_dom.specs.Document.{homes, next_name, Shows, Becomes, Stays}
use Rattle.ng_dom.specs.Drawing.{Stands, HomedAll, shows, at_block_all}
use Rattle.ng_dom.specs.Editing.{changed_in, with_groups, group_inserted}
use Rattle.ng_dom.specs.declared.dom.Dom.{Dom}
use Rattle.ng_drawing.specs.Looks.{seen_by}
use Rattle.ng_drawing.specs.Nodes.{nodes}
use Rattle.ng_drawing.specs.Roles.{Role}
use Rattle.ng_drawing.specs.Template.{Site, Outlet, Fragment}
use Rattle.ng_drawing.specs.declared.kind.SiteKind.TheVariants.{Text}
use Rattle.ng_drawing.specs.declared.origin.Origin.{Origin}
use Rattle.ng_language.specs.Trees.{no_trees}
use Rattle.ng_drawing.specs.Numbering.{after_parts, is_within, after_outlets}
use Rattle.ng_behaviour.specs.Keys.{is_key, begins}
use Rattle.ng_watch.specs.Seen.{Watcher}
use Rattle.ng_watch.specs.Table.{Table, watchers_of, found}
use Rattle.ng_watch.specs.declared.watched.Watched.{Watched}
use Rattle.ng_instances.specs.Bindings.{Bound, bound_text, bound_in, bound_both, bound_in_table, BoundStands}
use Rattle.ng_build.specs.Building.{unset, AllAt, Builds, IsStood}
use Rattle.ng_instances.specs.Changing.{Place, at_top, in_outlet, outlets_from}
use Rattle.ng_link.specs.Calls.{page_on, linked_on, taken_in}
use Rattle.ng_build.specs.Controls.{state_under, controls_begun}
use Rattle.ng_instances.specs.Instances.{OutletState, Inner, Page, Linked, Instances, Inners, is_path, linked_at, instance_path, key_in, keys_of, outlets_changed, body_added, with_instance, with_inner}
use Rattle.ng_build.specs.Linking.{is_bound_site, steps}
use Rattle.ng_instances.specs.PlaceOf.{outlet_of_linked, spot_from, spot_for}
use Rattle.ng_link.specs.FreePlace.{IsNewBelow, IsFree}
use Rattle.ng_link.specs.Placing.{IsRegistered}
use Rattle.ng_instances.specs.Registering.{Ground, scope_in_ground, Registered, mark_at, way_of, keys_on, row_at, site_rows}
use Rattle.ng_instances.specs.Rows.{Row, with_sites}
use Rattle.ng_build.specs.Shape.{keys_or, holes, anchors}
use Rattle.ng_build.specs.Sources.{sources}
use Rattle.ng_link.specs.Standing.{IsBelow, AreIn, AreUndrawn, IsPlaced, IsBuilt, AreInner, WatchersStand, IsStanding, Standing}
use Rattle.ng_instances.specs.InstanceOf.{spot_at, spot_in}
use Rattle.ng_link.specs.State.{State, kept_or, look_of, templates_of, places_of, state_of, looks_in}
use Rattle.ng_instances.specs.declared.instances.Linked as code
use Rattle.ng_link.specs.declared.works.Works.{Works}
use Rattle.ng_link.proofs.Added.{new_stands}
use Rattle.ng_link.proofs.AtBlocks.{counted_anchors}
use Rattle.ng_link.proofs.Below.{within}
use Rattle.ng_link.proofs.BodiesAt.{bodies_put}
use Rattle.ng_link.proofs.BuiltMore.{AreBare, bare_count, built_more}
use Rattle.ng_link.proofs.BuiltTop.{built_top}
use Rattle.ng_link.proofs.ControlStates.{all_on, begun-other}
use Rattle.ng_link.proofs.Counted.{is_done, ended_done, is_drawn_site, sites_draw, unbound_draws}
use Rattle.ng_link.proofs.Free.{new_same}
use Rattle.ng_link.proofs.Homed.{homed_more, all_stay}
use Rattle.ng_link.proofs.Inner.{is_among, inner_here, inner_other, path_noted, keys_at, key_leads, changed_inner, come_inner, other_leads}
use Rattle.ng_link.proofs.Lookups.{inserted_here}
use Rattle.ng_link.proofs.Marks.{marks_found, key_at, site_row, site_numbers, site_all, ground_all, ground_on, inner_below}
use Rattle.ng_link.proofs.NewInstance.{after, many_holes}
use Rattle.ng_link.proofs.Numbers.{both_true}
use Rattle.ng_build.proofs.Paths.{begins_itself, not_begins, two_ways}
use Rattle.ng_instances.proofs.PathIs.{path_is}
use Rattle.ng_link.proofs.PathsBelow.{is_that, other_path, not_path}
use Rattle.ng_instances.proofs.Places.{linked_seen}
use Rattle.ng_link.proofs.PlacedSites.{number_below}
use Rattle.ng_instances.proofs.Rows.{fresh_watcher, sites_other, all_at}
use Rattle.ng_link.proofs.FoundSites.{sites_found}
use Rattle.ng_link.proofs.Serials.{paired, paired_keys, paired_found}
use Rattle.ng_link.proofs.Watched.{RowStands, WayStands, stand_sites}
use Rattle.ng_instances.proofs.NotedStands.{noted_stands}

no_site : Site
no_site = record { kind = Text; one_time = false; program = no_trees }

-- outlets that nothing fills yet
module _ (which : Origin) (g : Ground) (serials : List ℕ) (f : Fragment) where
  outlets_anchors : (i : ℕ) (os : List Outlet) (names : List ℕ) → length os ≡ length names → map (λ (o : OutletState). o.anchor) (outlets_from which g serials f i os names) ≡ names
  outlets_anchors i [] [] e = refl
  outlets_anchors i [] (a ∷ names) e = absurd (omega (arith, e))
  outlets_anchors i (o ∷ os) [] e = absurd (omega (arith, e))
  outlets_anchors i (o ∷ os) (a ∷ names) e = ap (λ (ns : List ℕ). a ∷ ns) (outlets_anchors (i + 1) os names (omega (arith, e)))

  outlets_bare : (i : ℕ) (os : List Outlet) (names : List ℕ) → AreBare (outlets_from which g serials f i os names)
  outlets_bare i [] names = tt
  outlets_bare i (o ∷ os) [] = tt
  outlets_bare i (o ∷ os) (a ∷ names) = (refl, outlets_bare (i + 1) os names)

  outlets_in : (p : List ℕ) (i : ℕ) (os : List Outlet) (names : List ℕ) → AreIn p (outlets_from which g serials f i os names)
  outlets_in p i [] names = tt
  outlets_in p i (o ∷ os) [] = tt
  outlets_in p i (o ∷ os) (a ∷ names) = (tt, outlets_in p (i + 1) os names)

-- of what has kept nothing nothing is seen, whether it is a control or not
nothing_seen : (c : Option ControlState) → look_of (seen_by c None) ≡ record { text = []; words = []; truth = None }
nothing_seen None = refl
nothing_seen (Some c) = refl

-- a number whose site is drawn is one of the numbers of registration
numbered_in : (ss ns : List ℕ) (k : Key) → length ss ≡ length ns → IsSome (lookup (is_at (nat_cmp k.serial.0)) (paired ss ns)) → list_any (is_at (nat_cmp k.serial.0)) ss ≡ true
numbered_in ss ns k many h =
    ap (list_any (is_at (nat_cmp k.serial.0))) (sym (paired_keys ss ns many)) ∙ (sym (is_some-lookup (is_at (nat_cmp k.serial.0)) (paired ss ns)) ∙ h)

there_or : {A B : Type 0} (o : Option A) (f : A → Option B) (y : B) → option_and_then f o ≡ Some y → is_some o ≡ true
there_or None f y e = absurd (cc)
there_or (Some x) f y e = refl

some_seen : {A B : Type 0} (f : A → B) (o : Option A) → is_some o ≡ true → option_map f o ≡ None → ⊥
some_seen f None e g = absurd (cc)
some_seen f (Some x) e g = absurd (cc)

-- the outlet of a place is there
pub outlet_found : (o : ℕ) (r : Option Linked) → IsSome (outlet_of_linked o r) → (held : Linked) × (x : OutletState) × (r ≡ Some held) × (slice_get held.page.outlets o ≡ Some x)
outlet_found o None h = absurd (cc)
outlet_found o (Some held) h = by_place (slice_get held.page.outlets o) refl h
  where
    by_place : (x : Option OutletState) → slice_get held.page.outlets o ≡ x → IsSome x → (m : Linked) × (y : OutletState) × (Some held ≡ Some m) × (slice_get m.page.outlets o ≡ Some y)
    by_place None e some = absurd (cc)
    by_place (Some x) e some = (held, x, refl, e)

-- where an instance finds its place, nothing is linked on its path, or begins with it
inner_none : (inner : Inners) (is : Instances) → AreInner inner is → is ≡ [] → (q : List ℕ) → lookup (is_path q) inner ≡ None
inner_none inner is g nothing q = by_found (lookup (is_path q) inner) refl
  where
    by_found : (o : Option (List ℕ)) → lookup (is_path q) inner ≡ o → lookup (is_path q) inner ≡ None
    by_found None e = e
    by_found (Some c) e =
        let there = (g.leads q c e).there in
        absurd (let two : None ≡ Some there.0 = sym (ap (linked_at c) nothing) ∙ there.1.0 in cc)

none_if : {A : Type 0} (o : Option A) → (IsSome o → ⊥) → o ≡ None
none_if None h = refl
none_if (Some x) h = absurd (h refl)

pub free_path : (place : Place) (p : List ℕ) (s : State) → IsFree place p s → (q : List ℕ) → begins p q ≡ true → linked_at q s.instances ≡ None
free_path at_top p s is_free q on = ap (linked_at q) is_free.0
free_path (in_outlet holder o i role) p s is_free q on = none_if (linked_at q s.instances) (λ some. two_ways (begins p q) on (is_free.1.unused q (inl some)))

pub unused_path : (place : Place) (p : List ℕ) (s : State) → AreInner s.inner s.instances → IsFree place p s → (q : List ℕ) → begins p q ≡ true → lookup (is_path q) s.inner ≡ None
unused_path at_top p s g is_free q on = inner_none s.inner s.instances g is_free.0 q
unused_path (in_outlet holder o i role) p s g is_free q on = none_if (lookup (is_path q) s.inner) (λ some. two_ways (begins p q) on (is_free.1.unused q (inr some)))

-- what holds of all holds at each place
at_place : {X : Type 0} (P : X → Type 0) (xs : List X) (j : ℕ) (x : X) → AllByRecursion P xs → slice_get xs j ≡ Some x → P x
at_place P [] j x h e = absurd (cc)
at_place P (y ∷ ys) zero x h e = let same : y ≡ x = cc in subst P same h.0
at_place P (y ∷ ys) (suc j) x h e = at_place P ys j x h.1 e

way_stands : (scopes : List Scope) (objects : ℕ) → ((s : ℕ) → s < length scopes → object_at scopes s < objects) → (o : Option Bound) → ((b : Bound) → o ≡ Some b → BoundStands (length scopes) b) → WayStands objects (way_of scopes o)
way_stands scopes objects among None each = tt
way_stands scopes objects among (Some (bound_text s n ps)) each = tt
way_stands scopes objects among (Some (bound_in s n)) each = tt
way_stands scopes objects among (Some (bound_both s n o w)) each = among s (each (bound_both s n o w) refl).0

-- keys that are all on a path, or below it
all_keys_on : (p : List ℕ) (scopes : List Scope) (f : Fragment) (g : Ground) → ((n : ℕ) → begins p (path_at scopes (scope_in_ground g n)) ≡ true) → (k : ℕ) (ns : List ℕ) → AllByRecursion (λ (x : Key). begins p x.path ≡ true) (keys_on scopes f g k ns)
all_keys_on p scopes f g each k [] = tt
all_keys_on p scopes f g each k (n ∷ ns) = (each (mark_at f k).under, all_keys_on p scopes f g each (k + 1) ns)

or_on : (p q : List ℕ) (ks : List Key) → begins p q ≡ true → AllByRecursion (λ (x : Key). begins p x.path ≡ true) ks → (n : ℕ) → begins p (keys_or q ks n).path ≡ true
or_on p q [] own all n = own
or_on p q (k ∷ ks) own all zero = all.0
or_on p q (k ∷ ks) own all (suc n) = or_on p q ks own all.1 n

-- What stands then, where nothing was linked on the path.
module _ (w : Works) (ws : List (Key × Watched)) (cs : BTreeMap Key ControlState) (d : Dom) (is : BTreeMap (List ℕ) code.Linked) (os : BTreeMap ℕ (List ℕ)) (ps : BTreeMap (List ℕ) (List ℕ)) (one : code.Linked)
    (which : Origin) (scope m : ℕ) (path : List ℕ) (f : Fragment) (r : Registered) (on_scope : path ≡ path_at (state_of w).core.scopes scope)
    (spotted : (k : Key) → spot_in ps.entries is.entries k ≡ cond (is_path path (instance_path ps.entries k.path)) (spot_at one k) (spot_in ps.entries w.instances.entries k))
    (noted_inner : ps.entries ≡ with_inner path (page_on (state_of w).core.scopes which scope f r m).inner (state_of w).inner)
    (free : (q : List ℕ) → begins path q ≡ true → linked_at q (state_of w).instances ≡ None) (unused : (q : List ℕ) → begins path q ≡ true → lookup (is_path q) (state_of w).inner ≡ None)
    (g : AreInner (state_of w).inner (state_of w).instances) (reg : IsRegistered f scope r (state_of w)) (there : scope < length (state_of w).core.scopes)
    (numbered : after_parts 0 f.parts ≡ Some (length f.sites)) (outlined : after_outlets 0 f.parts ≡ Some (length f.outlets))
    (among : (s : ℕ) → s < length (state_of w).core.scopes → object_at (state_of w).core.scopes s < length (state_of w).core.objects) (count : length r.serials ≡ length f.sites)
    (spots : one.spots.entries ≡ paired r.serials (holes m f.parts))
    (undrawn : AreUndrawn r.serials f.parts (page_on (state_of w).core.scopes which scope f r m).outlets)
    (watchers : watchers_of ws ≡ with_sites (site_rows (state_of w).core.scopes f r) f.sites (state_of w).watchers)
    (controls : cs.entries ≡ controls_begun (page_on (state_of w).core.scopes which scope f r m).controls (state_of w).controls) where
  abbrev new : Works
  new = after w ws cs d is os ps

  abbrev scopes : List Scope
  scopes = (state_of w).core.scopes

  abbrev l : Linked
  l = linked_on scopes which scope f r m

  abbrev page : Page
  page = page_on scopes which scope f r m

  abbrev serials : List ℕ
  serials = r.serials

  abbrev inner : Inners
  inner = (state_of w).inner

  abbrev then_inner : Inners
  then_inner = with_inner path page.inner inner

  done : is_done (steps f.parts) ≡ true
  done = ended_done reg.ended.0 (steps f.parts) reg.ended.1

  as_many : length serials ≡ length (holes m f.parts)
  as_many = count ∙ sym (many_holes f m numbered)

  -- the inner scopes are below the path, and so are all keys on it or below it
  below : AllByRecursion (λ (i : Inner). IsBelow path i.path) page.inner
  below = subst (λ (p : List ℕ). AllByRecursion (λ (i : Inner). IsBelow p i.path) page.inner) (sym on_scope) (inner_below scopes (path_at scopes scope) (drop 1 r.at_hand.scopes) reg.within)

  all_on_path : (n : ℕ) → begins path (path_at scopes (scope_in_ground r.at_hand n)) ≡ true
  all_on_path n = ap (λ (p : List ℕ). begins p (path_at scopes (scope_in_ground r.at_hand n))) on_scope ∙ ground_on scopes r.at_hand scope reg.own reg.within n

  -- inner scopes lead to their instances
  come_leads : AreInner then_inner (with_instance path l (state_of w).instances)
  come_leads = come_inner path l inner (state_of w).instances g free unused below

  key_here : (s : ℕ) → instance_path ps.entries (key_in page s).path ≡ path
  key_here s =
      ap (λ (t : Inners). instance_path t (key_in page s).path) noted_inner
      ∙ key_leads then_inner (with_instance path l (state_of w).instances) come_leads path l (inserted_here path l (state_of w).instances) (sym on_scope) s

  here : (k : Key) → instance_path ps.entries k.path ≡ path → places_of new k ≡ spot_at one k
  here k e = spotted k ∙ ap (λ (b : Bool). cond b (spot_at one k) (spot_in ps.entries w.instances.entries k)) (is_that path (instance_path ps.entries k.path) (sym e))

  -- what leads elsewhere leads where it led
  elsewhere : (k : Key) → is_path path (instance_path ps.entries k.path) ≡ false → places_of new k ≡ places_of w k
  elsewhere k off =
      spotted k
      ∙ (ap (λ (b : Bool). cond b (spot_at one k) (spot_in ps.entries w.instances.entries k)) off
      ∙ ap (λ (q : List ℕ). option_and_then (λ (i : code.Linked). spot_at i k) (lookup (is_path q) w.instances.entries)) (same_instance (is_among k.path page.inner) refl))
    where
      same_instance : (b : Bool) → is_among k.path page.inner ≡ b → instance_path ps.entries k.path ≡ instance_path inner k.path
      same_instance true e =
          absurd (not_path path (instance_path ps.entries k.path) off
          (sym (ap (λ (t : Inners). instance_path t k.path) noted_inner ∙ path_noted then_inner k.path path (inner_here path page.inner inner k.path e))))
      same_instance false e =
          ap (λ (t : Inners). instance_path t k.path) noted_inner ∙ ap (λ (o : Option (List ℕ)). unwrap_or o k.path) (inner_other path page.inner inner k.path e)

  -- what was drawn was on no path that begins with this one
  was_off : (k : Key) (y : ℕ) → places_of w k ≡ Some y → begins path k.path ≡ false
  was_off k y e = not_begins path k.path (λ on.
      let q_is : instance_path inner k.path ≡ k.path = ap (λ (o : Option (List ℕ)). unwrap_or o k.path) (unused k.path on) in
      let some : is_some (lookup (is_path (instance_path inner k.path)) w.instances.entries) ≡ true = there_or (lookup (is_path (instance_path inner k.path)) w.instances.entries) (λ (i : code.Linked). spot_at i k) y e in
      some_seen _ (lookup (is_path (instance_path inner k.path)) w.instances.entries) some
      (sym (linked_seen (templates_of w) (instance_path inner k.path) w.instances.entries) ∙ (ap (λ (p : List ℕ). linked_at p (state_of w).instances) q_is ∙ free k.path on)))

  old : (k : Key) (y : ℕ) → places_of w k ≡ Some y → places_of new k ≡ Some y
  old k y e =
      let off = was_off k y e in
      let same : instance_path ps.entries k.path ≡ instance_path inner k.path = ap (λ (t : Inners). instance_path t k.path) noted_inner ∙ other_leads path l inner (state_of w).instances g free unused below k.path off in
      elsewhere k (ap (is_path path) same ∙ other_path path (instance_path inner k.path) (λ same_path_as. free_here off same_path_as)) ∙ e
    where
      free_here : begins path k.path ≡ false → path ≡ instance_path inner k.path → ⊥
      free_here off is_it =
          let some : is_some (lookup (is_path (instance_path inner k.path)) w.instances.entries) ≡ true = there_or (lookup (is_path (instance_path inner k.path)) w.instances.entries) (λ (i : code.Linked). spot_at i k) y e in
          some_seen _ (lookup (is_path (instance_path inner k.path)) w.instances.entries) some
          (sym (linked_seen (templates_of w) (instance_path inner k.path) w.instances.entries) ∙ (ap (λ (p : List ℕ). linked_at p (state_of w).instances) (sym is_it) ∙ free path (begins_itself path)))

  -- a place here is that of one of the numbers
  number_here : (k : Key) → instance_path ps.entries k.path ≡ path → IsSome (places_of new k) → list_any (is_at (nat_cmp k.serial.0)) serials ≡ true
  number_here k e some =
      numbered_in serials (holes m f.parts) k as_many
      (subst (λ (es : List (ℕ × ℕ)). IsSome (lookup (is_at (nat_cmp k.serial.0)) es)) spots (subst (λ (o : Option ℕ). IsSome o) (here k e) some))

  -- a site that is drawn has kept nothing
  none_kept : (j : ℕ) → is_drawn_site f.parts (length f.sites) j ≡ true → unset (keys_of page j) ≡ looks_in (state_of new) (keys_of page j)
  none_kept j e =
      let two = both_true (is_within 0 (length f.sites) j) (not (is_bound_site (steps f.parts) j)) e in
      let lt : j < length f.sites = (within 0 (length f.sites) j two.0).1 in
      let s : ℕ = get_or serials j 0 in
      let at : slice_get serials j ≡ Some s = slice_get-get_or serials j 0 (omega (arith, lt, count)) in
      let x : Site = get_or f.sites j no_site in
      let site : slice_get f.sites j ≡ Some x = slice_get-get_or f.sites j no_site lt in
      let row : Row = row_at scopes f r j s in
      let none : row.kept ≡ None = (reg.drawn j s at (not_true (is_bound_site (steps f.parts) j) two.1)).1 in
      let rising : IsStrictlySortedBy nat_cmp (map (λ (y : Row). y.key.serial.0) (site_rows scopes f r)) = subst (λ (ns : List ℕ). IsStrictlySortedBy nat_cmp ns) (sym (site_numbers scopes f r)) reg.rising in
      let k : Key = keys_of page j in
      let is_key_of : k ≡ row.key = keys_at page j s at ∙ key_at scopes which scope f r m reg.own reg.rising j s at in
      let table : Table = with_sites (site_rows scopes f r) f.sites (state_of w).watchers in
      let found_here : found k (watchers_of ws) ≡ Some (fresh_watcher row x) =
      ap (found k) watchers ∙ (ap (λ (q : Key). found q table) is_key_of ∙ sites_found (site_rows scopes f r) f.sites (state_of w).watchers j row x rising (site_row scopes f r j s at) site none) in
      sym (ap (λ (o : Option Watcher). look_of (seen_by (state_under k cs.entries) (kept_or o (lookup (is_key k) (state_of w).resting)))) found_here ∙ nothing_seen (state_under k cs.entries))
    where
      not_true : (b : Bool) → not b ≡ true → b ≡ false
      not_true true h = absurd (cc)
      not_true false h = refl

  starts : shows unset (new_stands l) ≡ shows (looks_in (state_of new)) (new_stands l)
  starts =
      new_same (looks_in (state_of new)) l (is_drawn_site f.parts (length f.sites)) (length f.sites) (sites_draw (length f.sites) f.parts numbered done)
      (λ j e. (within 0 (length f.sites) j (both_true (is_within 0 (length f.sites) j) (not (is_bound_site (steps f.parts) j)) e).0).1) none_kept

  -- a site of another instance shows what it showed
  alike : (k : Key) (q : ℕ) → places_of w k ≡ Some q → looks_in (state_of w) k ≡ looks_in (state_of new) k
  alike k q at =
      let off = was_off k q at in
      let rows_on : AllByRecursion (λ (x : Row). begins path x.key.path ≡ true) (site_rows scopes f r) = site_all (λ (x : Row). begins path x.key.path ≡ true) scopes f r (λ i n. all_on_path (mark_at f i).under) in
      let found_still : found k (watchers_of ws) ≡ found k (state_of w).watchers =
      ap (found k) watchers
      ∙ sites_other (site_rows scopes f r) f.sites (state_of w).watchers k
      (λ j x at_j e. two_ways (begins path k.path) (ap (λ (y : Key). begins path y.path) e ∙ at_place (λ (y : Row). begins path y.key.path ≡ true) (site_rows scopes f r) j x rows_on at_j) off) in
      let ks : List Key = keys_on scopes f r.at_hand 0 serials in
      let own : begins path (path_at scopes scope) ≡ true = ap (begins path) (sym on_scope) ∙ begins_itself path in
      let state_still : state_under k cs.entries ≡ state_under k (state_of w).controls =
      ap (state_under k) controls
      ∙ begun-other path page.controls (state_of w).controls k
      (all_on path (keys_or (path_at scopes scope) ks) (or_on path (path_at scopes scope) ks own (all_keys_on path scopes f r.at_hand all_on_path 0 serials)) m f.parts [] tt) off in
      sym
      (ap (λ (o : Option Watcher). look_of (seen_by (state_under k cs.entries) (kept_or o (lookup (is_key k) (state_of w).resting)))) found_still
      ∙ ap (λ (c : Option ControlState). look_of (seen_by c (kept_or (found k (state_of w).watchers) (lookup (is_key k) (state_of w).resting)))) state_still)

  places : AllAt (places_of new) (keys_of page) 0 (holes m f.parts)
  places =
      all_at (places_of new) (keys_of page) 0 (holes m f.parts)
      (λ j x e.
      let s : ℕ = get_or serials j 0 in
      let at : slice_get serials j ≡ Some s = slice_get-get_or serials j 0 (let h = slice_get_within (holes m f.parts) j x e in omega (arith, h, as_many)) in
      ap (λ (i : ℕ). places_of new (keys_of page i)) (zero-add j)
      ∙ (ap (places_of new) (keys_at page j s at)
      ∙ (here (key_in page s) (key_here s) ∙ (ap (lookup (is_at (nat_cmp s))) spots ∙ paired_found serials (holes m f.parts) j s x reg.rising at e))))

  outlets_many : length f.outlets ≡ length (anchors m f.parts)
  outlets_many = let all = counted_anchors m 0 (length f.outlets) f.parts outlined in omega (arith, all)

  bare : AreBare l.page.outlets
  bare = outlets_bare which r.at_hand serials f 0 f.outlets (anchors m f.parts)

  placed : m + nodes f.parts ≤ next_name d → IsPlaced (places_of new) (next_name d) path l
  placed end = record {
    path = sym on_scope;
    numbered = numbered;
    outlets = outlined;
    count = count;
    sites = places;
    anchors = outlets_anchors which r.at_hand serials f 0 f.outlets (anchors m f.parts) outlets_many;
    rising = reg.rising;
    marked = marks_found f serials reg.rising;
    undrawn = undrawn;
    unbound = unbound_draws serials r.bounds (length f.sites) f.parts numbered count done (λ i n at off. (reg.drawn i n at off).0);
    bodies = outlets_in which r.at_hand serials f path 0 f.outlets (anchors m f.parts);
    once = λ q. let none = bare_count q l.page.outlets bare in omega (arith, none);
    end = end;
  }

  -- the numbers of sites
  numbers_below : ((k : Key) → IsSome (places_of w k) → k.serial.0 < (state_of w).core.serial) → (k : Key) → IsSome (places_of new k) → k.serial.0 < (state_of w).core.serial
  numbers_below before k some = by_path (is_path path (instance_path ps.entries k.path)) refl
    where
      by_path : (b : Bool) → is_path path (instance_path ps.entries k.path) ≡ b → k.serial.0 < (state_of w).core.serial
      by_path true e = number_below serials (state_of w).core.serial k reg.below (number_here k (sym (path_is path (instance_path ps.entries k.path) e)) some)
      by_path false e = before k (subst (λ (o : Option ℕ). IsSome o) (elsewhere k e) some)

  watched_still : WatchersStand (length (state_of w).core.objects) (state_of w).watchers → WatchersStand (length (state_of w).core.objects) (watchers_of ws)
  watched_still watched =
      rw watchers
      (stand_sites (length (state_of w).core.objects) (site_rows scopes f r) f.sites (state_of w).watchers
      (site_all (RowStands (length (state_of w).core.objects)) scopes f r (λ i n. (
        among (scope_in_ground r.at_hand (mark_at f i).over) (ground_there (mark_at f i).over),
        way_stands scopes (length (state_of w).core.objects) among (bound_in_table n r.bounds) (λ b at. noted_stands (length scopes) n r.bounds b reg.bounds at),
      ))) watched)
    where
      rest_there : AllByRecursion (λ (n : ℕ). n < length scopes) (drop 1 r.at_hand.scopes)
      rest_there = (subst (λ (xs : List ℕ). AllByRecursion (λ (n : ℕ). n < length scopes) xs) reg.own reg.scopes).1

      ground_there : (n : ℕ) → scope_in_ground r.at_hand n < length scopes
      ground_there n = ground_all (λ (s : ℕ). s < length scopes) r.at_hand scope reg.own there rest_there n

  -- at the top
  pub top_stands : (state_of w).instances ≡ [] → path ≡ [] → (state_of new).instances ≡ with_instance path l (state_of w).instances → m ≡ next_name w.dom
      → ((q : ℕ) → q < next_name w.dom → homes d q ≡ homes w.dom q) → next_name d ≡ next_name w.dom + nodes f.parts → Shows d (shows unset (new_stands l)) → HomedAll (sources d) (new_stands l)
      → (ts : Stands) → Standing w ts → IsStanding new
  top_stands nothing root noted node older next shown homed ts stood =
      let end : m + nodes f.parts ≤ next_name d = omega (arith, node, next) in
      let b : IsBuilt (places_of w) (looks_in (state_of w)) w.dom [] ts = subst (λ (x : Instances). IsBuilt (places_of w) (looks_in (state_of w)) w.dom x ts) nothing stood.built in
      let top =
      built_top (places_of w) (looks_in (state_of w)) (looks_in (state_of new)) w.dom d ts l b node bare (places_of new)
      (subst (λ (p : List ℕ). IsPlaced (places_of new) (next_name d) p l) root (placed end)) starts
      older next shown homed in
      let are : with_instance [] l [] ≡ (state_of new).instances = ap (λ (p : List ℕ). with_instance p l []) (sym root) ∙ (ap (with_instance path l) (sym nothing) ∙ sym noted) in (
        new_stands l,
        record {
          built = subst (λ (x : Instances). IsBuilt (places_of new) (looks_in (state_of new)) d x (new_stands l)) are top;
          inner = subst (λ (t : Inners). AreInner t (state_of new).instances) (sym noted_inner) (subst (λ (x : Instances). AreInner then_inner x) (sym noted) come_leads);
          below = numbers_below stood.below;
          watched = watched_still stood.watched;
        },
      )

  -- in an outlet
  pub outlet_stands : (holder : List ℕ) (o i : ℕ) (role : Role) (held : Linked) (x : OutletState) (e : Dom) → IsNewBelow holder path (state_of w) → linked_at holder (state_of w).instances ≡ Some held → slice_get held.page.outlets o ≡ Some x
      → (state_of new).instances ≡ outlets_changed holder (body_added o i (record { path = path; role = role })) (with_instance path l (state_of w).instances) → m ≡ next_name w.dom
      → Builds (Some x.anchor) (new_stands l) (nodes f.parts) w.dom e → Becomes e d (changed_in x.anchor (with_groups (group_inserted i (shows unset (new_stands l))))) → Stays e d
      → (ts : Stands) → Standing w ts → IsStanding new
  outlet_stands holder o i role held x e is_new found_holder at noted node builds put stays ts stood =
      let next : next_name d ≡ next_name w.dom + nodes f.parts = stays.next ∙ builds.next in
      let end : m + nodes f.parts ≤ next_name d = omega (arith, node, next) in
      let more =
      built_more (places_of w) (places_of new) (looks_in (state_of w)) (looks_in (state_of new)) w.dom e d (state_of w).instances ts holder path is_new.below o i role held x l stood.built found_holder at
      (free path (begins_itself path)) (λ q some. is_new.unused q (inl some)) is_new.nearest node bare (placed end) old alike starts builds put stays in
      let then_stands : Stands = at_block_all x.anchor (bodies_put i (new_stands l)) ts in
      let body : List OutletState → List OutletState = body_added o i (record { path = path; role = role }) in
      let then_linked : Instances = outlets_changed holder body (with_instance path l (state_of w).instances) in (
        then_stands,
        record {
          built = subst (λ (y : Instances). IsBuilt (places_of new) (looks_in (state_of new)) d y then_stands) (sym noted) more;
          inner =
              subst (λ (t : Inners). AreInner t (state_of new).instances) (sym noted_inner)
              (subst (λ (y : Instances). AreInner then_inner y) (sym noted) (changed_inner holder body (with_instance path l (state_of w).instances) then_inner come_leads));
          below = numbers_below stood.below;
          watched = watched_still stood.watched;
        },
      )

  -- at either place
  pub placed_stands : (place : Place) → IsFree place path (state_of w) → (state_of new).instances ≡ taken_in place path (with_instance path l (state_of w).instances) → m ≡ next_name w.dom
      → IsStood (spot_for place (state_of w).instances).0 (spot_for place (state_of w).instances).1 (new_stands l) (nodes f.parts) w.dom d → (ts : Stands) → Standing w ts → IsStanding new
  placed_stands at_top is_free noted node stood ts stands =
      top_stands is_free.0 is_free.1 noted node (λ q lt. stood.put.1.homes q ∙ stood.builds.homes q lt) (stood.put.1.next ∙ stood.builds.next) stood.put.0
      (homed_more (sources stood.apart) (sources d) (all_stay stood.apart d stood.put.1.homes) (new_stands l) stood.builds.homed) ts stands
  placed_stands (in_outlet holder o i role) is_free noted node stood ts stands =
      let there_is = outlet_found o (linked_at holder (state_of w).instances) is_free.0 in
      let spot : outlet_of_linked o (linked_at holder (state_of w).instances) ≡ Some there_is.1 = ap (outlet_of_linked o) there_is.2 ∙ there_is.3 in
      let at_spot : IsStood (Some there_is.1.anchor) i (new_stands l) (nodes f.parts) w.dom d =
      subst (λ (x : Option OutletState). IsStood (spot_from i x).0 (spot_from i x).1 (new_stands l) (nodes f.parts) w.dom d) spot stood in
      outlet_stands holder o i role there_is.0 there_is.1 at_spot.apart is_free.1 there_is.2 there_is.3 noted node at_spot.builds at_spot.put.0 at_spot.put.1 ts stands
