-- Where no watcher is dirty, and each block has the bodies that it calls for, the document that is shown is the rendering.
use Rattle.std.proofs.Common.{◌≡◌, ℕ, zero, suc, Bool, true, false, List, [], ◌∷◌, map, length, arith, cond, Option, None, Some, Result, Ok, Err, refl, ap, sym, subst, ◌∙◌, slice_get}
use Rattle.std.specs.Prelude.{◌==◌, ◌++◌, ◌<◌, is_some, not, slice_index_or}
use Rattle.std.proofs.lemmas.Bool.{eqb-true, eq-eqb}
use Rattle.std.specs.BTreeMap.{is_at}
use Rattle.std.specs.List.{AllByRecursion, list_any}
use Rattle.std.specs.List.Sorted.{IsStrictlySortedBy}
use Rattle.std.specs.Map.{lookup, keys_of}
use Rattle.std.specs.Option.{option_map_or}
use Rattle.std.specs.Ordering.{nat_cmp}
use Rattle.std.specs.declared.cmp.Ordering.TheVariants.{Less}
use Rattle.std.proofs.lemmas.Map.Keys.{sorted_head, sorted_tail}
use Rattle.ng_core.specs.State as act
use Rattle.ng_base.specs.Meets.{◌>>=◌}
use Rattle.ng_base.specs.Objects.{Object}
use Rattle.ng_base.specs.Order.{path_cmp}
use Rattle.ng_base.specs.Views.{ViewTree}
use Rattle.ng_base.specs.declared.path.Key.{Key}
use Rattle.ng_behaviour.specs.Scopes.{object_at}
use Rattle.ng_digest.specs.declared.log.Report.{Report}
use Rattle.ng_digest.specs.declared.rounds.DigestFault.{DigestFault}
use Rattle.ng_drawing.specs.Drawing.{shown_as}
use Rattle.ng_drawing.specs.Instance.{SiteState, Instance, instances_from, outlets_from, state_kept, snapshot_as, snapshot_now, rendered_now, site_now, is_two_way as is_kept_alone, IsFilled, IsFresh, AllFresh, AreFilled}
use Rattle.ng_drawing.specs.Roles.{Role}
use Rattle.ng_drawing.specs.Rows.{is_filled}
use Rattle.ng_drawing.specs.Cases.{Case, case_in, cases_of}
use Rattle.ng_drawing.specs.Template.{Site, Outlet, Filling}
use Rattle.ng_drawing.specs.declared.kind.SiteKind.{SiteKind}
use Rattle.ng_drawing.specs.declared.kind.SiteKind.TheVariants as sites
use Rattle.ng_drawing.proofs.FreshInstances.{fresh_instance}
use Rattle.ng_instances.specs.Bindings.{Bound, bound_in_table}
use Rattle.ng_build.specs.Controls.{Controls, state_under}
use Rattle.ng_instances.specs.Instances.{Body, OutletState, Page, Linked, Instances, is_path, linked_at, key_in, scope_number, is_site_of, is_site_in, read_bodies, read}
use Rattle.ng_instances.specs.Registering.{mark_in, way_of}
use Rattle.ng_instances.specs.Rows.{watch_kind, kind_against, kind_with, watching_site}
use Rattle.ng_link.specs.State.{State, Resting, kept_or, site_state, site_states, roles_in, groups_in, instance_join, nothing_linked, instance_at, shown, rendering}
use Rattle.ng_link.specs.Standing.{AreInner}
use Rattle.ng_link.proofs.Inner.{key_leads}
use Rattle.ng_link.proofs.PathsBelow.{other_path, same_path, less_other}
use Rattle.ng_link.proofs.Serials.{not_at}
use Rattle.ng_link.proofs.Undrawn.{rising_differ}
use Rattle.ng_behaviour.specs.Keys.{is_key}
use Rattle.ng_watch.specs.Laws.{is_two_way}
use Rattle.ng_watch.specs.Now.{value_now, snapshot_of, now}
use Rattle.ng_watch.specs.Seen.{Watching, Watcher}
use Rattle.ng_watch.specs.Table.{Table, found}
use Rattle.ng_watch.specs.Verdicts.{clean, verdict}
use Rattle.ng_watch.proofs.Judging.{clean_has_kept}
use Rattle.ng_page.specs.Answered.{WhenOk}
use Rattle.ng_commands.specs.Settled.{IsSettled, WatchesAt, site_keys, watching_at, AreWatched, IsOutlet, AreOutlets, IsRound, IsLinked, leads_in, cases_under, OutletFits, CallsFor, IsWatched, Fits}
use Rattle.ng_page.proofs.Fitting.{number_itself}
use Rattle.ng_commands.proofs.Watched.{number_there}

-- a site keeps what its watcher keeps
same_kind : (kind : SiteKind) → snapshot_of (watch_kind kind) ≡ snapshot_as kind
same_kind sites.Text = refl
same_kind sites.Words = refl
same_kind sites.Reference = refl
same_kind sites.Collection = refl
same_kind sites.Deep = refl
same_kind sites.TwoWay = refl

one_way : (kind : SiteKind) → is_two_way (watch_kind kind) ≡ false
one_way sites.Text = refl
one_way sites.Words = refl
one_way sites.Reference = refl
one_way sites.Collection = refl
one_way sites.Deep = refl
one_way sites.TwoWay = refl

-- the site of no two-way binding is watched as its kind says
same_against : (kind : SiteKind) (w : ℕ × List ℕ) → is_kept_alone kind ≡ false → kind_against kind w ≡ watch_kind kind
same_against sites.Text w e = refl
same_against sites.Words w e = refl
same_against sites.Reference w e = refl
same_against sites.Collection w e = refl
same_against sites.Deep w e = refl
same_against sites.TwoWay w e = absurd (cc)

same_with : (kind : SiteKind) (way : Option (ℕ × List ℕ)) → is_kept_alone kind ≡ false → kind_with kind way ≡ watch_kind kind
same_with kind None e = refl
same_with kind (Some w) e = same_against kind w e

same_now : (objects : List Object) (o : ℕ) (way : Option (ℕ × List ℕ)) (x : Site) → is_kept_alone x.kind ≡ false → snapshot_now objects o x ≡ now objects (watching_site o way x)
unfolding value_now snapshot_now
same_now objects o way x h = ap (λ f. value_now objects (watching_site o way x) >>= f objects) (sym (ap snapshot_of (same_with x.kind way h) ∙ same_kind x.kind))

-- a watcher that is clean has kept what is there now
clean_shows : (objects : List Object) (x : Site) (o : ℕ) (way : Option (ℕ × List ℕ)) (w : Watcher) → is_kept_alone x.kind ≡ false → w.watch ≡ watching_site o way x → verdict objects w ≡ Ok clean → rendered_now (snapshot_now objects o x) ≡ shown_as w.kept
clean_shows objects x o way w h is e =
    let k = (clean_has_kept objects w (ap (λ (v : Watching). is_two_way v.kind) is ∙ (ap is_two_way (same_with x.kind way h) ∙ one_way x.kind))).0 e in
    ap rendered_now (same_now objects o way x h ∙ (ap (now objects) (sym is) ∙ k.1)) ∙ ap (λ s. shown_as s) (sym k.2)

-- ---- the cases of a switch, by its site and by its number of registration

number_at_place : (ns : List ℕ) (i n : ℕ) → slice_get ns i ≡ Some n → slice_index_or ns i 0 ≡ n
number_at_place [] i n at = absurd (cc)
number_at_place (m ∷ ns) zero n at = cc
number_at_place (m ∷ ns) (suc i) n at = number_at_place ns i n at

place_below : (ns : List ℕ) (i n : ℕ) → slice_get ns i ≡ Some n → i < length ns
place_below [] i n at = absurd (cc)
place_below (m ∷ ns) zero n at = omega arith
place_below (m ∷ ns) (suc i) n at = let low = place_below ns i n at in omega (arith, low)

site_cases : (serials : List ℕ) (os : List Outlet) (site n : ℕ) → IsStrictlySortedBy nat_cmp serials → AllByRecursion (λ (o : Outlet). o.site < length serials) os → slice_get serials site ≡ Some n → cases_of os site ≡ cases_under serials os n
site_cases serials [] site n rising sites at = refl
site_cases serials (o ∷ os) site n rising sites at =
    ap (λ (b : Bool). cond b (case_in o.filling ++ cases_of os site) (cases_of os site)) (same_test (o.site == site) refl)
    ∙ ap (λ (cs : List Case). cond (is_at (nat_cmp n) (slice_index_or serials o.site 0)) (case_in o.filling ++ cs) cs) (site_cases serials os site n rising sites.1 at)
  where
    same_test : (b : Bool) → (o.site == site) ≡ b → (o.site == site) ≡ is_at (nat_cmp n) (slice_index_or serials o.site 0)
    same_test true e =
        let here : slice_index_or serials o.site 0 ≡ n = ap (λ (i : ℕ). slice_index_or serials i 0) (eqb-true o.site site e) ∙ number_at_place serials site n at in
        e ∙ sym (ap (is_at (nat_cmp n)) here ∙ number_itself n)
    same_test false e =
        e ∙ sym (not_at n (slice_index_or serials o.site 0) (λ same.
        rising_differ serials o.site site rising sites.0 (place_below serials site n at)
        (λ one. let two : true ≡ false = sym (eq-eqb o.site site one) ∙ e in cc)
        (sym same ∙ sym (number_at_place serials site n at))))

module _ (c : act.State) (leads : Key → Bool) (t : Table) (r : Resting) (cs : Controls) (settled : (k : Key) (w : Watcher) → found k t ≡ Some w → verdict c.objects w ≡ Ok clean) where
  site_shows : (scope : ℕ) (way : Option (ℕ × List ℕ)) (x : Site) (k : Key) → WatchesAt k (watching_site (object_at c.scopes scope) way x) t
      → site_now c.objects c.scopes (Some x) (Some (site_state t r cs scope k)) ≡ shown_as (state_kept (Some (site_state t r cs scope k)))
  site_shows scope way x k h = by_watcher (found k t) refl
    where
      state : Option Watcher → SiteState
      state o = record { key = k; scope = scope; kept = kept_or o (lookup (is_key k) r); rests = not (is_some o); control = state_under k cs }

      by_kind : (w : Watcher) → found k t ≡ Some w → (b : Bool) → is_kept_alone x.kind ≡ b → cond (is_kept_alone x.kind) (shown_as w.kept) (rendered_now (snapshot_now c.objects (object_at c.scopes scope) x)) ≡ shown_as w.kept
      by_kind w e true is = ap (λ (b : Bool). cond b (shown_as w.kept) (rendered_now (snapshot_now c.objects (object_at c.scopes scope) x))) is
      by_kind w e false is =
          ap (λ (b : Bool). cond b (shown_as w.kept) (rendered_now (snapshot_now c.objects (object_at c.scopes scope) x))) is
          ∙ clean_shows c.objects x (object_at c.scopes scope) way w is (h w e) (settled k w e)

      by_watcher : (o : Option Watcher) → found k t ≡ o → site_now c.objects c.scopes (Some x) (Some (state o)) ≡ shown_as (state_kept (Some (state o)))
      by_watcher None e = refl
      by_watcher (Some w) e = by_kind w e (is_kept_alone x.kind) refl

  abbrev shown_at : Page → ℕ → SiteState
  shown_at p n = site_state t r cs (scope_number p (mark_in p.marks n).over) (key_in p n)

  -- the keys of some sites lead to them
  abbrev AreLed : Page → List ℕ → Type 0
  AreLed p ns = AllByRecursion (λ (n : ℕ). leads (key_in p n) ≡ true) ns

  sites_show : (p : Page) (ns : List ℕ) (xs : List Site) (i : ℕ) → length ns ≡ length xs → AreLed p ns → AreWatched leads t (site_keys p) (watching_at c.scopes p) ns xs
      → site_now c.objects c.scopes (slice_get xs i) (slice_get (map (shown_at p) ns) i) ≡ shown_as (state_kept (slice_get (map (shown_at p) ns) i))
  sites_show p [] [] i e led h = refl
  sites_show p (n ∷ ns) [] i e led h = absurd (omega (arith, e))
  sites_show p [] (x ∷ xs) i e led h = absurd h
  sites_show p (n ∷ ns) (x ∷ xs) zero e led h = site_shows (scope_number p (mark_in p.marks n).over) (way_of c.scopes (bound_in_table n p.bounds)) x (key_in p n) (h.0 led.0)
  sites_show p (n ∷ ns) (x ∷ xs) (suc i) e led h = sites_show p ns xs i (omega (arith, e)) led.1 h.1

  -- ---- an outlet has the bodies that its site has kept to call for

  -- a site that is clean has kept a value
  kept_some : (k : Key) (w : Watcher) (x : Site) (o : ℕ) → w.watch ≡ watching_site o None x → found k t ≡ Some w → (v : ViewTree) × (w.kept ≡ Some v)
  kept_some k w x o is e = let h = (clean_has_kept c.objects w (ap (λ (v : Watching). is_two_way v.kind) is ∙ one_way x.kind)).0 (settled k w e) in (h.0, h.2)

  state_at : (f : ℕ → SiteState) (ns : List ℕ) (i n : ℕ) → slice_get ns i ≡ Some n → slice_get (map f ns) i ≡ Some (f n)
  state_at f [] i n at = absurd (cc)
  state_at f (m ∷ ns) zero n at = let same : m ≡ n = cc in ap (λ (k : ℕ). Some (f k)) same
  state_at f (m ∷ ns) (suc i) n at = state_at f ns i n at

  no_state : (f : ℕ → SiteState) (ns : List ℕ) (i : ℕ) → slice_get ns i ≡ None → slice_get (map f ns) i ≡ None
  no_state f [] i at = refl
  no_state f (m ∷ ns) zero at = absurd (cc)
  no_state f (m ∷ ns) (suc i) at = no_state f ns i at

  -- the site of a number is watched, and its key leads to it
  watched_at : (p : Page) (ns : List ℕ) (xs : List Site) (i n : ℕ) → length ns ≡ length xs → AreLed p ns → AreWatched leads t (site_keys p) (watching_at c.scopes p) ns xs → slice_get ns i ≡ Some n
      → (leads (key_in p n) ≡ true) × ((x : Site) × WatchesAt (key_in p n) (watching_at c.scopes p n x) t)
  watched_at p [] xs i n e led h at = absurd (cc)
  watched_at p (m ∷ ns) [] i n e led h at = absurd (omega (arith, e))
  watched_at p (m ∷ ns) (x ∷ xs) zero n e led h at =
      let same : m ≡ n = cc in (ap (λ (k : ℕ). leads (key_in p k)) (sym same) ∙ led.0, (x, subst (λ (k : ℕ). WatchesAt (key_in p k) (watching_at c.scopes p k x) t) same (h.0 led.0)))
  watched_at p (m ∷ ns) (x ∷ xs) (suc i) n e led h at = watched_at p ns xs i n (omega (arith, e)) led.1 h.1 at

  -- what is asked of an outlet, by the state of its site
  abbrev FilledBy : List Case → Filling → List Role → Option SiteState → Type 0
  FilledBy cases filling rs s = option_map_or (λ (x : SiteState). x.rests) s true ≡ false → is_filled cases filling (state_kept s) rs ≡ true

  one_filled : (p : List ℕ) (l : Linked) (o : Outlet) (x : OutletState) → IsLinked c leads t p l → AreLed l.page l.page.serials → IsOutlet l.page.serials o x → IsRound c.scopes l.page.bounds x
      → OutletFits leads t [] (site_keys l.page) l.page.serials l.fragment.outlets x → IsFilled (site_states t r cs l.page) (cases_of l.fragment.outlets) o (roles_in x.bodies)
  one_filled p l o x h led is round fit = by_place (slice_get l.page.serials o.site) refl
    where
      roles : List Role
      roles = roles_in x.bodies

      cases : List Case
      cases = cases_of l.fragment.outlets o.site

      under : List Case
      under = cases_under l.page.serials l.fragment.outlets x.serial

      by_watcher : (n : ℕ) → slice_get l.page.serials o.site ≡ Some n → (m : Option Watcher) → found (key_in l.page n) t ≡ m → (rest : Option (Option ViewTree)) → not (is_some m) ≡ false → is_filled cases o.filling (kept_or m rest) roles ≡ true
      by_watcher n at None e rest live = absurd (cc)
      by_watcher n at (Some w) e rest live =
          let number : x.serial ≡ n = is.0 ∙ number_at_place l.page.serials o.site n at in
          let site = watched_at l.page l.page.serials l.fragment.sites o.site n h.count led h.watched at in
          let over : ℕ = object_at c.scopes (scope_number l.page (mark_in l.page.marks n).over) in
          let unbound : bound_in_table n l.page.bounds ≡ None = ap (λ (k : ℕ). bound_in_table k l.page.bounds) (sym number) ∙ round.unbound in
          let watches : w.watch ≡ watching_site over None site.1.0 = site.1.1 w e ∙ ap (λ (b : Option Bound). watching_site over (way_of c.scopes b) site.1.0) unbound in
          let kept = kept_some (key_in l.page n) w site.1.0 over watches e in
          let call : CallsFor under w.kept x =
          fit (ap (λ (k : ℕ). list_any (is_at (nat_cmp k)) l.page.serials) number ∙ number_there l.page.serials o.site n at) (ap (λ (k : ℕ). leads (key_in l.page k)) number ∙ site.0) w
          (ap (λ (k : ℕ). found (key_in l.page k) t) number ∙ e) refl in
          let filled_now : is_filled under x.filling (Some kept.0) roles ≡ true = subst (λ (k : Option ViewTree). CallsFor under k x) kept.1 call in
          let those : under ≡ cases = ap (cases_under l.page.serials l.fragment.outlets) number ∙ sym (site_cases l.page.serials l.fragment.outlets o.site n h.rising h.sites at) in
          ap (λ (k : Option ViewTree). is_filled cases o.filling k roles) kept.1
          ∙ (ap (λ (cs : List Case). is_filled cs o.filling (Some kept.0) roles) (sym those)
          ∙ (ap (λ (f : Filling). is_filled under f (Some kept.0) roles) (sym is.1) ∙ filled_now))

      by_place : (i : Option ℕ) → slice_get l.page.serials o.site ≡ i → FilledBy cases o.filling roles (slice_get (site_states t r cs l.page) o.site)
      by_place None at = subst (FilledBy cases o.filling roles) (sym (no_state (shown_at l.page) l.page.serials o.site at)) (λ live. absurd (cc))
      by_place (Some n) at =
          subst (FilledBy cases o.filling roles) (sym (state_at (shown_at l.page) l.page.serials o.site n at))
          (λ live. by_watcher n at (found (key_in l.page n) t) refl (lookup (is_key (key_in l.page n)) r) live)

  abbrev go_in : Instances → List ℕ → Instance
  go_in is = read nothing_linked (instance_join t r cs) is

  all_fresh : (is : Instances) (bs : List Body) → ((p : List ℕ) → IsFresh c.objects c.scopes (go_in is p)) → AllFresh c.objects c.scopes (instances_from (map (λ (b : Body). go_in is b.path) bs))
  all_fresh is [] each = tt
  all_fresh is (b ∷ bs) each = (each b.path, all_fresh is bs each)

  are_filled : (p : List ℕ) (l : Linked) (is : Instances) (os : List Outlet) (xs : List OutletState) → IsLinked c leads t p l → AreLed l.page l.page.serials → AreOutlets l.page.serials os xs → AllByRecursion (IsRound c.scopes l.page.bounds) xs
      → AllByRecursion (OutletFits leads t [] (site_keys l.page) l.page.serials l.fragment.outlets) xs → ((q : List ℕ) → IsFresh c.objects c.scopes (go_in is q))
      → AreFilled c.objects c.scopes (site_states t r cs l.page) (cases_of l.fragment.outlets) os (outlets_from (groups_in xs (map instances_from (read_bodies (go_in is) xs))))
  are_filled p l is os [] h led outlets rounds fit each = tt
  are_filled p l is [] (x ∷ xs) h led outlets rounds fit each = absurd outlets
  are_filled p l is (o ∷ os) (x ∷ xs) h led outlets rounds fit each =
      (one_filled p l o x h led outlets.0 rounds.0 fit.0, all_fresh is x.bodies each, are_filled p l is os xs h led outlets.1 rounds.1 fit.1 each)

  abbrev IsRight : List ℕ × Linked → Type 0
  IsRight e = IsLinked c leads t e.0 e.1 × (AreLed e.1.page e.1.page.serials × AllByRecursion (OutletFits leads t [] (site_keys e.1.page) e.1.page.serials e.1.fragment.outlets) e.1.page.outlets)

  one_fresh : (e : List ℕ × Linked) (is : Instances) → IsRight e → ((q : List ℕ) → IsFresh c.objects c.scopes (go_in is q)) → IsFresh c.objects c.scopes (instance_join t r cs e.1 (read_bodies (go_in is) e.1.page.outlets))
  one_fresh e is h each = (
    (λ n. sites_show e.1.page e.1.page.serials e.1.fragment.sites n h.0.count h.1.0 h.0.watched),
    are_filled e.0 e.1 is e.1.fragment.outlets e.1.page.outlets h.0 h.1.0 h.0.outlets h.0.rounds h.1.1 each,
  )

  -- what is read off is fresh
  read_fresh : (is : Instances) → AllByRecursion IsRight is → (p : List ℕ) → IsFresh c.objects c.scopes (go_in is p)
  read_fresh [] all p = ((λ n. refl), tt)
  read_fresh (e ∷ is) all p = by_path (is_path p e.0) (one_fresh e is all.0 (read_fresh is all.1)) (read_fresh is all.1 p)
    where
      by_path : (b : Bool) → IsFresh c.objects c.scopes (instance_join t r cs e.1 (read_bodies (go_in is) e.1.page.outlets)) → IsFresh c.objects c.scopes (go_in is p)
          → IsFresh c.objects c.scopes (cond b (instance_join t r cs e.1 (read_bodies (go_in is) e.1.page.outlets)) (go_in is p))
      by_path true here more = here
      by_path false here more = more

-- ---- in path order each entry is found

-- what holds of all that is found holds of all
pub all_entries : (P : List ℕ × Linked → Type 0) (is : Instances) → IsStrictlySortedBy path_cmp (keys_of is) → ((p : List ℕ) (l : Linked) → linked_at p is ≡ Some l → P (p, l)) → AllByRecursion P is
all_entries P [] o each = tt
all_entries P (e ∷ is) o each = (
  each e.0 e.1 (ap (λ (b : Bool). cond b (Some e.1) (linked_at e.0 is)) (same_path e.0)),
  later is (sorted_head path_cmp e.0 (keys_of is) o) (all_entries (λ (x : List ℕ × Linked). path_cmp e.0 x.0 ≡ Less → P x) is (sorted_tail path_cmp e.0 (keys_of is) o) found_there),
)
  where
    found_there : (p : List ℕ) (l : Linked) → linked_at p is ≡ Some l → path_cmp e.0 p ≡ Less → P (p, l)
    found_there p l at less = each p l (ap (λ (b : Bool). cond b (Some e.1) (linked_at p is)) (other_path p e.0 (λ same. less_other e.0 p less (sym same))) ∙ at)

    later : (es : Instances) → AllByRecursion (λ (q : List ℕ). path_cmp e.0 q ≡ Less) (keys_of es) → AllByRecursion (λ (x : List ℕ × Linked). path_cmp e.0 x.0 ≡ Less → P x) es → AllByRecursion P es
    later [] below all = tt
    later (x ∷ es) below all = (all.0 below.0, later es below.1 all.1)

-- the key of a site of an instance leads to it
pub key_led : (s : State) → AreInner s.inner s.instances → (p : List ℕ) (l : Linked) → linked_at p s.instances ≡ Some l → l.page.path ≡ p → (n : ℕ) → is_site_of l.page n ≡ true → leads_in s (key_in l.page n) ≡ true
key_led s inner p l at own n site =
    ap (λ (q : List ℕ). is_site_in (linked_at q s.instances) (key_in l.page n)) (key_leads s.inner s.instances inner p l at own n) ∙ (ap (λ (o : Option Linked). is_site_in o (key_in l.page n)) at ∙ site)

keys_led : (s : State) → AreInner s.inner s.instances → (p : List ℕ) (l : Linked) → linked_at p s.instances ≡ Some l → l.page.path ≡ p → AllByRecursion (λ (n : ℕ). leads_in s (key_in l.page n) ≡ true) l.page.serials
keys_led s inner p l at own = by_place l.page.serials (λ j n there. number_there l.page.serials j n there)
  where
    by_place : (ns : List ℕ) → ((j n : ℕ) → slice_get ns j ≡ Some n → is_site_of l.page n ≡ true) → AllByRecursion (λ (n : ℕ). leads_in s (key_in l.page n) ≡ true) ns
    by_place [] each = tt
    by_place (n ∷ ns) each = (key_led s inner p l at own n (each 0 n refl), by_place ns (λ j m there. each (suc j) m there))

pub settled_renders : (s : State) → IsSettled s → IsWatched s → AreInner s.inner s.instances → Fits [] s → rendering s ≡ shown_as (shown s)
settled_renders s settled h inner fits =
    fresh_instance s.core.objects s.core.scopes (instance_at s.watchers s.resting s.controls s.instances [])
    (read_fresh s.core (leads_in s) s.watchers s.resting s.controls settled s.instances
    (all_entries (IsRight s.core (leads_in s) s.watchers s.resting s.controls settled) s.instances h.paths (λ p l at. (h.linked p l at, (keys_led s inner p l at (h.linked p l at).path, fits p l at)))) [])

pub when_done : (P Q : Type 0) (o : Option (Result Report DigestFault)) → WhenOk o P → (P → Q) → WhenOk o Q
when_done P Q None h f = tt
when_done P Q (Some (Ok report)) h f = f h
when_done P Q (Some (Err e)) h f = tt
