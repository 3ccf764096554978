-- A fire under way: what is linked is watched, and each other block has the bodies that it calls for.
use Rattle.std.proofs.Common.{◌≡◌, ◌⊎◌, inl, inr, ◌<◌, ℕ, Bool, true, false, List, [], ◌∷◌, ◌++◌, length, cond, Option, Some, None, refl, ap, sym, subst, ◌∙◌, arith, slice_get, slice_index_or}
use Rattle.std.specs.List.{AllByRecursion, list_any}
use Rattle.ng_base.specs.Views.{ViewTree}
use Rattle.ng_base.specs.declared.path.Key.{Key}
use Rattle.ng_behaviour.specs.Scopes.{Scope, at, path_at, children_at, child_path, with_child, IsScopeTree}
use Rattle.ng_behaviour.proofs.Grown.{fresh-none}
use Rattle.ng_drawing.specs.Roles.{Role}
use Rattle.ng_drawing.specs.Template.{Fragment}
use Rattle.ng_drawing.specs.declared.origin.Origin.{Origin}
use Rattle.ng_rows.specs.Chosen.{goes}
use Rattle.ng_fire.specs.Blocks.{Firing, went, gone, all_gone}
use Rattle.ng_changes.specs.Runs.{destroy_run}
use Rattle.ng_instances.specs.Bindings.{Bounds}
use Rattle.ng_instances.specs.Changing.{in_outlet}
use Rattle.ng_link.specs.Calls.{left_at, placed_on, unlinked_at}
use Rattle.ng_link.specs.Events.{scope_in}
use Rattle.ng_instances.specs.Instances.{Body, OutletState, Linked, Inners, is_path, linked_at, instance_path, key_in, is_site_of, is_filled_by, with_outlets, body_added, body_gone}
use Rattle.ng_instances.specs.Registering.{Registered}
use Rattle.ng_link.specs.Standing.{body_count, held_count}
use Rattle.ng_link.specs.State.{State}
use Rattle.ng_build.proofs.Keys.{equal_numbers}
use Rattle.ng_link.proofs.Numbers.{both_true}
use Rattle.ng_link.proofs.PathsBelow.{other_path}
use Rattle.ng_behaviour.specs.Keys.{is_key}
use Rattle.ng_watch.specs.Seen.{Watcher}
use Rattle.ng_watch.specs.Table.{found}
use Rattle.ng_commands.specs.Settled.{IsChild, IsRound, leads_in, IsWatched, Fits}
use Rattle.ng_commands.proofs.FitsStay.{fits_stays}
use Rattle.ng_page.proofs.Fitting.{IsOut}
use Rattle.ng_page.proofs.Going.{leaves, Goes, goes_on, AreSpared, spared_on}
use Rattle.ng_page.proofs.NewRows.{index_there}
use Rattle.ng_page.proofs.Placing.{IsNew, HasRoom, came_leads, came_path, low_of, others_found, holder_was, placed_watched, placed_fits}
use Rattle.ng_commands.proofs.ScopesStay.{ScopesStay, scopes_trans, scopes_grow, child_there, child_on, child_counted}
use Rattle.ng_commands.proofs.Sites.{SitesStay, same_site, left_sites}
use Rattle.ng_commands.proofs.StepsStay.{followed_sites, destroyed_stays}
use Rattle.ng_page.proofs.Unlinking.{unlinked_some, unlinked_here, cut_leads, cut_path, unlinked_watched, unlinked_fits}
use Rattle.ng_commands.proofs.Watched.{all_map, watched_stays}

-- ---- a scope that was made for a body

pub child_path_there : (scope : ℕ) (t u : List Scope) (object : ℕ) → ScopesStay (with_child t scope object) u → path_at u (length t) ≡ child_path t scope
child_path_there scope t u object stay = stay.paths (length t) (child_there t scope object) ∙ child_on t scope object

pub child_free : (scope : ℕ) (t u : List Scope) (object : ℕ) (role : Role) → scope < length t → ScopesStay (with_child t scope object) u → IsChild u scope (record { path = path_at u (length t); role = role })
child_free scope t u object role there stay =
    let long : ScopesStay t u = scopes_trans t (with_child t scope object) u (scopes_grow t scope object) stay in (
      length (children_at t scope),
      (let one = child_counted t scope object there in let two = stay.children scope (let more = scopes_grow t scope object in let le = more.more in omega (arith, there, le)) in omega (arith, one, two)),
      child_path_there scope t u object stay ∙ ap (λ (p : List ℕ). p ++ length (children_at t scope) ∷ []) (sym (long.paths scope there)),
    )

none_held : (p : List ℕ) (xs : List OutletState) → AllByRecursion (λ (x : OutletState). AllByRecursion (λ (b : Body). p ≡ b.path → ⊥) x.bodies) xs → held_count p xs ≡ 0
none_held p [] all = refl
none_held p (x ∷ xs) all = let here = none_here x.bodies all.0 in let more = none_held p xs all.1 in omega (arith, here, more)
  where
    none_here : (bs : List Body) → AllByRecursion (λ (b : Body). p ≡ b.path → ⊥) bs → body_count p bs ≡ 0
    none_here [] all = refl
    none_here (b ∷ bs) all =
        let off : cond {A = ℕ} (is_path p b.path) 1 0 ≡ 0 = ap (λ (t : Bool). cond {A = ℕ} t 1 0) (other_path p b.path all.0) in
        let more = none_here bs all.1 in
        omega (arith, off, more)

-- the next child's path is none of a body that is there: that is the path of a scope
body_apart : (t : List Scope) (scope around : ℕ) (p : List ℕ) (b : Body) → IsScopeTree t → scope < length t → p ≡ child_path t scope → IsChild t around b → p ≡ b.path → ⊥
body_apart t scope around p b tree there e c same =
    let n : ℕ = slice_index_or (children_at t around) c.0 0 in
    let two = tree.numbered around c.0 n (index_there (children_at t around) c.0 c.1) in
    let path : path_at t n ≡ child_path t scope = two.1 ∙ (sym c.2 ∙ (sym same ∙ e)) in
    let one : ◌≡◌ {A = Option ℕ} None (Some n) = sym (fresh-none t scope tree there) ∙ (ap (at t) (sym path) ∙ tree.leads n two.0) in
    absurd (cc)

-- nor is the path of a scope that is there
pub path_apart : (t : List Scope) (scope n : ℕ) → IsScopeTree t → scope < length t → n < length t → path_at t n ≡ child_path t scope → ⊥
path_apart t scope n tree there low path =
    let one : ◌≡◌ {A = Option ℕ} None (Some n) = sym (fresh-none t scope tree there) ∙ (ap (at t) (sym path) ∙ tree.leads n low) in
    absurd (cc)

pub next_free : (t : List Scope) (scope : ℕ) (p : List ℕ) (bs : Bounds) (xs : List OutletState) → IsScopeTree t → scope < length t → p ≡ child_path t scope → AllByRecursion (IsRound t bs) xs → held_count p xs ≡ 0
next_free t scope p bs xs tree there e all =
    none_held p xs
    (all_map (IsRound t bs) (λ (x : OutletState). AllByRecursion (λ (b : Body). p ≡ b.path → ⊥) x.bodies) xs
    (λ x r. all_map (IsChild t x.scope) (λ (b : Body). p ≡ b.path → ⊥) x.bodies (λ b c. body_apart t scope x.scope p b tree there e c) r.bodies) all)

-- ---- a fire under way: its key, which is that of a site of an instance on a path, is one of those that are left out

module _ (k : Key) (v : ViewTree) (holder : List ℕ) (ks : List Key) (left : list_any (is_key k) ks ≡ true) where
  pub record IsUnder (s : State) : Type 0 where
    pub watched : IsWatched s
    pub fits : Fits ks s
    pub low : k.serial.0 < s.core.serial
    pub led : leads_in s k ≡ true → instance_path s.inner k.path ≡ holder
    pub own : (m : Linked) → linked_at holder s.instances ≡ Some m → key_in m.page k.serial.0 ≡ k
    pub keeps : (m : Linked) → linked_at holder s.instances ≡ Some m → is_site_of m.page k.serial.0 ≡ true → leads_in s k ≡ true → (w : Watcher) → found k s.watchers ≡ Some w → w.kept ≡ Some v

  pub under_stays : (s t : State) → SitesStay s t → IsUnder s → IsUnder t
  under_stays s t stay u =
      let same : (m : Linked) → linked_at holder t.instances ≡ Some m → linked_at holder s.instances ≡ Some m = λ m at. ap (linked_at holder) (sym stay.instances) ∙ at in
      record {
        watched = watched_stays s t stay u.watched;
        fits = fits_stays s t ks stay u.watched.keys u.fits;
        low = let low = u.low in let more = stay.core.serial in omega (arith, low, more);
        led = λ on. ap (λ (x : Inners). instance_path x k.path) stay.inner ∙ u.led (sym (same_site s t stay.instances stay.inner k) ∙ on);
        own = λ m at. u.own m (same m at);
        keeps = λ m at site on w e.
            let was : leads_in s k ≡ true = sym (same_site s t stay.instances stay.inner k) ∙ on in
            u.keeps m (same m at) site was w (stay.found u.watched.keys k w was e);
      }

  -- an outlet of the site isn't asked
  pub not_asked : (m : Linked) (x : OutletState) → key_in m.page k.serial.0 ≡ k → is_filled_by k.serial.0 x ≡ true → list_any (is_key (key_in m.page x.serial)) ks ≡ true
  not_asked m x own on =
      ap (λ (n : ℕ). list_any (is_key (key_in m.page n)) ks) (let e : k.serial.0 ≡ x.serial = equal_numbers k.serial.0 x.serial on in sym e)
      ∙ (ap (λ (q : Key). list_any (is_key q) ks) own ∙ left)

  -- ---- a body goes

  -- these bodies of the instance are to go
  abbrev pub AreGoing : List Body → State → Type 0
  AreGoing bs s = (m : Linked) → linked_at holder s.instances ≡ Some m → AllByRecursion (Goes k.serial.0 v bs) m.page.outlets

  apart_here : (b : Body) (bs : List Body) (s : State) → AreGoing (b ∷ bs) s → ((m : Linked) → linked_at holder s.instances ≡ Some m → key_in m.page k.serial.0 ≡ k)
      → (m : Linked) → linked_at holder s.instances ≡ Some m → AllByRecursion (λ (x : OutletState). IsOut ks (key_in m.page x.serial) → body_count b.path x.bodies ≡ 0) m.page.outlets
  apart_here b bs s h own m at =
      all_map (Goes k.serial.0 v (b ∷ bs)) (λ (x : OutletState). IsOut ks (key_in m.page x.serial) → body_count b.path x.bodies ≡ 0) m.page.outlets (λ x g out. by_filled x g out (leaves k.serial.0 v x) refl) (h m at)
    where
      by_filled : (x : OutletState) → Goes k.serial.0 v (b ∷ bs) x → IsOut ks (key_in m.page x.serial) → (t : Bool) → leaves k.serial.0 v x ≡ t → body_count b.path x.bodies ≡ 0
      by_filled x g out true on = let two : true ≡ false = sym (not_asked m x (own m at) (both_true (is_filled_by k.serial.0 x) (goes x.filling v) on).0) ∙ out in absurd (cc)
      by_filled x g out false off = (g.apart off).0

  pub under_unlinked : (p : List ℕ) (s : State) → ((m : Linked) → linked_at holder s.instances ≡ Some m → AllByRecursion (λ (x : OutletState). IsOut ks (key_in m.page x.serial) → body_count p x.bodies ≡ 0) m.page.outlets)
      → IsUnder s → IsUnder (unlinked_at holder p s)
  under_unlinked p s apart u = record {
    watched = unlinked_watched holder p s u.watched;
    fits = unlinked_fits holder p s ks u.watched apart u.fits;
    low = u.low;
    led = λ on. cut_path holder p s.inner s.instances k on ∙ u.led (cut_leads holder p s.inner s.instances k on);
    own = λ m at. by_own m (unlinked_some holder p holder s.instances m at);
    keeps = λ m at site on w e. by_kept m site (cut_leads holder p s.inner s.instances k on) w e (unlinked_some holder p holder s.instances m at);
  }
    where
      by_own : (m : Linked) → (l : Linked) × (linked_at holder s.instances ≡ Some l) × ((m ≡ l) ⊎ ((holder ≡ holder) × (m ≡ with_outlets (body_gone p) l))) → key_in m.page k.serial.0 ≡ k
      by_own m (l, at, inl same) = ap (λ (x : Linked). key_in x.page k.serial.0) same ∙ u.own l at
      by_own m (l, at, inr two) = ap (λ (x : Linked). key_in x.page k.serial.0) two.1 ∙ u.own l at

      kept_one : (l : Linked) → linked_at holder s.instances ≡ Some l → is_site_of l.page k.serial.0 ≡ true → leads_in s k ≡ true → (w : Watcher) → found k (left_at p s).watchers ≡ Some w → w.kept ≡ Some v
      kept_one l at site was w e = u.keeps l at site was w ((left_sites p s).found u.watched.keys k w was e)

      by_kept : (m : Linked) → is_site_of m.page k.serial.0 ≡ true → leads_in s k ≡ true → (w : Watcher) → found k (left_at p s).watchers ≡ Some w
          → (l : Linked) × (linked_at holder s.instances ≡ Some l) × ((m ≡ l) ⊎ ((holder ≡ holder) × (m ≡ with_outlets (body_gone p) l))) → w.kept ≡ Some v
      by_kept m site was w e (l, at, inl same) = kept_one l at (ap (λ (x : Linked). is_site_of x.page k.serial.0) (sym same) ∙ site) was w e
      by_kept m site was w e (l, at, inr two) = kept_one l at (ap (λ (x : Linked). is_site_of x.page k.serial.0) (sym two.1) ∙ site) was w e

  going_next : (b : Body) (bs : List Body) (s : State) → AreGoing (b ∷ bs) s → AreGoing bs (unlinked_at holder b.path s)
  going_next b bs s h m at = by_here (unlinked_here holder b.path s.instances m at)
    where
      by_here : (l : Linked) × (linked_at holder s.instances ≡ Some l) × (m ≡ with_outlets (body_gone b.path) l) → AllByRecursion (Goes k.serial.0 v bs) m.page.outlets
      by_here (l, old, same) = subst (λ (x : Linked). AllByRecursion (Goes k.serial.0 v bs) x.page.outlets) (sym same) (goes_on k.serial.0 v b bs l.page.outlets (h l old))

  -- what has become of the instance since it was this: its outlets that keep their bodies have them still
  pub record IsSince (l m : Linked) : Type 0 where
    pub serials : m.page.serials ≡ l.page.serials
    pub fragment : m.fragment ≡ l.fragment
    pub outlets : AreSpared k.serial.0 v l.page.outlets m.page.outlets

  abbrev pub AreSince : Linked → State → Type 0
  AreSince l s = (m : Linked) → linked_at holder s.instances ≡ Some m → IsSince l m

  since_next : (l : Linked) (b : Body) (bs : List Body) (s : State) → AreGoing (b ∷ bs) s → AreSince l s → AreSince l (unlinked_at holder b.path s)
  since_next l b bs s h since m at = by_here (unlinked_here holder b.path s.instances m at)
    where
      by_here : (o : Linked) × (linked_at holder s.instances ≡ Some o) × (m ≡ with_outlets (body_gone b.path) o) → IsSince l m
      by_here (o, old, same) =
          let was : IsSince l o = since o old in
          subst (IsSince l) (sym same)
          (record {
            serials = was.serials;
            fragment = was.fragment;
            outlets = spared_on k.serial.0 v b bs l.page.outlets o.page.outlets (h o old) was.outlets;
          })

  pub record IsLeft (l : Linked) (bs : List Body) (s : State) : Type 0 where
    pub under : IsUnder s
    pub going : AreGoing bs s
    pub since : AreSince l s

  under_gone : (l : Linked) (b : Body) (bs : List Body) (g : Firing) → IsLeft l (b ∷ bs) g.state → IsLeft l bs (gone holder b g).state
  under_gone l b bs g h =
      let dead : ℕ = scope_in (linked_at b.path g.state.instances) in
      let t : State = (went (destroy_run dead g.state.core) g).state in
      let stay : SitesStay g.state t = followed_sites (destroy_run dead g.state.core) g.state (destroyed_stays dead g.state.core) in
      let still : AreGoing (b ∷ bs) t = λ m at. h.going m (ap (linked_at holder) (sym stay.instances) ∙ at) in
      let under : IsUnder t = under_stays g.state t stay h.under in
      record {
        under = under_unlinked b.path t (apart_here b bs t still under.own) under;
        going = going_next b bs t still;
        since = since_next l b bs t still (λ m at. h.since m (ap (linked_at holder) (sym stay.instances) ∙ at));
      }

  pub under_all_gone : (l : Linked) (bs : List Body) (g : Firing) → IsLeft l bs g.state → IsLeft l [] (all_gone holder bs g).state
  under_all_gone l [] g h = h
  under_all_gone l (b ∷ bs) g h = under_all_gone l bs (gone holder b g) (under_gone l b bs g h)

  -- ---- a body comes, on a scope that was made for it

  -- the outlet of this number is the site's, and this scope is round it
  abbrev pub IsOfSite : ℕ → ℕ → State → Type 0
  IsOfSite o scope s = (m : Linked) (x : OutletState) → linked_at holder s.instances ≡ Some m → slice_get m.page.outlets o ≡ Some x → (is_filled_by k.serial.0 x ≡ true) × (x.scope ≡ scope)

  pub under_placed : (o i scope : ℕ) (role : Role) (which : Origin) (child : ℕ) (f : Fragment) (r : Registered) (s : State) (base : ℕ) → (is : IsNew which child f r s base) → HasRoom which child f r s base (in_outlet holder o i role)
      → IsOfSite o scope s → k.serial.0 < base → IsUnder s → IsUnder (placed_on (in_outlet holder o i role) which child f r s)
  under_placed o i scope role which child f r s base is room of low u = record {
    watched = placed_watched which child f r s base is (in_outlet holder o i role) room u.watched;
    fits = placed_fits which child f r s base is (in_outlet holder o i role) ks room (λ m x at get. not_asked m x (u.own m at) (of m x at get).0) u.fits;
    low = u.low;
    led = λ on. came_path which child f r s base is (in_outlet holder o i role) room k low on ∙ u.led (came_leads which child f r s base is (in_outlet holder o i role) room k low on);
    own = λ m at. by_own m (holder_was which child f r s base is holder o i role room m at);
    keeps = λ m at site on w e. by_kept m site on w e (holder_was which child f r s base is holder o i role room m at);
  }
    where
      Came : Linked → Type 0
      Came m = (l : Linked) × (linked_at holder s.instances ≡ Some l) × (m ≡ with_outlets (body_added o i (record { path = path_at s.core.scopes child; role = role })) l)

      by_own : (m : Linked) → Came m → key_in m.page k.serial.0 ≡ k
      by_own m (l, at, same) = ap (λ (x : Linked). key_in x.page k.serial.0) same ∙ u.own l at

      by_kept : (m : Linked) → is_site_of m.page k.serial.0 ≡ true → leads_in (placed_on (in_outlet holder o i role) which child f r s) k ≡ true → (w : Watcher)
          → found k (placed_on (in_outlet holder o i role) which child f r s).watchers ≡ Some w → Came m → w.kept ≡ Some v
      by_kept m site on w e (l, at, same) =
          let there : is_site_of l.page k.serial.0 ≡ true = ap (λ (x : Linked). is_site_of x.page k.serial.0) (sym same) ∙ site in
          let was : leads_in s k ≡ true = came_leads which child f r s base is (in_outlet holder o i role) room k (low_of which child f r s base is holder l k.serial.0 at there) on in
          let now : found (key_in l.page k.serial.0) (placed_on (in_outlet holder o i role) which child f r s).watchers ≡ Some w =
          ap (λ (q : Key). found q (placed_on (in_outlet holder o i role) which child f r s).watchers) (u.own l at) ∙ e in
          u.keeps l at there was w (ap (λ (q : Key). found q s.watchers) (sym (u.own l at)) ∙ (sym (others_found which child f r s base is holder l k.serial.0 at there) ∙ now))
