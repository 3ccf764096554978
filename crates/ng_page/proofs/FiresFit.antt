-- After a fire what is linked is watched, and each block whose fire did not fault has the bodies that it calls for.
use Rattle.std.proofs.Common.{◌≡◌, ◌⊎◌, inl, inr, ◌<◌, ◌+◌, ℕ, Bool, true, false, List, [], ◌∷◌, ◌++◌, cond, Option, Some, None, refl, ap, sym, subst, ◌∙◌, length, slice_get}
use Rattle.std.specs.Prelude.{◌||◌, ◌&&◌, not, option_and_then}
use Rattle.std.specs.BTreeMap.{is_at}
use Rattle.std.specs.BTreeSet.{insert_key}
use Rattle.std.specs.List.{AllByRecursion, list_any}
use Rattle.std.specs.Ordering.{nat_cmp, match_ordering}
use Rattle.std.specs.declared.cmp.Ordering.{Ordering}
use Rattle.std.specs.declared.cmp.Ordering.TheVariants.{Less, Equal, Greater}
use Rattle.ng_base.specs.Views.{ViewTree}
use Rattle.ng_base.specs.declared.fault.Fault.TheVariants.{NoTemplate}
use Rattle.ng_base.specs.declared.path.Key.{Key}
use Rattle.ng_drawing.specs.Cases.{Case}
use Rattle.ng_drawing.specs.Origins.{plain_origin}
use Rattle.ng_drawing.specs.Roles.{Role, a_body, a_named}
use Rattle.ng_drawing.specs.Rows.{is_filled}
use Rattle.ng_drawing.specs.Template.{Fragment, Filling, body_if, on_case, for_each, by_name, Repeated}
use Rattle.ng_behaviour.specs.Scopes.{Scope, path_at}
use Rattle.ng_fire.specs.Bindings.{bound_fired}
use Rattle.ng_rows.specs.Chosen.{goes, cases_due, body_of, comes}
use Rattle.ng_fire.specs.Blocks.{Firing, begins_firing, faulted_with, gone, all_gone, filled, outlets_emptied}
use Rattle.ng_fire.specs.Repeats.{repeat_fired}
use Rattle.ng_fire.specs.SiteFires.{site_fired_by, including_origin, body_filled, template_filled, named_filled, filled_by, outlet_filled, outlets_filled, outlets_fired, site_fired}
use Rattle.ng_fire.specs.Fires.{fired as fires, fire_of_site, fire_run, fired_by, value_at}
use Rattle.ng_language.specs.Texts.{text_of}
use Rattle.ng_instances.specs.Bindings.{Bound, Bounds, bound_in_table}
use Rattle.ng_instances.specs.Changing.{in_outlet}
use Rattle.ng_link.specs.Calls.{keeping_at}
use Rattle.ng_instances.specs.Due.{Due, all_due, due_at, due_from}
use Rattle.ng_instances.specs.Instances.{Body, OutletState, Linked, linked_at, linked_for, instance_path, key_in, is_site_of, is_site_in, bound_for, is_filled_by, with_outlets, body_added}
use Rattle.ng_link.specs.State.{State, roles_in}
use Rattle.ng_build.proofs.Keys.{key_is, same_key}
use Rattle.ng_link.proofs.Serials.{number_at, all_at_place}
use Rattle.ng_compose.specs.Kept.{named_from}
use Rattle.ng_behaviour.specs.Keys.{key_cmp, is_key}
use Rattle.ng_watch.specs.Table.{found, kept_at}
use Rattle.ng_page.specs.PageLaws.{told_itself}
use Rattle.ng_page.specs.PageMachine.{with_faulted}
use Rattle.ng_commands.specs.Settled.{site_keys, IsRound, leads_in, NumbersDiffer, cases_under, CallsFor, OutletFits, IsWatched, Fits}
use Rattle.ng_page.proofs.Altered.{all_by_place, added_altered}
use Rattle.ng_page.proofs.Filled.{IsMade, IsHeld, held_stays, made_fault, fault_sites, filled_made}
use Rattle.ng_commands.proofs.FitsStay.{fits_stays}
use Rattle.ng_page.proofs.Fitting.{IsOut, number_itself, kept_here, led_to, fits_keeping, fits_beside, fits_with}
use Rattle.ng_page.proofs.Coming.{has_rows, has_name, not_both, due_cases, IsRising, AreReady, AreOfSite, ready_first, rising_first, of_first, ready_skip, ready_next, ready_named, ready_rows, of_next, ready_last}
use Rattle.ng_page.proofs.Going.{at_place, going, Goes, goes_first, goes_last, spared_first, due_going, same_going}
use Rattle.ng_page.proofs.RowsFit.{ended_sites, outlets_in, IsRepeated, repeat_fits}
use Rattle.ng_page.proofs.FiresStay.{run_sites}
use Rattle.ng_page.proofs.Under.{IsUnder, IsSince, IsLeft, under_all_gone}
use Rattle.ng_commands.proofs.Watched.{all_map, all_both, watched_stays, keeping_watched}
use Rattle.ng_commands.proofs.ScopesStay.{ScopesStay, scopes_refl, scopes_trans}
use Rattle.ng_page.proofs.FiresTold.{IsSet, bound_set}
use Rattle.ng_commands.proofs.Sites.{SitesStay}

all_gone_append : (holder : List ℕ) (bs cs : List Body) (g : Firing) → all_gone holder cs (all_gone holder bs g) ≡ all_gone holder (bs ++ cs) g
all_gone_append holder [] cs g = refl
all_gone_append holder (b ∷ bs) cs g = all_gone_append holder bs cs (gone holder b g)

module _ (k : Key) (v : ViewTree) (holder : List ℕ) (ks : List Key) (left : list_any (is_key k) ks ≡ true) where
  -- ---- what is to go goes

  emptied_gone : (ds : List Due) (g : Firing) → outlets_emptied holder v ds g ≡ all_gone holder (due_going k.serial.0 v ds) g
  emptied_gone [] g = refl
  emptied_gone (d ∷ ds) g = by_goes (goes d.filling v) (λ h. emptied_gone ds h)
    where
      by_goes : (t : Bool) → ((h : Firing) → outlets_emptied holder v ds h ≡ all_gone holder (due_going k.serial.0 v ds) h)
          → outlets_emptied holder v ds (cond t (all_gone holder d.bodies g) g) ≡ all_gone holder (cond t (d.bodies ++ due_going k.serial.0 v ds) (due_going k.serial.0 v ds)) g
      by_goes true more = more (all_gone holder d.bodies g) ∙ all_gone_append holder d.bodies (due_going k.serial.0 v ds) g
      by_goes false more = more g

  -- ---- then what is called for comes, beside these cases of an instance that was this

  module _ (cases : List Case) (l : Linked) where
    abbrev Ready : List Due → State → Type 0
    Ready ds s = (m : Linked) → linked_at holder s.instances ≡ Some m → AreReady k.serial.0 cases v ds m.page.outlets

    abbrev OfSite : List Due → State → Type 0
    OfSite ds s = (m : Linked) → linked_at holder s.instances ≡ Some m → AreOfSite k.serial.0 cases v ds m.page.outlets

    abbrev AreSites : Linked → Type 0
    AreSites m = (m.page.serials ≡ l.page.serials) × (m.fragment ≡ l.fragment)

    pub record IsOn (ds : List Due) (h : Firing) : Type 0 where
      pub under : IsUnder k v holder ks left h.state
      pub held : AllByRecursion (λ (d : Due). IsHeld h.state.core.scopes holder d.scope d.outsides) ds
      pub of : OfSite ds h.state
      pub sites : (m : Linked) → linked_at holder h.state.instances ≡ Some m → AreSites m
      pub ready : h.faulted ≡ false → Ready ds h.state

    all_held : (t u : List Scope) (ds : List Due) → ScopesStay t u → AllByRecursion (λ (d : Due). IsHeld t holder d.scope d.outsides) ds → AllByRecursion (λ (d : Due). IsHeld u holder d.scope d.outsides) ds
    all_held t u ds stay all =
        all_map (λ (d : Due). IsHeld t holder d.scope d.outsides) (λ (d : Due). IsHeld u holder d.scope d.outsides) ds (λ d h. held_stays t u holder d.scope d.outsides stay h) all

    next_made : (d : Due) (ds : List Due) (role : Role) (g h : Firing)
        → ((b : Body) (xs : List OutletState) → b.role ≡ role → AreOfSite k.serial.0 cases v (d ∷ ds) xs → AreReady k.serial.0 cases v (d ∷ ds) xs → AreReady k.serial.0 cases v ds (body_added d.outlet 0 b xs))
        → IsMade k v holder ks left d.outlet 0 role g h → IsOn (d ∷ ds) g → IsOn ds h
    next_made d ds role g h next made on = record {
      under = made.under;
      held = all_held g.state.core.scopes h.state.core.scopes ds made.scopes on.held.1;
      of = λ m at. by_of m (made.stood m at);
      sites = λ m at. by_sites m (made.stood m at);
      ready = λ ok m at. by_ready ok m (made.stood m at);
    }
      where
        Stood : Linked → Type 0
        Stood m = (o : Linked) × (linked_at holder g.state.instances ≡ Some o)
            × (((h.faulted ≡ true) × (m ≡ o)) ⊎ ((h.faulted ≡ g.faulted) × ((p : List ℕ) × (m ≡ with_outlets (body_added d.outlet 0 (record { path = p; role = role })) o))))

        by_of : (m : Linked) → Stood m → AreOfSite k.serial.0 cases v ds m.page.outlets
        by_of m (o, at, inl two) = subst (λ (x : Linked). AreOfSite k.serial.0 cases v ds x.page.outlets) (sym two.1) (on.of o at).1
        by_of m (o, at, inr two) =
            let b : Body = record { path = two.1.0; role = role } in
            subst (λ (x : Linked). AreOfSite k.serial.0 cases v ds x.page.outlets) (sym two.1.1)
            (of_next k.serial.0 cases v d.outlet ds o.page.outlets (body_added d.outlet 0 b o.page.outlets) (added_altered d.outlet 0 b o.page.outlets) (on.of o at).1)

        by_sites : (m : Linked) → Stood m → AreSites m
        by_sites m (o, at, inl two) = subst AreSites (sym two.1) (on.sites o at)
        by_sites m (o, at, inr two) = subst AreSites (sym two.1.1) (on.sites o at)

        by_ready : h.faulted ≡ false → (m : Linked) → Stood m → AreReady k.serial.0 cases v ds m.page.outlets
        by_ready ok m (o, at, inl two) = absurd (not_both h.faulted two.0 ok)
        by_ready ok m (o, at, inr two) =
            subst (λ (x : Linked). AreReady k.serial.0 cases v ds x.page.outlets) (sym two.1.1)
            (next (record { path = two.1.0; role = role }) o.page.outlets refl (on.of o at) (on.ready (sym two.0 ∙ ok) o at))

    -- what is made where it comes
    made_on : (d : Due) (ds : List Due) (g done : Firing) → has_rows d.filling ≡ false → (comes cases v d ≡ true → IsOn ds done) → IsOn (d ∷ ds) g → IsOn ds (cond (comes cases v d && not g.faulted) done g)
    made_on d ds g done one made on = by_comes (comes cases v d) refl g.faulted refl
      where
        by_comes : (b : Bool) → comes cases v d ≡ b → (f : Bool) → g.faulted ≡ f → IsOn ds (cond (b && not f) done g)
        by_comes false off f fault = record {
          under = on.under;
          held = on.held.1;
          of = λ m at. (on.of m at).1;
          sites = on.sites;
          ready = λ ok m at. ready_skip k.serial.0 cases v d ds m.page.outlets one off (on.ready ok m at);
        }
        by_comes true come true fault = record {
          under = on.under;
          held = on.held.1;
          of = λ m at. (on.of m at).1;
          sites = on.sites;
          ready = λ ok m at. absurd (not_both g.faulted fault ok);
        }
        by_comes true come false fault = made come

    -- a body alone
    body_on : (d : Due) (ds : List Due) (g : Firing) → has_rows d.filling ≡ false → has_name d.filling ≡ false → IsOn (d ∷ ds) g → IsOn ds (body_filled holder cases v d g)
    body_on d ds g one plain on =
        made_on d ds g (filled (in_outlet holder d.outlet 0 a_body) d.scope d.outsides [] (plain_origin d.home (body_of d.filling)) g) one
        (λ come.
        next_made d ds a_body g (filled (in_outlet holder d.outlet 0 a_body) d.scope d.outsides [] (plain_origin d.home (body_of d.filling)) g)
        (λ b xs role of ready. ready_next k.serial.0 cases v d ds b xs one plain come of ready)
        (filled_made k v holder ks left d.outlet 0 d.scope a_body d.outsides [] (plain_origin d.home (body_of d.filling)) g on.held.0 on.under (λ m x at get. (((on.of m at).0 x get).site, ((on.of m at).0 x get).scope))) on) on

    -- the template of the value's text, where there is one
    name_on : (d : Due) (ds : List Due) (b : ℕ) (g : Firing) → d.filling ≡ by_name b → IsRising (d ∷ ds) → IsOn (d ∷ ds) g → IsOn ds (named_filled holder cases v d b g)
    name_on d ds b g is rising on =
        made_on d ds g (template_filled holder d b (text_of v) t g) (ap has_rows is)
        (λ come.
        next_made d ds (a_named (text_of v)) g (template_filled holder d b (text_of v) t g)
        (λ c xs role of ready. ready_named k.serial.0 cases v d ds c xs (ap has_name is) come role rising of ready) (by_template t) on) on
      where
        t : Option ℕ
        t = named_from 0 (text_of v) g.state.templates

        by_template : (o : Option ℕ) → IsMade k v holder ks left d.outlet 0 (a_named (text_of v)) g (template_filled holder d b (text_of v) o g)
        by_template None = made_fault k v holder ks left d.outlet 0 (a_named (text_of v)) g (faulted_with NoTemplate g) refl (fault_sites NoTemplate g) on.under
        by_template (Some n) =
            filled_made k v holder ks left d.outlet 0 d.scope (a_named (text_of v)) d.outsides [] (including_origin d.home b n) g on.held.0 on.under (λ m x at get. (((on.of m at).0 x get).site, ((on.of m at).0 x get).scope))

    -- rows become those of the entries
    rows_on : (d : Due) (ds : List Due) (r : Repeated) (b : ℕ) (g : Firing) → d.filling ≡ for_each r b → IsOn (d ∷ ds) g → IsOn ds (cond g.faulted g (repeat_fired holder d.scope d.outsides v d.outlet (plain_origin d.home b) r g))
    rows_on d ds r b g is on = by_fault g.faulted refl
      where
        xs : List OutletState
        xs = outlets_in (linked_at holder g.state.instances)

        h : Firing
        h = repeat_fired holder d.scope d.outsides v d.outlet (plain_origin d.home b) r g

        of_xs : (l : Option Linked) → linked_at holder g.state.instances ≡ l → AreOfSite k.serial.0 cases v (d ∷ ds) (outlets_in l)
        of_xs None e = none_of (d ∷ ds)
          where
            none_of : (es : List Due) → AreOfSite k.serial.0 cases v es []
            none_of [] = tt
            none_of (e ∷ es) = ((λ x get. absurd (cc)), none_of es)
        of_xs (Some l) e = on.of l e

        ready_xs : g.faulted ≡ false → (l : Option Linked) → linked_at holder g.state.instances ≡ l → AreReady k.serial.0 cases v (d ∷ ds) (outlets_in l)
        ready_xs ok None e = λ j x at. absurd (cc)
        ready_xs ok (Some l) e = on.ready ok l e

        of : AreOfSite k.serial.0 cases v (d ∷ ds) xs
        of = of_xs (linked_at holder g.state.instances) refl

        made : IsRepeated k v holder ks left d.outlet l.page.serials l.fragment g h
        made = repeat_fits k v holder ks left d.outlet d.scope d.outsides (plain_origin d.home b) r l.page.serials l.fragment g on.held.0 (λ x get. ((of.0 x get).site, (of.0 x get).scope)) on.sites on.under

        by_fault : (t : Bool) → g.faulted ≡ t → IsOn ds (cond t g h)
        by_fault true fault = record {
          under = on.under;
          held = on.held.1;
          of = λ m at. (on.of m at).1;
          sites = on.sites;
          ready = λ ok m at. absurd (not_both g.faulted fault ok);
        }
        by_fault false fault = record {
          under = made.under;
          held = all_held g.state.core.scopes h.state.core.scopes ds made.scopes on.held.1;
          of = λ m at. of_next k.serial.0 cases v d.outlet ds xs m.page.outlets (made.altered m at) of.1;
          sites = made.sites;
          ready = λ ok m at.
              ready_rows k.serial.0 cases v d ds xs m.page.outlets (ap has_rows is) of (made.altered m at)
              (λ y get.
              let was = made.altered m at d.outlet y get in
              let filling : y.filling ≡ for_each r b = was.2.filling ∙ ((of.0 was.0 was.1).filling ∙ is) in
              ap (λ (f : Filling). is_filled cases f (Some v) (roles_in y.bodies)) filling ∙ made.rows ok m at y get)
              (ready_xs fault (linked_at holder g.state.instances) refl);
        }

    one_on : (d : Due) (ds : List Due) (g : Firing) → IsRising (d ∷ ds) → IsOn (d ∷ ds) g → IsOn ds (outlet_filled holder cases v d g)
    one_on d ds g rising on = by_filling d.filling refl
      where
        by_filling : (f : Filling) → d.filling ≡ f → IsOn ds (filled_by holder cases v d f g)
        by_filling (body_if b) is = body_on d ds g (ap has_rows is) (ap has_name is) on
        by_filling (on_case c b) is = body_on d ds g (ap has_rows is) (ap has_name is) on
        by_filling (for_each r b) is = rows_on d ds r b g is on
        by_filling (by_name b) is = name_on d ds b g is rising on

    all_on : (ds : List Due) (g : Firing) → IsRising ds → IsOn ds g → IsOn [] (outlets_filled holder cases v ds g)
    all_on [] g rising on = on
    all_on (d ∷ ds) g rising on = all_on ds (outlet_filled holder cases v d g) rising.1 (one_on d ds g rising on)

  -- ---- so the site's outlets have what it calls for

  abbrev pub IsRight : Linked → OutletState → Type 0
  IsRight m x = is_filled_by k.serial.0 x ≡ true → is_filled (cases_under m.page.serials m.fragment.outlets k.serial.0) x.filling (Some v) (roles_in x.bodies) ≡ true

  pub record HasFired (h : Firing) : Type 0 where
    pub under : IsUnder k v holder ks left h.state
    pub fit : h.faulted ≡ false → (m : Linked) → linked_at holder h.state.instances ≡ Some m → AllByRecursion (IsRight m) m.page.outlets

  gone_scopes : (bs : List Body) (g : Firing) → ScopesStay g.state.core.scopes (all_gone holder bs g).state.core.scopes
  gone_scopes [] g = scopes_refl g.state.core.scopes
  gone_scopes (b ∷ bs) g = scopes_trans g.state.core.scopes (gone holder b g).state.core.scopes (all_gone holder bs (gone holder b g)).state.core.scopes (ended_sites b.path g).core.scopes (gone_scopes bs (gone holder b g))

  held_due : (scopes : List Scope) (n i own : ℕ) (bs : Bounds) (xs : List OutletState) → own < length scopes → path_at scopes own ≡ holder → AllByRecursion (IsRound scopes bs) xs
      → AllByRecursion (λ (d : Due). IsHeld scopes holder d.scope d.outsides) (due_from n i xs)
  held_due scopes n i own bs [] there on all = tt
  held_due scopes n i own bs (x ∷ xs) there on all = by_filled (is_filled_by n x) (held_due scopes n (i + 1) own bs xs there on all.1)
    where
      by_filled : (b : Bool) → AllByRecursion (λ (d : Due). IsHeld scopes holder d.scope d.outsides) (due_from n (i + 1) xs)
          → AllByRecursion (λ (d : Due). IsHeld scopes holder d.scope d.outsides) (cond b (due_at i x ∷ due_from n (i + 1) xs) (due_from n (i + 1) xs))
      by_filled true more = (record { own = own; own_there = there; on = on; there = all.0.scope; outsides = all.0.outsides }, more)
      by_filled false more = more

  pub outlets_fit : (l : Linked) (g : Firing) → linked_at holder g.state.instances ≡ Some l → IsUnder k v holder ks left g.state → HasFired (outlets_fired holder v (due_from k.serial.0 0 l.page.outlets) g)
  outlets_fit l g at u =
      let ds : List Due = due_from k.serial.0 0 l.page.outlets in
      let cases : List Case = cases_due ds in
      let bs : List Body = going k.serial.0 v l.page.outlets in
      let one : (m : Linked) → linked_at holder g.state.instances ≡ Some m → l ≡ m = λ m there. (let e : ◌≡◌ {A = Option Linked} (Some l) (Some m) = sym at ∙ there in cc) in
      let begins : IsLeft k v holder ks left l bs g.state = record {
        under = u;
        going = λ m there. subst (λ (x : Linked). AllByRecursion (Goes k.serial.0 v bs) x.page.outlets) (one m there) (goes_first k.serial.0 v l.page.outlets (u.watched.linked holder l at).once);
        since = λ m there. subst (IsSince k v holder ks left l) (one m there) (record { serials = refl; fragment = refl; outlets = spared_first k.serial.0 v l.page.outlets });
      } in
      let gone_all : IsLeft k v holder ks left l [] (all_gone holder bs g).state = under_all_gone k v holder ks left l bs g begins in
      let emptied : IsLeft k v holder ks left l [] (outlets_emptied holder v ds g).state =
      subst (λ (h : Firing). IsLeft k v holder ks left l [] h.state) (sym (emptied_gone ds g ∙ ap (λ (cs : List Body). all_gone holder cs g) (same_going k.serial.0 v 0 l.page.outlets))) gone_all in
      let goes_all : outlets_emptied holder v ds g ≡ all_gone holder bs g = emptied_gone ds g ∙ ap (λ (cs : List Body). all_gone holder cs g) (same_going k.serial.0 v 0 l.page.outlets) in
      let is = u.watched.linked holder l at in
      let first : AllByRecursion (λ (d : Due). IsHeld g.state.core.scopes holder d.scope d.outsides) ds = held_due g.state.core.scopes k.serial.0 0 l.page.scope l.page.bounds l.page.outlets is.there is.scope is.rounds in
      let stay : ScopesStay g.state.core.scopes (outlets_emptied holder v ds g).state.core.scopes = subst (λ (h : Firing). ScopesStay g.state.core.scopes h.state.core.scopes) (sym goes_all) (gone_scopes bs g) in
      let on : IsOn cases l ds (outlets_emptied holder v ds g) = record {
        under = emptied.under;
        held = all_held cases l g.state.core.scopes (outlets_emptied holder v ds g).state.core.scopes ds stay first;
        of = λ m there. of_first k.serial.0 cases v l.page.outlets m.page.outlets (emptied.since m there).outlets;
        sites = λ m there. ((emptied.since m there).serials, (emptied.since m there).fragment);
        ready = λ ok m there. ready_first k.serial.0 cases v l.page.outlets m.page.outlets (emptied.since m there).outlets (goes_last k.serial.0 v m.page.outlets (emptied.going m there));
      } in
      let end : IsOn cases l [] (outlets_filled holder cases v ds (outlets_emptied holder v ds g)) = all_on cases l ds (outlets_emptied holder v ds g) (rising_first k.serial.0 cases v l.page.outlets) on in
      let those : cases ≡ cases_under l.page.serials l.fragment.outlets k.serial.0 = due_cases k.serial.0 0 l.page.serials l.fragment.outlets l.page.outlets (u.watched.linked holder l at).outlets in
      record {
        under = end.under;
        fit = λ ok m there.
            let same = end.sites m there in
            let now : cases ≡ cases_under m.page.serials m.fragment.outlets k.serial.0 =
            those ∙ (ap (λ (ns : List ℕ). cases_under ns l.fragment.outlets k.serial.0) (sym same.0) ∙ ap (λ (f : Fragment). cases_under m.page.serials f.outlets k.serial.0) (sym same.1)) in
            subst (λ (cs : List Case). AllByRecursion (λ (x : OutletState). is_filled_by k.serial.0 x ≡ true → is_filled cs x.filling (Some v) (roles_in x.bodies) ≡ true) m.page.outlets) now
            (ready_last k.serial.0 cases v m.page.outlets (end.ready ok m there));
      }

-- ---- the key is no longer left out

out_inserted : (ks : List Key) (k q : Key) → is_key q k ≡ false → IsOut ks q → IsOut (insert_key key_cmp ks k) q
out_inserted [] k q ne out = ap (λ (b : Bool). b || false) ne
out_inserted (x ∷ ks) k q ne out = by_order (key_cmp k x) (out_inserted ks k q ne (or_false (is_key q x) (list_any (is_key q) ks) out).1)
  where
    or_false : (b c : Bool) → (b || c) ≡ false → (b ≡ false) × (c ≡ false)
    or_false true c e = absurd (cc)
    or_false false c e = (refl, e)

    by_order : (o : Ordering) → IsOut (insert_key key_cmp ks k) q → IsOut (match_ordering o (k ∷ x ∷ ks) (x ∷ ks) (x ∷ insert_key key_cmp ks k)) q
    by_order Less more = ap (λ (b : Bool). b || list_any (is_key q) (x ∷ ks)) ne ∙ out
    by_order Equal more = out
    by_order Greater more = ap (λ (b : Bool). b || list_any (is_key q) (insert_key key_cmp ks k)) (or_false (is_key q x) (list_any (is_key q) ks) out).0 ∙ more

-- a key that was left out no longer is, where the outlets of its site have what they are to have
fits_unless : (k : Key) (s : State) (ks : List Key)
    → ((p : List ℕ) (m : Linked) → linked_at p s.instances ≡ Some m
    → AllByRecursion (λ (x : OutletState). key_in m.page x.serial ≡ k → OutletFits (leads_in s) s.watchers ks (site_keys m.page) m.page.serials m.fragment.outlets x) m.page.outlets)
    → Fits (insert_key key_cmp ks k) s → Fits ks s
fits_unless k s ks at_k fits p m at =
    all_both (Others m) (λ (x : OutletState). key_in m.page x.serial ≡ k → All m x) (All m) m.page.outlets (λ x others mine. by_key x others mine (is_key (key_in m.page x.serial) k) refl) (fits p m at) (at_k p m at)
  where
    Others : Linked → OutletState → Type 0
    Others n x = OutletFits (leads_in s) s.watchers (insert_key key_cmp ks k) (site_keys n.page) n.page.serials n.fragment.outlets x

    All : Linked → OutletState → Type 0
    All n x = OutletFits (leads_in s) s.watchers ks (site_keys n.page) n.page.serials n.fragment.outlets x

    by_key : (x : OutletState) → Others m x → (key_in m.page x.serial ≡ k → All m x) → (b : Bool) → is_key (key_in m.page x.serial) k ≡ b → All m x
    by_key x others mine true is = mine (key_is (key_in m.page x.serial) k is)
    by_key x others mine false is = λ site on w e out. others site on w e (out_inserted ks k (key_in m.page x.serial) is out)

-- a key that leads to a site leads to an instance
leads_some : (s : State) (k : Key) → leads_in s k ≡ true → (m : Linked) × (linked_for s.inner k.path s.instances ≡ Some m) × (is_site_of m.page k.serial.0 ≡ true)
leads_some s k on = by_found (linked_for s.inner k.path s.instances) refl on
  where
    by_found : (o : Option Linked) → linked_for s.inner k.path s.instances ≡ o → is_site_in o k ≡ true → (m : Linked) × (linked_for s.inner k.path s.instances ≡ Some m) × (is_site_of m.page k.serial.0 ≡ true)
    by_found None e site = absurd (cc)
    by_found (Some m) e site = (m, e, site)

-- of which an outlet has the key's site, it is that which the key leads to
outlet_led : (s : State) (k : Key) (p : List ℕ) (m : Linked) (x : OutletState) → NumbersDiffer s.instances → linked_at p s.instances ≡ Some m → key_in m.page x.serial ≡ k → is_site_of m.page x.serial ≡ true → leads_in s k ≡ true
    → (p ≡ instance_path s.inner k.path) × ((o : Linked) → linked_for s.inner k.path s.instances ≡ Some o → m ≡ o)
outlet_led s k p m x apart at same site on =
    let number : x.serial ≡ k.serial.0 = ap (λ (q : Key). q.serial.0) same in
    let two = leads_some s k on in
    let one = led_to s k p m two.0 apart at (ap (is_site_of m.page) (sym number) ∙ site) two.1 two.2 in
    (one.0, λ o found. (let both : ◌≡◌ {A = Option Linked} (Some two.0) (Some o) = sym two.1 ∙ found in let those : two.0 ≡ o = cc in one.1 ∙ those))

module _ (k : Key) (v : ViewTree) (holder : List ℕ) (ks : List Key) where
  abbrev left : list_any (is_key k) (insert_key key_cmp ks k) ≡ true
  left = told_itself ks k

  abbrev Right : Linked → OutletState → Type 0
  Right m x = IsRight k v holder (insert_key key_cmp ks k) left m x

  one_fits : (s : State) (m : Linked) → IsUnder k v holder (insert_key key_cmp ks k) left s → linked_at holder s.instances ≡ Some m
      → (x : OutletState) → Right m x → key_in m.page x.serial ≡ k → OutletFits (leads_in s) s.watchers ks (site_keys m.page) m.page.serials m.fragment.outlets x
  one_fits s m u at x right same site on w e out =
      let number : x.serial ≡ k.serial.0 = ap (λ (q : Key). q.serial.0) same in
      let kept : w.kept ≡ Some v = u.keeps m at (ap (is_site_of m.page) (sym number) ∙ site) (ap (leads_in s) (sym same) ∙ on) w (ap (λ (q : Key). found q s.watchers) (sym same) ∙ e) in
      let filled_here : is_filled_by k.serial.0 x ≡ true = ap (λ (n : ℕ). is_at (nat_cmp n) x.serial) (sym number) ∙ number_itself x.serial in
      subst (λ (o : Option ViewTree). CallsFor (cases_under m.page.serials m.fragment.outlets x.serial) o x) (sym kept)
      (ap (λ (n : ℕ). is_filled (cases_under m.page.serials m.fragment.outlets n) x.filling (Some v) (roles_in x.bodies)) number ∙ right filled_here)

  all_fit : (s : State) → IsUnder k v holder (insert_key key_cmp ks k) left s
      → ((m : Linked) → linked_at holder s.instances ≡ Some m → AllByRecursion (Right m) m.page.outlets) → Fits ks s
  all_fit s u right =
      fits_unless k s ks
      (λ p m at. all_by_place (λ (x : OutletState). key_in m.page x.serial ≡ k → OutletFits (leads_in s) s.watchers ks (site_keys m.page) m.page.serials m.fragment.outlets x) m.page.outlets (λ j x get same. by_site p m at j x get same)) u.fits
    where
      by_site : (p : List ℕ) (m : Linked) → linked_at p s.instances ≡ Some m → (j : ℕ) (x : OutletState) → slice_get m.page.outlets j ≡ Some x → key_in m.page x.serial ≡ k
          → OutletFits (leads_in s) s.watchers ks (site_keys m.page) m.page.serials m.fragment.outlets x
      by_site p m at j x get same site on w e out =
          let led : leads_in s k ≡ true = ap (leads_in s) (sym same) ∙ on in
          let here : p ≡ holder = (outlet_led s k p m x u.watched.apart at same site led).0 ∙ u.led led in
          let there : linked_at holder s.instances ≡ Some m = ap (λ (q : List ℕ). linked_at q s.instances) (sym here) ∙ at in
          one_fits s m u there x (at_place (Right m) m.page.outlets j x (right m there) get) same site on w e out

-- ---- the fire of a watcher

pub record FireFits (k : Key) (ks : List Key) (r : State × Bool) : Type 0 where
  pub watched : IsWatched r.0
  pub fits : Fits (with_faulted k r.1 ks) r.0

faulted_more : (k : Key) (b : Bool) (s : State) (ks : List Key) → Fits ks s → Fits (with_faulted k b ks) s
faulted_more k true s ks h = fits_with k s ks h
faulted_more k false s ks h = h

module _ (k : Key) (v : ViewTree) (s : State) (ks : List Key) (site : leads_in s k ≡ true) (h : IsWatched s) (f : Fits ks s) where
  abbrev kept : State
  kept = keeping_at k v s

  watched : IsWatched kept
  watched = keeping_watched k v s h

  fits : Fits (insert_key key_cmp ks k) kept
  fits = fits_keeping k v s ks f

  -- the site of a binding is no outlet's
  bound_fits : (b : Bound) → bound_for s.inner s.instances k ≡ Some b → Fits ks kept
  bound_fits b bound =
      fits_unless k kept ks
      (λ p m at. all_map (IsRound kept.core.scopes m.page.bounds) (λ (x : OutletState). key_in m.page x.serial ≡ k → OutletFits (leads_in kept) kept.watchers ks (site_keys m.page) m.page.serials m.fragment.outlets x) m.page.outlets
      (λ x r same. never p m at x r same) (watched.linked p m at).rounds) fits
    where
      never : (p : List ℕ) (m : Linked) → linked_at p kept.instances ≡ Some m → (x : OutletState) → IsRound kept.core.scopes m.page.bounds x → key_in m.page x.serial ≡ k
          → OutletFits (leads_in kept) kept.watchers ks (site_keys m.page) m.page.serials m.fragment.outlets x
      never p m at x r same site on w e out =
          let number : x.serial ≡ k.serial.0 = ap (λ (q : Key). q.serial.0) same in
          let led : leads_in kept k ≡ true = ap (leads_in kept) (sym same) ∙ on in
          let two = leads_some kept k led in
          let one : m ≡ two.0 = (outlet_led kept k p m x watched.apart at same site led).1 two.0 two.1 in
          let none : bound_in_table k.serial.0 m.page.bounds ≡ None = ap (λ (n : ℕ). bound_in_table n m.page.bounds) (sym number) ∙ r.unbound in
          let some : bound_in_table k.serial.0 two.0.page.bounds ≡ Some b = sym (ap (option_and_then (λ (l : Linked). bound_in_table k.serial.0 l.page.bounds)) two.1) ∙ bound in
          let both : ◌≡◌ {A = Option Bound} None (Some b) = sym none ∙ (ap (λ (y : Linked). bound_in_table k.serial.0 y.page.bounds) one ∙ some) in
          absurd (cc)

  bound_fire : (b : Bound) → bound_for s.inner s.instances k ≡ Some b → (value former : Option ViewTree) → FireFits k ks (fire_of_site (site_fired_by (Some b) k v value former kept))
  bound_fire b bound None former = record { watched = watched; fits = bound_fits b bound }
  bound_fire b bound (Some w) former =
      let g : Firing = bound_fired b k.path w former (begins_firing kept) in
      let set : IsSet (begins_firing kept) g = bound_set b k.path w former (begins_firing kept) in
      record { watched = watched_stays kept g.state set.sites watched; fits = faulted_more k g.faulted g.state ks (fits_stays kept g.state ks set.sites watched.keys (bound_fits b bound)) }

  -- a key that is not the site's own fills nothing
  module _ (l : Linked) (at : linked_for s.inner k.path s.instances ≡ Some l) where
    abbrev holder : List ℕ
    holder = instance_path s.inner k.path

    other_fits : is_key k (key_in l.page k.serial.0) ≡ false → Fits ks kept
    other_fits off =
        fits_unless k kept ks
        (λ p m there. all_by_place (λ (x : OutletState). key_in m.page x.serial ≡ k → OutletFits (leads_in kept) kept.watchers ks (site_keys m.page) m.page.serials m.fragment.outlets x) m.page.outlets (λ j x get same. never p m there x same)) fits
      where
        never : (p : List ℕ) (m : Linked) → linked_at p kept.instances ≡ Some m → (x : OutletState) → key_in m.page x.serial ≡ k → OutletFits (leads_in kept) kept.watchers ks (site_keys m.page) m.page.serials m.fragment.outlets x
        never p m there x same site on w e out =
            let number : x.serial ≡ k.serial.0 = ap (λ (q : Key). q.serial.0) same in
            let one : m ≡ l = (outlet_led kept k p m x watched.apart there same site (ap (leads_in kept) (sym same) ∙ on)).1 l at in
            let own : key_in l.page k.serial.0 ≡ k = ap (λ (y : Linked). key_in y.page k.serial.0) (sym one) ∙ (ap (key_in m.page) (sym number) ∙ same) in
            let two : true ≡ false = sym (same_key k) ∙ (ap (is_key k) (sym own) ∙ off) in
            absurd (cc)

    own_fire : is_key k (key_in l.page k.serial.0) ≡ true → FireFits k ks (fire_of_site (outlets_fired holder v (due_from k.serial.0 0 l.page.outlets) (begins_firing kept)))
    own_fire is =
        let one : (m : Linked) → linked_at holder s.instances ≡ Some m → l ≡ m = λ m there. (let e : ◌≡◌ {A = Option Linked} (Some l) (Some m) = sym at ∙ there in cc) in
        let site_l : is_site_of l.page k.serial.0 ≡ true = sym (ap (λ (o : Option Linked). is_site_in o k) at) ∙ site in
        let place = number_at k.serial.0 l.page.serials site_l in
        let u : IsUnder k v holder (insert_key key_cmp ks k) (told_itself ks k) kept = record {
          watched = watched;
          fits = fits;
          low = all_at_place (λ (n : ℕ). n < kept.core.serial) l.page.serials place.0 k.serial.0 (watched.linked holder l at).below place.1;
          led = λ on. refl;
          own = λ m there. ap (λ (x : Linked). key_in x.page k.serial.0) (sym (one m there)) ∙ sym (key_is k (key_in l.page k.serial.0) is);
          keeps = λ m there number on w e. kept_here k (Some v) s.watchers w e;
        } in
        let end = outlets_fit k v holder (insert_key key_cmp ks k) (told_itself ks k) l (begins_firing kept) at u in
        let g : Firing = outlets_fired holder v (due_from k.serial.0 0 l.page.outlets) (begins_firing kept) in
        record { watched = end.under.watched; fits = by_fault g g.faulted refl end.under (λ ok. end.fit ok) }
      where
        by_fault : (g : Firing) (b : Bool) → g.faulted ≡ b → IsUnder k v holder (insert_key key_cmp ks k) (told_itself ks k) g.state
            → (g.faulted ≡ false → (m : Linked) → linked_at holder g.state.instances ≡ Some m → AllByRecursion (IsRight k v holder (insert_key key_cmp ks k) (told_itself ks k) m) m.page.outlets)
            → Fits (with_faulted k b ks) g.state
        by_fault g true e u right = u.fits
        by_fault g false e u right = all_fit k v holder ks g.state u (right e)

    linked_fire : (b : Bool) → is_key k (key_in l.page k.serial.0) ≡ b → FireFits k ks (fire_of_site (outlets_fired holder v (cond b (due_from k.serial.0 0 l.page.outlets) []) (begins_firing kept)))
    linked_fire true is = own_fire is
    linked_fire false off = record { watched = watched; fits = other_fits off }

  site_fits : (value former : Option ViewTree) → FireFits k ks (fire_of_site (site_fired k v value former kept))
  site_fits value former = by_bound (bound_for s.inner s.instances k) refl
    where
      by_linked : (o : Option Linked) → linked_for s.inner k.path s.instances ≡ o → FireFits k ks (fire_of_site (outlets_fired (instance_path s.inner k.path) v (all_due k o) (begins_firing kept)))
      by_linked None e = let none : false ≡ true = sym (ap (λ (o : Option Linked). is_site_in o k) e) ∙ site in absurd (cc)
      by_linked (Some l) e = linked_fire l e (is_key k (key_in l.page k.serial.0)) refl

      by_bound : (b : Option Bound) → bound_for s.inner s.instances k ≡ b → FireFits k ks (fire_of_site (site_fired_by b k v value former kept))
      by_bound None e = by_linked (linked_for s.inner k.path s.instances) refl
      by_bound (Some b) e = bound_fire b e value former

by_site : (k : Key) (ks : List Key) (b : Bool) (c : Bool) (p q : State × Bool) → c ≡ b → (c ≡ true → FireFits k ks p) → (c ≡ false → FireFits k ks q) → FireFits k ks (cond b p q)
by_site k ks true c p q e f g = f e
by_site k ks false c p q e f g = g e

pub fires_fit : (k : Key) (v : ViewTree) (s : State) (ks : List Key) → IsWatched s → Fits ks s → FireFits k ks (fires k v s)
fires_fit k v s ks h f =
    by_site k ks (leads_in s k) (leads_in s k) (fire_of_site (site_fired k v (value_at s k) (kept_at k s.watchers) (keeping_at k v s))) (fired_by (fire_run k s) (keeping_at k v s)) refl
    (λ site. site_fits k v s ks site h f (value_at s k) (kept_at k s.watchers))
    (λ none.
    let t : State = keeping_at k v s in
    let r : State × Bool = fired_by (fire_run k s) t in
    let watched : IsWatched t = keeping_watched k v s h in
    let stay : SitesStay t r.0 = run_sites k s t refl in
    record { watched = watched_stays t r.0 stay watched; fits = faulted_more k r.1 r.0 ks (fits_stays t r.0 ks stay watched.keys (fits_beside k v s ks none f)) })
