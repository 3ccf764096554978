-- The fire of a repeat: what is linked stays watched, each other block has the bodies that it calls for, and where the fire doesn't fault the
-- rows that stand are those of the entries.
use Rattle.std.proofs.Common.{◌≡◌, ◌⊎◌, inl, inr, ◌≤◌, ◌<◌, ◌+◌, ℕ, suc, Bool, true, false, List, [], ◌∷◌, ◌++◌, length, map, cond, Option, Some, None, Result, Ok, Err, refl, ap, sym, subst, ◌∙◌, arith, slice_get, append-nil, append_assoc, length-append}
use Rattle.std.specs.BTreeMap.{is_at}
use Rattle.std.specs.List.{AllByRecursion, list_any}
use Rattle.std.specs.Ordering.{nat_cmp}
use Rattle.std.proofs.lemmas.List.{map-append, length-map}
use Rattle.ng_core.specs.State as act
use Rattle.ng_core.specs.State.{Run}
use Rattle.ng_base.specs.Views.{ViewTree}
use Rattle.ng_base.specs.declared.fault.Fault.{Fault}
use Rattle.ng_base.specs.declared.path.Key.{Key}
use Rattle.ng_behaviour.specs.Scopes.{Scope, object_at}
use Rattle.ng_blocks.specs.Plans.{row_of, planned}
use Rattle.ng_blocks.specs.declared.keys.TrackKey.{TrackKey}
use Rattle.ng_blocks.specs.declared.plans.Plan.{Plan}
use Rattle.ng_dom.specs.Lists.{put_at}
use Rattle.ng_drawing.specs.Roles.{Entry, Role, entries_in, are_rows}
use Rattle.ng_drawing.specs.Template.{Fragment, Repeated}
use Rattle.ng_drawing.specs.declared.origin.Origin.{Origin}
use Rattle.ng_rows.specs.Chosen.{told_on}
use Rattle.ng_fire.specs.Blocks.{Firing, ended, faulted_with, filled}
use Rattle.ng_rows.specs.RepeatRows.{items_made, keys_of, Row, rows_from, role_for, kept_from, kept_rows, row_names, as_fault}
use Rattle.ng_fire.specs.Repeats.{bodies_at, all_ended, rows_taken, with_state, rows_gone, rows_arranged, Filled, filled_to, row_kept, row_made, row_fired, rows_fired, rows_changed, by_plan, by_keys, bodies_or, rows_at, by_items, repeat_fired}
use Rattle.ng_changes.specs.Runs.{destroy_run}
use Rattle.ng_rows.specs.Tracking.{Item, track_keys}
use Rattle.ng_instances.specs.Bindings.{Bounds}
use Rattle.ng_instances.specs.Changing.{in_outlet}
use Rattle.ng_link.specs.Calls.{with_core, arranged_at, unlinked_at}
use Rattle.ng_link.specs.Events.{scope_in}
use Rattle.ng_instances.specs.Instances.{Body, OutletState, Linked, linked_at, key_in, is_filled_by, with_outlets, with_body, body_added, with_bodies, bodies_arranged, body_gone}
use Rattle.ng_instances.specs.PlaceOf.{outlet_of_linked}
use Rattle.ng_link.specs.Standing.{body_count, held_count}
use Rattle.ng_link.specs.State.{State, roles_in}
use Rattle.ng_members.specs.Leaves.{Local}
use Rattle.ng_behaviour.specs.Keys.{is_key}
use Rattle.ng_commands.specs.Settled.{IsChild, IsRound}
use Rattle.ng_page.proofs.Altered.{all_by_place, by_same_place, alone_there, count_within, Altered, altered_first, altered_on, added_place, added_altered, arranged_place, arranged_altered, gone_altered, arranged_once, ChangedAt}
use Rattle.ng_page.proofs.Arranging.{MayStand, arranged_here, under_arranged}
use Rattle.ng_page.proofs.Filled.{IsMade, IsHeld, held_stays, filled_made, fault_sites}
use Rattle.ng_page.proofs.Fitting.{IsOut}
use Rattle.ng_page.proofs.Going.{at_place}
use Rattle.ng_page.proofs.KeptRows.{all_kept, kept_stood, kept_once, AreApart, gone_stood, rows_apart, plan_is, items_entries, rows_entries, own_rows, put_here}
use Rattle.ng_page.proofs.RepeatsStay.{told_stay, items_stay}
use Rattle.ng_commands.proofs.ScopesStay.{ScopesStay, scopes_refl, scopes_trans}
use Rattle.ng_commands.proofs.Sites.{SitesStay, sites_refl, sites_trans, core_sites}
use Rattle.ng_commands.proofs.StepsStay.{followed_sites, destroyed_stays}
use Rattle.ng_page.proofs.TrackedKeys.{keys_many}
use Rattle.ng_page.proofs.Under.{IsUnder, IsOfSite, not_asked, under_stays, under_unlinked}
use Rattle.ng_page.proofs.Unlinking.{unlinked_here}
use Rattle.ng_commands.proofs.Watched.{all_map, child_stays}

not_both : (b : Bool) → b ≡ true → b ≡ false → ⊥
not_both true e f = cc
not_both false e f = cc

-- ---- scopes of rows are destroyed

pub ended_sites : (p : List ℕ) (g : Firing) → SitesStay g.state (ended p g).state
ended_sites p g = let dead : ℕ = scope_in (linked_at p g.state.instances) in followed_sites (destroy_run dead g.state.core) g.state (destroyed_stays dead g.state.core)

all_ended_sites : (bs : List Body) (g : Firing) → SitesStay g.state (all_ended bs g).state
all_ended_sites [] g = sites_refl g.state
all_ended_sites (b ∷ bs) g = sites_trans g.state (ended b.path g).state (all_ended bs (ended b.path g)).state (ended_sites b.path g) (all_ended_sites bs (ended b.path g))

told_sites : (scope : ℕ) (names : List Local) (s : State) → SitesStay s (with_core (told_on scope names s.core) s)
told_sites scope names s = core_sites s (told_on scope names s.core) (told_stay scope names s.core)

-- the outlets of an instance, if it is there
abbrev pub outlets_in : Option Linked → List OutletState
outlets_in None = []
outlets_in (Some l) = l.page.outlets

-- and the rows that stand in one of them
rows_in : (o : ℕ) (l : Option Linked) → bodies_or (outlet_of_linked o l) ≡ bodies_or (slice_get (outlets_in l) o)
rows_in o None = refl
rows_in o (Some l) = refl

outlets_there : (l : Option Linked) (m : Linked) → l ≡ Some m → outlets_in l ≡ m.page.outlets
outlets_there None m e = absurd (cc)
outlets_there (Some l) m e = let same : l ≡ m = cc in ap (λ (x : Linked). x.page.outlets) same

module _ (k : Key) (v : ViewTree) (holder : List ℕ) (ks : List Key) (left : list_any (is_key k) ks ≡ true) where
  -- ---- the instance was this: its outlets, their numbers, and the rows that stood in the outlet of the repeat

  module _ (o scope : ℕ) (outsides : List ℕ) (base : List Scope) (held : IsHeld base holder scope outsides) (xs : List OutletState) (ns : List ℕ) (f : Fragment)
      (of_site : (x : OutletState) → slice_get xs o ≡ Some x → (is_filled_by k.serial.0 x ≡ true) × (x.scope ≡ scope)) where
    abbrev stood : List Body
    stood = bodies_or (slice_get xs o)

    -- all that has changed of it are the bodies of that outlet
    pub record IsFrom (s : State) : Type 0 where
      pub under : IsUnder k v holder ks left s
      pub since : ScopesStay base s.core.scopes
      pub sites : (m : Linked) → linked_at holder s.instances ≡ Some m → (m.page.serials ≡ ns) × (m.fragment ≡ f)
      pub altered : (m : Linked) → linked_at holder s.instances ≡ Some m → Altered o xs m.page.outlets

    from_stays : (s t : State) → SitesStay s t → IsFrom s → IsFrom t
    from_stays s t stay h =
        let same : (m : Linked) → linked_at holder t.instances ≡ Some m → linked_at holder s.instances ≡ Some m = λ m at. ap (linked_at holder) (sym stay.instances) ∙ at in
        record {
          under = under_stays k v holder ks left s t stay h.under;
          since = scopes_trans base s.core.scopes t.core.scopes h.since stay.core.scopes;
          sites = λ m at. h.sites m (same m at);
          altered = λ m at. h.altered m (same m at);
        }

    still_held : (s : State) → IsFrom s → IsHeld s.core.scopes holder scope outsides
    still_held s h = held_stays base s.core.scopes holder scope outsides h.since held

    still_of_site : (s : State) → IsFrom s → IsOfSite k v holder ks left o scope s
    still_of_site s h m x at get =
        let was = h.altered m at o x get in
        let first = of_site was.0 was.1 in
        (ap (is_at (nat_cmp k.serial.0)) was.2.serial ∙ first.0, was.2.scope ∙ first.1)

    -- ---- a row goes

    one_taken : (p : List ℕ) (s : State) → ((j : ℕ) (x : OutletState) → slice_get xs j ≡ Some x → (j ≡ o → ⊥) → body_count p x.bodies ≡ 0) → IsFrom s → IsFrom (unlinked_at holder p s)
    one_taken p s alone h = record {
      since = h.since;
      under = under_unlinked k v holder ks left p s (λ m at. all_by_place (λ (x : OutletState). IsOut ks (key_in m.page x.serial) → body_count p x.bodies ≡ 0) m.page.outlets (λ j x get out. by_place m at j x get out)) h.under;
      sites = λ m at. by_sites m (unlinked_here holder p s.instances m at);
      altered = λ m at. by_altered m (unlinked_here holder p s.instances m at);
    }
      where
        others : (m : Linked) → linked_at holder s.instances ≡ Some m → (j : ℕ) (x : OutletState) → slice_get m.page.outlets j ≡ Some x → (j ≡ o → ⊥) → body_count p x.bodies ≡ 0
        others m at j x get other =
            let was = h.altered m at j x get in
            ap (body_count p) (was.2.bodies other) ∙ alone j was.0 was.1 other

        by_place : (m : Linked) → linked_at holder s.instances ≡ Some m → (j : ℕ) (x : OutletState) → slice_get m.page.outlets j ≡ Some x → IsOut ks (key_in m.page x.serial) → body_count p x.bodies ≡ 0
        by_place m at j x get out =
            by_same_place (body_count p x.bodies ≡ 0) j o
            (λ same.
            let here : slice_get m.page.outlets o ≡ Some x = ap (slice_get m.page.outlets) (sym same) ∙ get in
            let two : true ≡ false = sym (not_asked k v holder ks left m x (h.under.own m at) (still_of_site s h m x at here).0) ∙ out in absurd (cc))
            (λ other. others m at j x get other)

        by_sites : (m : Linked) → (l : Linked) × (linked_at holder s.instances ≡ Some l) × (m ≡ with_outlets (body_gone p) l) → (m.page.serials ≡ ns) × (m.fragment ≡ f)
        by_sites m (l, at, same) = (ap (λ (x : Linked). x.page.serials) same ∙ (h.sites l at).0, ap (λ (x : Linked). x.fragment) same ∙ (h.sites l at).1)

        by_altered : (m : Linked) → (l : Linked) × (linked_at holder s.instances ≡ Some l) × (m ≡ with_outlets (body_gone p) l) → Altered o xs m.page.outlets
        by_altered m (l, at, same) =
            subst (λ (x : Linked). Altered o xs x.page.outlets) (sym same)
            (altered_on o xs l.page.outlets (body_gone p l.page.outlets) (h.altered l at) (gone_altered o p l.page.outlets (others l at)))

    -- bodies that no other outlet had
    abbrev AreAlone : List Body → Type 0
    AreAlone bs = AllByRecursion (λ (b : Body). (j : ℕ) (x : OutletState) → slice_get xs j ≡ Some x → (j ≡ o → ⊥) → body_count b.path x.bodies ≡ 0) bs

    all_taken : (bs : List Body) (s : State) → AreAlone bs → IsFrom s → IsFrom (rows_taken holder bs s)
    all_taken [] s alone h = h
    all_taken (b ∷ bs) s alone h = one_taken b.path (rows_taken holder bs s) alone.0 (all_taken bs s alone.1 h)

    rows_go : (bs : List Body) (g : Firing) → AreAlone bs → IsFrom g.state → IsFrom (rows_gone holder bs g).state
    rows_go bs g alone h = all_taken bs (all_ended bs g).state alone (from_stays g.state (all_ended bs g).state (all_ended_sites bs g) h)

    taken_core : (bs : List Body) (s : State) → (rows_taken holder bs s).core ≡ s.core
    taken_core [] s = refl
    taken_core (b ∷ bs) s = taken_core bs s

    -- ---- rows are made, one after another, behind those that stand: these were to be, and these are still to come

    module _ (all : List Row) where
      -- the bodies of the outlet are those of the rows so far, and then the rows that are kept
      abbrev IsFilling : List Row → ℕ → OutletState → Type 0
      IsFilling rest count x = (bs : List Body) × (length bs ≡ count) × (roles_in bs ++ map role_for rest ≡ map role_for all) × (x.bodies ≡ bs ++ kept_rows rest)

      pub record IsAt (rest : List Row) (h : Filled) : Type 0 where
        pub from : IsFrom h.firing.state
        pub fills : h.firing.faulted ≡ false → (m : Linked) → linked_at holder h.firing.state.instances ≡ Some m → (x : OutletState) → slice_get m.page.outlets o ≡ Some x → IsFilling rest h.count x

      -- one body more
      one_more : (r : Row) (rest : List Row) (count : ℕ) (b : Body) (x y : OutletState) → b.role ≡ role_for r → IsFilling (r ∷ rest) count x
          → ((bs : List Body) → length bs ≡ count → x.bodies ≡ bs ++ kept_rows (r ∷ rest) → y.bodies ≡ bs ++ b ∷ kept_rows rest) → IsFilling rest (suc count) y
      one_more r rest count b x y role (bs, many, roles, bodies) next = (
        bs ++ b ∷ [],
        (let one = length-append bs (b ∷ []) in omega (arith, one, many)),
        ap (λ (rs : List Role). rs ++ map role_for rest) (map-append (λ (c : Body). c.role) bs (b ∷ [])) ∙ (append_assoc (roles_in bs) (b.role ∷ []) (map role_for rest)
            ∙ (ap (λ (one : Role). roles_in bs ++ one ∷ map role_for rest) role ∙ roles)),
        next bs many bodies ∙ sym (append_assoc bs (b ∷ []) (kept_rows rest)),
      )

      row_stays : (r : Row) (rest : List Row) (p : List ℕ) (names : List Local) (h : Filled) → r.from ≡ Some p → IsAt (r ∷ rest) h → IsAt rest (row_kept p names h)
      row_stays r rest p names h from at =
          let s : State = h.firing.state in
          let dead : ℕ = scope_in (linked_at p s.instances) in
          record {
            from = from_stays s (with_core (told_on dead names s.core) s) (told_sites dead names s) at.from;
            fills = λ ok m there x get.
                one_more r rest h.count (record { path = p; role = role_for r }) x x refl (at.fills ok m there x get)
                (λ bs many bodies. bodies ∙ ap (λ (q : Option (List ℕ)). bs ++ (kept_from q (role_for r) ++ kept_rows rest)) from);
          }

      row_comes : (r : Row) (rest : List Row) (which : Origin) (names : List Local) (h : Filled) → r.from ≡ None → IsAt (r ∷ rest) h → IsAt rest (row_made holder scope outsides o which (role_for r) names h)
      row_comes r rest which names h from at = by_fault h.firing.faulted refl
        where
          g : Firing
          g = filled (in_outlet holder o h.count (role_for r)) scope outsides names which h.firing

          made : IsMade k v holder ks left o h.count (role_for r) h.firing g
          made = filled_made k v holder ks left o h.count scope (role_for r) outsides names which h.firing (still_held h.firing.state at.from) at.from.under (still_of_site h.firing.state at.from)

          Stood : Linked → Type 0
          Stood m = (l : Linked) × (linked_at holder h.firing.state.instances ≡ Some l)
              × (((g.faulted ≡ true) × (m ≡ l)) ⊎ ((g.faulted ≡ h.firing.faulted) × ((p : List ℕ) × (m ≡ with_outlets (body_added o h.count (record { path = p; role = role_for r })) l))))

          by_sites : (m : Linked) → Stood m → (m.page.serials ≡ ns) × (m.fragment ≡ f)
          by_sites m (l, there, inl two) = (ap (λ (x : Linked). x.page.serials) two.1 ∙ (at.from.sites l there).0, ap (λ (x : Linked). x.fragment) two.1 ∙ (at.from.sites l there).1)
          by_sites m (l, there, inr two) = (ap (λ (x : Linked). x.page.serials) two.1.1 ∙ (at.from.sites l there).0, ap (λ (x : Linked). x.fragment) two.1.1 ∙ (at.from.sites l there).1)

          by_altered : (m : Linked) → Stood m → Altered o xs m.page.outlets
          by_altered m (l, there, inl two) = subst (λ (x : Linked). Altered o xs x.page.outlets) (sym two.1) (at.from.altered l there)
          by_altered m (l, there, inr two) =
              subst (λ (x : Linked). Altered o xs x.page.outlets) (sym two.1.1)
              (altered_on o xs l.page.outlets (body_added o h.count (record { path = two.1.0; role = role_for r }) l.page.outlets) (at.from.altered l there) (added_altered o h.count (record { path = two.1.0; role = role_for r }) l.page.outlets))

          from_made : IsFrom g.state
          from_made = record { under = made.under; since = scopes_trans base h.firing.state.core.scopes g.state.core.scopes at.from.since made.scopes; sites = λ m there. by_sites m (made.stood m there); altered = λ m there. by_altered m (made.stood m there) }

          put : (b : Body) (y : OutletState) (bs : List Body) → length bs ≡ h.count → y.bodies ≡ bs ++ kept_rows (r ∷ rest) → put_at h.count b y.bodies ≡ bs ++ b ∷ kept_rows rest
          put b y bs many bodies =
              ap (put_at h.count b) (bodies ∙ ap (λ (q : Option (List ℕ)). bs ++ (kept_from q (role_for r) ++ kept_rows rest)) from) ∙ put_here h.count b bs (kept_rows rest) many

          by_place : h.firing.faulted ≡ false → (l : Linked) → linked_at holder h.firing.state.instances ≡ Some l → (b : Body) → b.role ≡ role_for r → (x : OutletState) → ChangedAt (with_body h.count b) o l.page.outlets o x → IsFilling rest (suc h.count) x
          by_place ok l there b role x (y, get, inl two) = absurd (two.0 refl)
          by_place ok l there b role x (y, get, inr two) =
              one_more r rest h.count b y x role (at.fills ok l there y get) (λ bs many bodies. ap (λ (z : OutletState). z.bodies) two.1 ∙ put b y bs many bodies)

          by_stood : h.firing.faulted ≡ false → g.faulted ≡ false → (m : Linked) → Stood m → (x : OutletState) → slice_get m.page.outlets o ≡ Some x → IsFilling rest (suc h.count) x
          by_stood old ok m (l, there, inl two) x get = absurd (not_both g.faulted two.0 ok)
          by_stood old ok m (l, there, inr two) x get =
              let b : Body = record { path = two.1.0; role = role_for r } in
              by_place old l there b refl x (added_place o h.count b l.page.outlets o x (ap (λ (z : Linked). slice_get z.page.outlets o) (sym two.1.1) ∙ get))

          counted : (t : Bool) → g.faulted ≡ t → h.firing.faulted ≡ false → IsAt rest (record { firing = g; count = cond t h.count (suc h.count) })
          counted true e old = record { from = from_made; fills = λ ok. absurd (not_both g.faulted e ok) }
          counted false e old = record { from = from_made; fills = λ ok m there x get. by_stood old ok m (made.stood m there) x get }

          by_fault : (t : Bool) → h.firing.faulted ≡ t → IsAt rest (cond t h (record { firing = g; count = cond g.faulted h.count (suc h.count) }))
          by_fault true e = record { from = at.from; fills = λ ok. absurd (not_both h.firing.faulted e ok) }
          by_fault false e = counted g.faulted refl e

      one_row : (r : Row) (rest : List Row) (which : Origin) (names : List Local) (h : Filled) → IsAt (r ∷ rest) h → IsAt rest (row_fired holder scope outsides o which r names r.from h)
      one_row r rest which names h at = by_from r.from refl
        where
          by_from : (p : Option (List ℕ)) → r.from ≡ p → IsAt rest (row_fired holder scope outsides o which r names p h)
          by_from (Some p) e = row_stays r rest p names h e at
          by_from None e = row_comes r rest which names h e at

      all_rows : (which : Origin) (w : Repeated) (count i : ℕ) (rest : List Row) (h : Filled) → IsAt rest h → IsAt [] (rows_fired holder scope outsides o which w count i rest h)
      all_rows which w count i [] h at = at
      all_rows which w count i (r ∷ rest) h at =
          all_rows which w count (suc i) rest (row_fired holder scope outsides o which r (row_names w count i r.item) r.from h) (one_row r rest which (row_names w count i r.item) h at)

    -- ---- once the fire is done

    pub record HasRows (h : Firing) : Type 0 where
      pub from : IsFrom h.state
      pub rows : h.faulted ≡ false → (m : Linked) → linked_at holder h.state.instances ≡ Some m → (x : OutletState) → slice_get m.page.outlets o ≡ Some x → are_rows (entries_in v) (roles_in x.bodies) ≡ true

    rows_fault : (e : Fault) (g : Firing) → IsFrom g.state → HasRows (faulted_with e g)
    rows_fault e g h = record { from = from_stays g.state (faulted_with e g).state (fault_sites e g) h; rows = λ ok. absurd (let two : true ≡ false = ok in cc) }

    rows_done : (rs : List Row) (h : Filled) → map (λ (r : Row). r.item.entry) rs ≡ entries_in v → IsAt rs [] h → HasRows h.firing
    rows_done rs h entries at = record {
      from = at.from;
      rows = λ ok m there x get. by_fill x (at.fills ok m there x get);
    }
      where
        by_fill : (x : OutletState) → IsFilling rs [] h.count x → are_rows (entries_in v) (roles_in x.bodies) ≡ true
        by_fill x (bs, many, roles, bodies) =
            let all : roles_in x.bodies ≡ map role_for rs = ap roles_in (bodies ∙ append-nil bs) ∙ (sym (append-nil (roles_in bs)) ∙ roles) in
            ap (are_rows (entries_in v)) all ∙ (ap (λ (es : List Entry). are_rows es (map role_for rs)) (sym entries) ∙ own_rows rs)

    -- ---- those that stood

    module _ (once : (q : List ℕ) → held_count q xs ≤ 1) where
      -- what stood in the outlet stood in no other
      alone_stood : (q : List ℕ) → 0 < body_count q stood → (j : ℕ) (x : OutletState) → slice_get xs j ≡ Some x → (j ≡ o → ⊥) → body_count q x.bodies ≡ 0
      alone_stood q some j x get other = by_outlet (slice_get xs o) refl some
        where
          by_outlet : (y : Option OutletState) → slice_get xs o ≡ y → 0 < body_count q (bodies_or y) → body_count q x.bodies ≡ 0
          by_outlet None at some = absurd (omega (arith, some))
          by_outlet (Some y) at some = alone_there q xs o j y x (once q) at some get other

      stood_once : (q : List ℕ) → body_count q stood ≤ 1
      stood_once q = by_outlet (slice_get xs o) refl
        where
          by_outlet : (y : Option OutletState) → slice_get xs o ≡ y → body_count q (bodies_or y) ≤ 1
          by_outlet None at = omega arith
          by_outlet (Some y) at = let low = count_within q xs o y at in let few = once q in omega (arith, low, few)

      gone_alone : (is : List ℕ) → AreAlone (bodies_at stood is)
      gone_alone is = all_map (λ (b : Body). 0 < body_count b.path stood) (λ (b : Body). (j : ℕ) (x : OutletState) → slice_get xs j ≡ Some x → (j ≡ o → ⊥) → body_count b.path x.bodies ≡ 0) (bodies_at stood is) (λ b some. alone_stood b.path some) (gone_stood stood is)

      -- the rows that are kept are arranged
      may_stand : (s : State) (items : List Item) (keys : List TrackKey) (ps : List (Option ℕ)) → AreApart ps → AllByRecursion (IsChild s.core.scopes scope) stood → IsFrom s
          → (m : Linked) → linked_at holder s.instances ≡ Some m → MayStand s o (kept_rows (rows_from stood items keys ps)) m
      may_stand s items keys ps apart children h m at =
          let new : List Body = kept_rows (rows_from stood items keys ps) in
          record {
            children = λ x get.
                subst (λ (n : ℕ). AllByRecursion (IsChild s.core.scopes n) new) (sym (still_of_site s h m x at get).1)
                (all_kept (IsChild s.core.scopes scope) (λ b c same child. (child.0, child.1, same ∙ child.2)) stood children items keys ps);
            once = λ q. arranged_once q o new m.page.outlets ((h.under.watched.linked holder m at).once q) (kept_once q stood (stood_once q) items keys ps apart)
                (λ some j x get other.
                let was = h.altered m at j x get in
                ap (body_count q) (was.2.bodies other) ∙ alone_stood q (kept_stood q stood items keys ps some) j was.0 was.1 other);
          }

      arrange : (s : State) (bs : List Body) → ((m : Linked) → linked_at holder s.instances ≡ Some m → MayStand s o bs m) → IsFrom s → IsFrom (arranged_at holder o bs s)
      arrange s bs may h = record {
        under = under_arranged k v holder ks left o scope bs s may (still_of_site s h) h.under;
        since = h.since;
        sites = λ m at. by_sites m (arranged_here holder o bs s m at);
        altered = λ m at. by_altered m (arranged_here holder o bs s m at);
      }
        where
          by_sites : (m : Linked) → (l : Linked) × (linked_at holder s.instances ≡ Some l) × (m ≡ with_outlets (bodies_arranged o bs) l) → (m.page.serials ≡ ns) × (m.fragment ≡ f)
          by_sites m (l, at, same) = (ap (λ (x : Linked). x.page.serials) same ∙ (h.sites l at).0, ap (λ (x : Linked). x.fragment) same ∙ (h.sites l at).1)

          by_altered : (m : Linked) → (l : Linked) × (linked_at holder s.instances ≡ Some l) × (m ≡ with_outlets (bodies_arranged o bs) l) → Altered o xs m.page.outlets
          by_altered m (l, at, same) =
              subst (λ (x : Linked). Altered o xs x.page.outlets) (sym same)
              (altered_on o xs l.page.outlets (bodies_arranged o bs l.page.outlets) (h.altered l at) (arranged_altered o bs l.page.outlets))

      -- then these bodies stand there
      arranged_bodies : (s : State) (bs : List Body) (m : Linked) → linked_at holder (arranged_at holder o bs s).instances ≡ Some m → (x : OutletState) → slice_get m.page.outlets o ≡ Some x → x.bodies ≡ bs
      arranged_bodies s bs m at x get = by_here (arranged_here holder o bs s m at)
        where
          by_place : (l : Linked) → ChangedAt (with_bodies bs) o l.page.outlets o x → x.bodies ≡ bs
          by_place l (y, there, inl two) = absurd (two.0 refl)
          by_place l (y, there, inr two) = ap (λ (z : OutletState). z.bodies) two.1

          by_here : (l : Linked) × (linked_at holder s.instances ≡ Some l) × (m ≡ with_outlets (bodies_arranged o bs) l) → x.bodies ≡ bs
          by_here (l, old, same) = by_place l (arranged_place o bs l.page.outlets o x (ap (λ (z : Linked). slice_get z.page.outlets o) (sym same) ∙ get))

      changed : (which : Origin) (w : Repeated) (items : List Item) (keys : List TrackKey) (ps : List (Option ℕ)) (is : List ℕ) (g : Firing)
          → AreApart ps → length keys ≡ length items → length ps ≡ length keys → map (λ (x : Item). x.entry) items ≡ entries_in v
          → AllByRecursion (IsChild g.state.core.scopes scope) stood → IsFrom g.state → HasRows (rows_changed holder scope outsides o which w (bodies_at stood is) (rows_from stood items keys ps) g)
      changed which w items keys ps is g apart many as_many entries children h =
          let rs : List Row = rows_from stood items keys ps in
          let new : List Body = kept_rows rs in
          let ends : Firing = all_ended (bodies_at stood is) g in
          let gone : Firing = rows_gone holder (bodies_at stood is) g in
          let from : IsFrom gone.state = rows_go (bodies_at stood is) g (gone_alone is) h in
          let still : AllByRecursion (IsChild ends.state.core.scopes scope) stood =
          all_map (IsChild g.state.core.scopes scope) (IsChild ends.state.core.scopes scope) stood (child_stays g.state.core.scopes ends.state.core.scopes scope (all_ended_sites (bodies_at stood is) g).core.scopes (still_held g.state h).there) children in
          let there : AllByRecursion (IsChild gone.state.core.scopes scope) stood =
          subst (λ (c : act.State). AllByRecursion (IsChild c.scopes scope) stood) (sym (taken_core (bodies_at stood is) ends.state)) still in
          let arranged : Firing = rows_arranged holder o new gone in
          let begins : IsAt rs rs (filled_to 0 arranged) = record {
            from = arrange gone.state new (may_stand gone.state items keys ps apart there from) from;
            fills = λ ok m at x get. ([], refl, refl, arranged_bodies gone.state new m at x get);
          } in
          rows_done rs (rows_fired holder scope outsides o which w (length rs) 0 rs (filled_to 0 arranged)) (rows_entries stood items keys ps many as_many ∙ entries) (all_rows rs which w (length rs) 0 rs (filled_to 0 arranged) begins)

      by_planned : (which : Origin) (w : Repeated) (items : List Item) (keys : List TrackKey) (g : Firing) → length keys ≡ length items → map (λ (x : Item). x.entry) items ≡ entries_in v
          → AllByRecursion (IsChild g.state.core.scopes scope) stood → IsFrom g.state → (r : Result Plan Fault) → as_fault (planned (keys_of stood) keys) ≡ r → HasRows (by_plan holder scope outsides o which w stood items keys r g)
      by_planned which w items keys g many entries children h (Err e) is = rows_fault e g h
      by_planned which w items keys g many entries children h (Ok p) is =
          let two = plan_is (keys_of stood) keys p is in
          let apart : AreApart p.from = subst AreApart (sym two.0) (rows_apart (keys_of stood) keys two.1) in
          let as_many : length p.from ≡ length keys = ap (λ (ps : List (Option ℕ)). length ps) two.0 ∙ length-map keys (row_of (keys_of stood)) in
          changed which w items keys p.from p.gone g apart many as_many entries children h

      by_tracked : (which : Origin) (w : Repeated) (items : List Item) (g : Firing) → map (λ (x : Item). x.entry) items ≡ entries_in v → AllByRecursion (IsChild g.state.core.scopes scope) stood → IsFrom g.state
          → (r : Result (List TrackKey) Fault) → track_keys g.state.core.objects (object_at g.state.core.scopes scope) w 0 [] items ≡ r → HasRows (by_keys holder scope outsides o which w stood items r g)
      by_tracked which w items g entries children h (Err e) is = rows_fault e g h
      by_tracked which w items g entries children h (Ok keys) is =
          let many : length keys ≡ 0 + length items = keys_many g.state.core.objects (object_at g.state.core.scopes scope) w 0 [] items keys is in
          by_planned which w items keys g (omega (arith, many)) entries children h (as_fault (planned (keys_of stood) keys)) refl

      by_made : (which : Origin) (w : Repeated) (g : Firing) → rows_at holder o g.state.instances ≡ stood → AllByRecursion (IsChild g.state.core.scopes scope) stood → IsFrom g.state
          → (r : Result (List Item) Fault) → (items_made_is : (items : List Item) → r ≡ Ok items → map (λ (x : Item). x.entry) items ≡ entries_in v) → HasRows (by_items holder scope outsides o which w r g)
      by_made which w g same children h (Err e) is = rows_fault e g h
      by_made which w g same children h (Ok items) is =
          let keys : Result (List TrackKey) Fault = track_keys g.state.core.objects (object_at g.state.core.scopes scope) w 0 [] items in
          subst (λ (bs : List Body). HasRows (by_keys holder scope outsides o which w bs items keys g)) (sym same)
          (by_tracked which w items g (is items refl) children h keys refl)

  -- ---- so the rows of an outlet become those of the entries

  children_stood : (s : State) (o scope : ℕ) → ((x : OutletState) → slice_get (outlets_in (linked_at holder s.instances)) o ≡ Some x → (is_filled_by k.serial.0 x ≡ true) × (x.scope ≡ scope)) → IsUnder k v holder ks left s
      → AllByRecursion (IsChild s.core.scopes scope) (bodies_or (slice_get (outlets_in (linked_at holder s.instances)) o))
  children_stood s o scope of u = by_linked (linked_at holder s.instances) refl of
    where
      Of : Option Linked → Type 0
      Of l = (x : OutletState) → slice_get (outlets_in l) o ≡ Some x → (is_filled_by k.serial.0 x ≡ true) × (x.scope ≡ scope)

      by_outlet : (bs : Bounds) (xs : List OutletState) → AllByRecursion (IsRound s.core.scopes bs) xs → (y : Option OutletState) → slice_get xs o ≡ y → ((x : OutletState) → y ≡ Some x → x.scope ≡ scope)
          → AllByRecursion (IsChild s.core.scopes scope) (bodies_or y)
      by_outlet bs xs all None at on = tt
      by_outlet bs xs all (Some y) at on = subst (λ (n : ℕ). AllByRecursion (IsChild s.core.scopes n) y.bodies) (on y refl) (at_place (IsRound s.core.scopes bs) xs o y all at).bodies

      by_linked : (l : Option Linked) → linked_at holder s.instances ≡ l → Of l → AllByRecursion (IsChild s.core.scopes scope) (bodies_or (slice_get (outlets_in l) o))
      by_linked None e of = tt
      by_linked (Some l) e of = by_outlet l.page.bounds l.page.outlets (u.watched.linked holder l e).rounds (slice_get l.page.outlets o) refl (λ x get. (of x get).1)

  once_stood : (s : State) → IsUnder k v holder ks left s → (q : List ℕ) → held_count q (outlets_in (linked_at holder s.instances)) ≤ 1
  once_stood s u q = by_linked (linked_at holder s.instances) refl
    where
      by_linked : (l : Option Linked) → linked_at holder s.instances ≡ l → held_count q (outlets_in l) ≤ 1
      by_linked None e = omega arith
      by_linked (Some l) e = (u.watched.linked holder l e).once q

  pub record IsRepeated (o : ℕ) (ns : List ℕ) (f : Fragment) (g h : Firing) : Type 0 where
    pub under : IsUnder k v holder ks left h.state
    pub scopes : ScopesStay g.state.core.scopes h.state.core.scopes
    pub sites : (m : Linked) → linked_at holder h.state.instances ≡ Some m → (m.page.serials ≡ ns) × (m.fragment ≡ f)
    pub altered : (m : Linked) → linked_at holder h.state.instances ≡ Some m → Altered o (outlets_in (linked_at holder g.state.instances)) m.page.outlets
    pub rows : h.faulted ≡ false → (m : Linked) → linked_at holder h.state.instances ≡ Some m → (x : OutletState) → slice_get m.page.outlets o ≡ Some x → are_rows (entries_in v) (roles_in x.bodies) ≡ true

  pub repeat_fits : (o scope : ℕ) (outsides : List ℕ) (which : Origin) (w : Repeated) (ns : List ℕ) (f : Fragment) (g : Firing) → IsHeld g.state.core.scopes holder scope outsides
      → ((x : OutletState) → slice_get (outlets_in (linked_at holder g.state.instances)) o ≡ Some x → (is_filled_by k.serial.0 x ≡ true) × (x.scope ≡ scope))
      → ((m : Linked) → linked_at holder g.state.instances ≡ Some m → (m.page.serials ≡ ns) × (m.fragment ≡ f)) → IsUnder k v holder ks left g.state → IsRepeated o ns f g (repeat_fired holder scope outsides v o which w g)
  repeat_fits o scope outsides which w ns f g held of sites u =
      let base : List Scope = g.state.core.scopes in
      let xs : List OutletState = outlets_in (linked_at holder g.state.instances) in
      let r : Run (List Item) = items_made (entries_in v) [] g.state.core in
      let g1 : Firing = with_state (with_core r.0 g.state) g in
      let stay : SitesStay g.state g1.state = core_sites g.state r.0 (items_stay (entries_in v) [] g.state.core) in
      let first : IsFrom o scope outsides base held xs ns f of g.state =
      record { under = u; since = scopes_refl base; sites = sites; altered = λ m at. subst (Altered o xs) (outlets_there (linked_at holder g.state.instances) m at) (altered_first o xs) } in
      let children : AllByRecursion (IsChild g1.state.core.scopes scope) (bodies_or (slice_get xs o)) =
      all_map (IsChild g.state.core.scopes scope) (IsChild g1.state.core.scopes scope) (bodies_or (slice_get xs o)) (child_stays g.state.core.scopes g1.state.core.scopes scope stay.core.scopes held.there) (children_stood g.state o scope of u) in
      let end : HasRows o scope outsides base held xs ns f of (repeat_fired holder scope outsides v o which w g) =
      by_made o scope outsides base held xs ns f of (once_stood g.state u) which w g1 (rows_in o (linked_at holder g.state.instances)) children (from_stays o scope outsides base held xs ns f of g.state g1.state stay first) r.1
      (λ items is. items_entries (entries_in v) [] g.state.core items is) in
      record { under = end.from.under; scopes = end.from.since; sites = end.from.sites; altered = end.from.altered; rows = end.rows }
