-- What rows that go, and the others in a new order, leave of the instance that their outlet is in.
use Rattle.std.proofs.Common.{◌≡◌, ◌∙◌, ◌+◌, ◌<◌, ◌≤◌, ℕ, zero, suc, Bool, true, false, cond, not, List, [], ◌∷◌, ◌++◌, drop, length, map, slice_get, option_map, Option, Some, None, refl, ap, sym, subst, arith, if◌then◌else◌}
use Rattle.std.specs.List.{filter}
use Rattle.std.specs.Prelude.{IsSome}
use Rattle.ng_base.specs.declared.path.Key.{Key}
use Rattle.ng_behaviour.specs.Scopes.{Scope}
use Rattle.ng_fire.proofs.Once.{sum_at}
use Rattle.ng_changes.proofs.Entries.{rows_wider}
use Rattle.ng_fire.proofs.KeptRows.{at_row, gone_count}
use Rattle.ng_base.specs.declared.name.ScopeId.{ScopeId}
use Rattle.ng_changes.proofs.InnerPaths.{site_changed}
use Rattle.ng_steps.proofs.Placed.{OutletsHave, has_with, outlets_arranged, scope_changed, stands_with}
use Rattle.ng_changes.proofs.AllAt.{all_at}
use Rattle.ng_fire.proofs.Served.{at_still, gone_bodies, held_below, not_begun, scope_with, unlinked_serves}
use Rattle.ng_changes.proofs.Wholes.{Stays, stays_of, whole_by}
use Rattle.ng_fire.specs.Blocks.{Firing, ended}
use Rattle.ng_rows.specs.RepeatRows.{Row, kept_rows}
use Rattle.ng_fire.specs.Repeats.{all_ended, bodies_at, body_at, bodies_or, rows_at, rows_taken}
use Rattle.ng_fire.specs.RowsKnown.{AreRowsAt, HaveGone, IsSpot, KeptOrGone}
use Rattle.ng_fire.specs.Serving.{bare, bare_outlets, outlets_in, Keeps, Serves}
use Rattle.ng_changes.specs.Whole.{HasBody, HasScope, IsWhole, OutletStands}
use Rattle.ng_fire.specs.declared.repeats.Spot.{Spot}
use Rattle.ng_link.proofs.Lookups.{changed_all, changed_here, kept_found}
use Rattle.ng_instances.proofs.PathIs.{path_is}
use Rattle.ng_link.proofs.PathsBelow.{same_path}
use Rattle.ng_link.specs.Arranging.{IsRearranged}
use Rattle.ng_link.specs.Calls.{arranged_at, unlinked_at}
use Rattle.ng_link.specs.Events.{scope_in}
use Rattle.ng_instances.specs.Instances.{Body, OutletState, Linked, Instances, is_path, is_site, linked_at, with_outlets, outlets_changed, bodies_arranged, without_body, body_gone, unlinked}
use Rattle.ng_instances.specs.PlaceOf.{outlet_of_linked}
use Rattle.ng_link.specs.Standing.{body_count, held_count, IsPlaced, ArePlaced, IsHeldIn, IsStanding}
use Rattle.ng_link.specs.State.{State, state_of}
use Rattle.ng_link.specs.declared.works.Works.{Works}
use Rattle.ng_drawing.specs.Named.{Named, fragment_for}
use Rattle.ng_behaviour.specs.Keys.{begins}

-- ---- an instance stays

pub keeps_same : (holder : List ℕ) (old new : Instances) → new ≡ old → Keeps holder old new
keeps_same holder old new e = record { scope = ap (λ (is : Instances). scope_in (linked_at holder is)) e; outlets = ap (bare_outlets holder) e }

pub keeps_then : (holder : List ℕ) (old mid new : Instances) → Keeps holder old mid → Keeps holder mid new → Keeps holder old new
keeps_then holder old mid new h k = record { scope = k.scope ∙ h.scope; outlets = k.outlets ∙ h.outlets }

pub serves_keeps : (holder : List ℕ) (bs : List Body) (old new : Instances) → Serves holder bs old new → Keeps holder old new
serves_keeps holder bs old new h = record { scope = h.scope; outlets = h.outlets }

-- a spot stays one where its outlet does
pub spot_stays : (all now : List Named) (old new : Instances) (s : Spot) → now ≡ all → Keeps s.holder.now old new → IsSpot all old s → IsSpot now new s
spot_stays all now old new s same keeps h = record {
  outlet = at_still s.holder.now old new s.outlet s.scope.0 (map (λ (n : ScopeId). n.0) s.outsides.now) keeps.outlets h.outlet;
  body = subst (λ (ts : List Named). IsSome (fragment_for ts s.origin)) (sym same) h.body;
}

-- ---- a row goes

pub outlet_gone : (p : List ℕ) (o : ℕ) (os : List OutletState) → slice_get (body_gone p os) o ≡ option_map (without_body p) (slice_get os o)
outlet_gone p o [] = refl
outlet_gone p zero (x ∷ os) = refl
outlet_gone p (suc o) (x ∷ os) = outlet_gone p o os

none_left : (p : List ℕ) (bs : List Body) → body_count p (filter (λ (b : Body). not (is_path p b.path)) bs) ≡ 0
none_left p [] = refl
none_left p (b ∷ bs) = by (is_path p b.path) refl (none_left p bs)
  where
    others : List Body
    others = filter (λ (x : Body). not (is_path p x.path)) bs

    by : (t : Bool) → is_path p b.path ≡ t → body_count p others ≡ 0 → body_count p (cond (not t) (b ∷ others) others) ≡ 0
    by true e more = more
    by false e more =
        let none : (let n : ℕ = if is_path p b.path then 1 else 0 in n ≡ 0) = ap (λ (t : Bool). (let n : ℕ = if t then 1 else 0 in n)) e in
        omega (arith, more, none)

pub one_of : (q : List ℕ) (o : ℕ) (os : List OutletState) (x : OutletState) → slice_get os o ≡ Some x → body_count q x.bodies ≤ held_count q os
one_of q o [] x e = absurd (cc)
one_of q zero (y ∷ os) x e =
    let same : y ≡ x = cc in
    let few = ap (λ (z : OutletState). body_count q z.bodies) same in
    omega (arith, few)
one_of q (suc o) (y ∷ os) x e = let more = one_of q o os x e in omega (arith, more)

module _ (places : Key → Option ℕ) (next : ℕ) (holder : List ℕ) (o : ℕ) (is : Instances) (placed : ArePlaced places next is) (b : Body) where
  module _ (l : Linked) (at : linked_at holder is ≡ Some l) (x : OutletState) (get : slice_get l.page.outlets o ≡ Some x) (lt : 0 < body_count b.path x.bodies) where
    one : IsPlaced places next holder l
    one = all_at (IsPlaced places next) is holder l placed at

    here : linked_at holder (unlinked holder b.path is) ≡ Some (with_outlets (body_gone b.path) l)
    here =
        let few = one_of b.path o l.page.outlets x get in
        let below = held_below holder b.path l.page.outlets one.bodies (omega (arith, lt, few)) in
        let apart : begins b.path holder ≡ false = not_begun holder b.path below in
        kept_found (λ (q : List ℕ). not (begins b.path q)) (outlets_changed holder (body_gone b.path) is) holder (ap not apart)
        ∙ (changed_here holder (body_gone b.path) is ∙ ap (option_map (with_outlets (body_gone b.path))) at)

    abbrev left : List Body
    left = filter (λ (c : Body). not (is_path b.path c.path)) x.bodies

    rows_now : rows_at holder o (unlinked holder b.path is) ≡ left
    rows_now =
        ap (λ (m : Option Linked). bodies_or (outlet_of_linked o m)) here
        ∙ ap bodies_or (outlet_gone b.path o l.page.outlets ∙ ap (option_map (without_body b.path)) get)

    rows_were : rows_at holder o is ≡ x.bodies
    rows_were = ap (λ (m : Option Linked). bodies_or (outlet_of_linked o m)) at ∙ ap bodies_or get

    counted : (q : List ℕ) (t : Bool) → is_path q b.path ≡ t → body_count q left + ((if t then 1 else 0) + 0) ≡ body_count q x.bodies
    counted q true e =
        let same : q ≡ b.path = path_is q b.path e in
        let none = ap (λ (r : List ℕ). body_count r left) same ∙ none_left b.path x.bodies in
        let some = ap (λ (r : List ℕ). body_count r x.bodies) same in
        let most = one.once q in
        let few = one_of q o l.page.outlets x get in
        omega (arith, none, some, lt, most, few)
    counted q false e = let same = gone_bodies b.path q x.bodies e in omega (arith, same)

    row_left : (q : List ℕ) → body_count q (rows_at holder o (unlinked holder b.path is)) + body_count q (b ∷ []) ≡ body_count q (rows_at holder o is)
    row_left q =
        let now = ap (body_count q) rows_now in
        let were = ap (body_count q) rows_were in
        let all = counted q (is_path q b.path) refl in
        omega (arith, now, were, all)

  -- one row of an outlet is less
  pub row_taken : 0 < body_count b.path (rows_at holder o is) → (q : List ℕ) → body_count q (rows_at holder o (unlinked holder b.path is)) + body_count q (b ∷ []) ≡ body_count q (rows_at holder o is)
  row_taken lt = by (linked_at holder is) refl lt
    where
      by_get : (l : Linked) → linked_at holder is ≡ Some l → (x : Option OutletState) → slice_get l.page.outlets o ≡ x → 0 < body_count b.path (bodies_or x)
          → (q : List ℕ) → body_count q (rows_at holder o (unlinked holder b.path is)) + body_count q (b ∷ []) ≡ body_count q (rows_at holder o is)
      by_get l at None get lt = absurd (omega (arith, lt))
      by_get l at (Some x) get lt = row_left l at x get lt

      by : (m : Option Linked) → linked_at holder is ≡ m → 0 < body_count b.path (bodies_or (outlet_of_linked o m))
          → (q : List ℕ) → body_count q (rows_at holder o (unlinked holder b.path is)) + body_count q (b ∷ []) ≡ body_count q (rows_at holder o is)
      by None at lt = absurd (omega (arith, lt))
      by (Some l) at lt = by_get l at (slice_get l.page.outlets o) refl lt

  -- and the outlet's instance holds it
  pub row_held : 0 < body_count b.path (rows_at holder o is) → IsHeldIn holder b.path is
  row_held lt = by (linked_at holder is) refl lt
    where
      by_get : (l : Linked) → linked_at holder is ≡ Some l → (x : Option OutletState) → slice_get l.page.outlets o ≡ x → 0 < body_count b.path (bodies_or x) → IsHeldIn holder b.path is
      by_get l at None get lt = absurd (omega (arith, lt))
      by_get l at (Some x) get lt = let few = one_of b.path o l.page.outlets x get in (l, at, omega (arith, lt, few))

      by : (m : Option Linked) → linked_at holder is ≡ m → 0 < body_count b.path (bodies_or (outlet_of_linked o m)) → IsHeldIn holder b.path is
      by None at lt = absurd (omega (arith, lt))
      by (Some l) at lt = by_get l at (slice_get l.page.outlets o) refl lt

-- ---- rows go, the last one first

dropped_sum : (w : ℕ → ℕ) (is : List ℕ) (m : ℕ) → sum_at w (drop m is) ≤ sum_at w is
dropped_sum w [] zero = omega arith
dropped_sum w [] (suc m) = omega arith
dropped_sum w (i ∷ is) zero = omega arith
dropped_sum w (i ∷ is) (suc m) = let more = dropped_sum w is m in omega (arith, more)

pub few_from : (q : List ℕ) (bs : List Body) (gone : List ℕ) (j : ℕ) → body_count q (bodies_at bs (drop j gone)) ≤ body_count q (bodies_at bs gone)
few_from q bs gone j =
    let some = gone_count q bs (drop j gone) in
    let all = gone_count q bs gone in
    let few = dropped_sum (at_row q bs) gone j in
    omega (arith, some, all, few)

-- the row at the first of some places, and those at the others
pub counted_more : (q : List ℕ) (xs ys : List Body) → body_count q (xs ++ ys) ≡ body_count q xs + body_count q ys
counted_more q [] ys = omega arith
counted_more q (x ∷ xs) ys = let more = counted_more q xs ys in omega (arith, more)

pub ended_more : (xs ys : List Body) (g : Firing) → all_ended (xs ++ ys) g ≡ all_ended ys (all_ended xs g)
ended_more [] ys g = refl
ended_more (x ∷ xs) ys g = ended_more xs ys (ended x.path g)

pub taken_more : (holder : List ℕ) (xs ys : List Body) (s : State) → rows_taken holder (xs ++ ys) s ≡ rows_taken holder xs (rows_taken holder ys s)
taken_more holder [] ys s = refl
taken_more holder (x ∷ xs) ys s = ap (unlinked_at holder x.path) (taken_more holder xs ys s)

pub gone_more : (holder : List ℕ) (o : ℕ) (xs ys : List Body) (old mid new : Instances) → HaveGone holder o ys old mid → HaveGone holder o xs mid new → HaveGone holder o (xs ++ ys) old new
gone_more holder o xs ys old mid new h k = λ q. (let one = h q in let more = k q in let all = counted_more q xs ys in omega (arith, one, more, all))

-- where those at the places after one are gone, the row there still stands
pub stands_still : (holder : List ℕ) (o : ℕ) (bs : List Body) (gone : List ℕ) (j i : ℕ) (old mid : Instances) → AreRowsAt holder o (bodies_at bs gone) old → drop j gone ≡ i ∷ drop (j + 1) gone → HaveGone holder o (bodies_at bs (drop (j + 1) gone)) old mid → AreRowsAt holder o (body_at (slice_get bs i)) mid
stands_still holder o bs gone j i old mid asked e left = λ q.
    (let all = asked q in
    let few = few_from q bs gone j in
    let here = ap (λ (is : List ℕ). body_count q (bodies_at bs is)) e in
    let more = counted_more q (body_at (slice_get bs i)) (bodies_at bs (drop (j + 1) gone)) in
    let now = left q in
    omega (arith, all, few, here, more, now))

module _ (places : Key → Option ℕ) (next : ℕ) (holder : List ℕ) (o : ℕ) (b : Body) (t : State) (placed : ArePlaced places next t.instances) (asked : AreRowsAt holder o (b ∷ []) t.instances) where
  pub one_there : 0 < body_count b.path (rows_at holder o t.instances)
  one_there =
      let all = asked b.path in
      let here : cond {A = ℕ} (is_path b.path b.path) 1 0 ≡ 1 = ap (λ (x : Bool). cond {A = ℕ} x 1 0) (same_path b.path) in
      omega (arith, all, here)

  pub one_held : IsHeldIn holder b.path t.instances
  one_held = row_held places next holder o t.instances placed b one_there

  module _ (u : State) (is : u ≡ unlinked_at holder b.path t) where
    pub one_gone : HaveGone holder o (b ∷ []) t.instances u.instances
    one_gone = λ q.
        (let one = row_taken places next holder o t.instances placed b one_there q in
        let same = ap (λ (x : State). body_count q (rows_at holder o x.instances)) is in
        omega (arith, one, same))

    pub one_keeps : Keeps holder t.instances u.instances
    one_keeps = serves_keeps holder (b ∷ []) t.instances u.instances
        (subst (λ (x : Instances). Serves holder (b ∷ []) t.instances x) (sym (ap (λ (x : State). x.instances) is)) (unlinked_serves places next holder b t.instances placed one_held))

-- ---- rows are put in order

arranged_bare : (n : ℕ) (bs : List Body) (os : List OutletState) → map bare (bodies_arranged n bs os) ≡ map bare os
arranged_bare n bs [] = refl
arranged_bare zero bs (o ∷ os) = refl
arranged_bare (suc n) bs (o ∷ os) = ap (λ (xs : List OutletState). bare o ∷ xs) (arranged_bare n bs os)

pub arranged_keeps : (holder : List ℕ) (o : ℕ) (bs : List Body) (is : Instances) → Keeps holder is (outlets_changed holder (bodies_arranged o bs) is)
arranged_keeps holder o bs is = record {
  scope = ap scope_in (changed_here holder (bodies_arranged o bs) is) ∙ scope_with (bodies_arranged o bs) (linked_at holder is);
  outlets = ap (λ (m : Option Linked). map bare (outlets_in m)) (changed_here holder (bodies_arranged o bs) is) ∙ by (linked_at holder is);
}
  where
    by : (m : Option Linked) → map bare (outlets_in (option_map (with_outlets (bodies_arranged o bs)) m)) ≡ map bare (outlets_in m)
    by None = refl
    by (Some l) = arranged_bare o bs l.page.outlets

pub arranged_stays : (scopes : List Scope) (objects : ℕ) (holder : List ℕ) (o : ℕ) (bs : List Body) (s : State) → Stays scopes objects s → Stays scopes objects (arranged_at holder o bs s)
arranged_stays scopes objects holder o bs s h = record {
  listeners = h.listeners;
  rows = rows_wider objects (is_site s.inner s.instances) (is_site s.inner (outlets_changed holder (bodies_arranged o bs) s.instances)) s.watchers (λ k site. site_changed s.inner holder (bodies_arranged o bs) s.instances k ∙ site) h.rows;
  scopes = changed_all holder (bodies_arranged o bs) (λ (e : List ℕ × Linked). HasScope scopes s.inner e.0 e.1) s.instances
      (λ l at one. scope_changed scopes s.inner holder (bodies_arranged o bs) l (outlets_arranged (OutletStands scopes s.inner holder) (stands_with scopes s.inner holder) o bs l.page.outlets) one) h.scopes;
  bodies = changed_all holder (bodies_arranged o bs) (λ (e : List ℕ × Linked). OutletsHave s.templates e.1.page.outlets) s.instances
      (λ l at one. outlets_arranged (λ (x : OutletState). HasBody s.templates x.home.template.0 x.filling) (has_with s.templates) o bs l.page.outlets one) h.bodies;
}

-- works of which the rows of an outlet are put in order are whole
pub arranged_whole : (v w : Works) (holder : List ℕ) (o : ℕ) (bs : List Body) → IsWhole v → w.core ≡ v.core → IsStanding w → state_of w ≡ arranged_at holder o bs (state_of v) → IsWhole w
arranged_whole v w holder o bs h core stands state =
    whole_by v w h core stands (subst (λ (s : State). Stays v.core.scopes (length v.core.store) s) (sym state) (arranged_stays v.core.scopes (length v.core.store) holder o bs (state_of v) (stays_of v h)))

-- ---- rows that are kept or gone

pub rows_among : (holder : List ℕ) (o : ℕ) (bs : List Body) (gone : List ℕ) (rs : List Row) (is : Instances) → rows_at holder o is ≡ bs → KeptOrGone bs gone rs → AreRowsAt holder o (bodies_at bs gone) is
rows_among holder o bs gone rs is stand all = λ q.
    (let here = ap (body_count q) stand in
    let both = all q in
    omega (arith, here, both))

-- once those are gone, the others are those that are kept
pub rows_rearranged : (holder : List ℕ) (o : ℕ) (bs : List Body) (gone : List ℕ) (rs : List Row) (old new : Instances) (kept : List Body) → rows_at holder o old ≡ bs → KeptOrGone bs gone rs → HaveGone holder o (bodies_at bs gone) old new → kept ≡ kept_rows rs → IsRearranged kept o holder new
rows_rearranged holder o bs gone rs old new kept stand all left same = λ x at q.
    (let here = ap (body_count q) stand in
    let both = all q in
    let less = left q in
    let now = ap (λ (y : Option OutletState). body_count q (bodies_or y)) at in
    let these = ap (body_count q) same in
    omega (arith, here, both, less, now, these))
