-- A row whose track key is called for stays linked as it is.
use Rattle.std.proofs.Common.{◌≡◌, ◌∙◌, ◌+◌, ◌-◌, ◌<◌, ◌≤◌, ℕ, zero, suc, Bool, true, false, cond, not, List, [], ◌∷◌, ◌++◌, length, map, slice_get, Option, None, Some, Result, Ok, Err, refl, ap, sym, subst, arith, if◌then◌else◌}
use Rattle.std.proofs.lemmas.Bool.{and_parts, eqb-true}
use Rattle.std.specs.List.{AllByRecursion, filter}
use Rattle.std.specs.Prelude.{◌==◌, nat_lt}
use Rattle.ng_base.specs.declared.fault.Fault.{Fault}
use Rattle.ng_base.specs.declared.fault.Fault.TheVariants.{Depth, StoreFull}
use Rattle.ng_behaviour.specs.Scopes.{IsScopeTree, Scope, child_path, object_at, path_at, with_child}
use Rattle.ng_blocks.specs.Places.{places_from}
use Rattle.ng_blocks.specs.Plans.{gone_places, has_double, is_among, row_of}
use Rattle.ng_blocks.specs.declared.keys.TrackKey.{TrackKey}
use Rattle.ng_blocks.specs.declared.plans.Plan.{Plan}
use Rattle.ng_blocks.specs.declared.plans.PlanFault.{PlanFault}
use Rattle.ng_blocks.specs.declared.plans.PlanFault.TheVariants.{Dupes}
use Rattle.ng_core.specs.State as act
use Rattle.ng_core.specs.State.{Run}
use Rattle.ng_drawing.specs.Nodes.{node_limit}
use Rattle.ng_drawing.specs.Origins.{is_too_deep}
use Rattle.ng_drawing.specs.Roles.{Role, entries_in}
use Rattle.ng_drawing.specs.Template.{Fragment, Repeated}
use Rattle.ng_drawing.specs.declared.origin.Origin.{Origin}
use Rattle.ng_fire.proofs.KeptRows.{at_row, gone_count, stands}
use Rattle.ng_fire.proofs.Once.{sum_at}
use Rattle.ng_fire.proofs.RowsStay.{inside_other, others_come, others_same, others_then, rest_more, rest_none, row_rest}
use Rattle.ng_changes.proofs.AllAt.{all_at}
use Rattle.ng_changes.specs.ChildRun.{object_limit}
use Rattle.ng_rows.specs.Chosen.{told_on}
use Rattle.ng_fire.specs.Blocks.{Firing, body_linked, body_made, body_on, discarded, ended, faulted_with, filled, linked_by, linked_then}
use Rattle.ng_steps.specs.Links.{Linking, begins_linking, ended_link, first_of, given_up, placed, rested_on_all, steps_linked}
use Rattle.ng_rows.specs.RepeatRows.{Row, as_fault, items_made, kept_rows, key_of, keys_of, role_for, row_names, rows_from}
use Rattle.ng_fire.specs.Repeats.{Filled, all_ended, bodies_at, body_at, by_items, by_keys, by_plan, filled_to, row_fired, rows_arranged, rows_at, rows_changed, rows_fired, rows_taken, with_state}
use Rattle.ng_changes.specs.Runs.{destroy_run}
use Rattle.ng_fire.specs.Serving.{OthersStay, RestStays}
use Rattle.ng_rows.specs.Tracking.{Item, track_keys}
use Rattle.ng_link.proofs.Lookups.{changed_all, changed_other, inserted_all, kept_all}
use Rattle.ng_link.proofs.PathsBelow.{same_path}
use Rattle.ng_instances.specs.Changing.{Place, in_outlet}
use Rattle.ng_link.specs.Calls.{linked_on, placed_on, with_core}
use Rattle.ng_link.specs.Events.{scope_in}
use Rattle.ng_instances.specs.Instances.{Body, Instances, Linked, bodies_arranged, body_added, body_gone, is_path, linked_at, outlets_changed, unlinked, with_instance}
use Rattle.ng_build.specs.Linking.{fault_in, steps, steps_within}
use Rattle.ng_link.specs.Standing.{IsBelow, body_count}
use Rattle.ng_link.specs.State.{State, live_nodes}
use Rattle.ng_members.specs.Leaves.{Local}
use Rattle.ng_commands.proofs.EventsStay.{part, Stays, stays_trans}
use Rattle.ng_page.proofs.Filled.{both_none, fault_sites}
use Rattle.ng_page.proofs.LinksStay.{all_rested_sites, discarded_sites, given_up_sites, scope_made, steps_sites, with_scope_made}
use Rattle.ng_page.proofs.RepeatsStay.{items_stay, told_stay}
use Rattle.ng_commands.proofs.ScopesStay.{ScopesStay, child_there}
use Rattle.ng_commands.proofs.Sites.{SitesStay, core_sites, sites_refl, sites_trans}
use Rattle.ng_commands.proofs.StepsStay.{destroyed_stays, followed_sites}
use Rattle.ng_page.proofs.Under.{child_path_there, path_apart}
use Rattle.ng_commands.proofs.Watched.{all_map, all_more}
use Rattle.ng_drawing.specs.Named.{fragments_in}
use Rattle.ng_behaviour.specs.Keys.{begins}
use Rattle.ng_laws.specs.KeptRows.{AreRowsOf, IsOnScope, IsRowIn, KeptRowsStay, StandsOnScopes, is_called, keys_for}

-- where what is linked stays, and no scope goes, each instance still stands on one
on_scope : (t u : List Scope) → ScopesStay t u → (e : List ℕ × Linked) → IsOnScope t e → IsOnScope u e
on_scope t u stay e h = let more = stay.more in let lt = h.0 in (omega (arith, lt, more), stay.paths e.1.page.scope h.0 ∙ h.1)

grounded : (s t : State) → SitesStay s t → StandsOnScopes s → StandsOnScopes t
grounded s t stay on = record {
  tree = stay.core.tree on.tree;
  scopes = subst (λ (x : Instances). AllByRecursion (IsOnScope t.core.scopes) x) (sym stay.instances)
      (all_map (IsOnScope s.core.scopes) (IsOnScope t.core.scopes) s.instances (on_scope s.core.scopes t.core.scopes stay.core.scopes) on.scopes);
}

-- ---- rows go

ended_row : (p : List ℕ) (g : Firing) → SitesStay g.state (ended p g).state
ended_row p g = let n : ℕ = scope_in (linked_at p g.state.instances) in followed_sites (destroy_run n g.state.core) g.state (destroyed_stays n g.state.core)

all_ended_sites : (bs : List Body) (g : Firing) → SitesStay g.state (all_ended bs g).state
all_ended_sites [] g = sites_refl g.state
all_ended_sites (b ∷ bs) g = sites_trans g.state (ended b.path g).state (all_ended bs (ended b.path g)).state (ended_row b.path g) (all_ended_sites bs (ended b.path g))

taken_core : (holder : List ℕ) (bs : List Body) (s : State) → (rows_taken holder bs s).core ≡ s.core
taken_core holder [] s = refl
taken_core holder (b ∷ bs) s = taken_core holder bs s

unlinked_scopes : (t : List Scope) (holder p : List ℕ) (is : Instances) → AllByRecursion (IsOnScope t) is → AllByRecursion (IsOnScope t) (unlinked holder p is)
unlinked_scopes t holder p is h =
    kept_all (λ (q : List ℕ). not (begins p q)) (IsOnScope t) (outlets_changed holder (body_gone p) is) (changed_all holder (body_gone p) (IsOnScope t) is (λ l at one. one) h)

taken_scopes : (t : List Scope) (holder : List ℕ) (bs : List Body) (s : State) → AllByRecursion (IsOnScope t) s.instances → AllByRecursion (IsOnScope t) (rows_taken holder bs s).instances
taken_scopes t holder [] s h = h
taken_scopes t holder (b ∷ bs) s h = unlinked_scopes t holder b.path (rows_taken holder bs s).instances (taken_scopes t holder bs s h)

rest_taken : (holder : List ℕ) (bs : List Body) (s : State) → RestStays holder bs s.instances (rows_taken holder bs s).instances
rest_taken holder [] s = rest_none holder s.instances
rest_taken holder (b ∷ bs) s =
    let t : State = rows_taken holder bs s in rest_more holder (b ∷ []) bs s.instances t.instances (rows_taken holder (b ∷ bs) s).instances (rest_taken holder bs s) (row_rest holder b t.instances)

arranged_scopes : (t : List Scope) (holder : List ℕ) (o : ℕ) (bs : List Body) (is : Instances) → AllByRecursion (IsOnScope t) is → AllByRecursion (IsOnScope t) (outlets_changed holder (bodies_arranged o bs) is)
arranged_scopes t holder o bs is h = changed_all holder (bodies_arranged o bs) (IsOnScope t) is (λ l at one. one) h

-- ---- a row comes

-- what is linked on other paths than that of an instance stays, and new rows may come there
record Comes (holder : List ℕ) (is : Instances) (scope : ℕ) (outsides : List ℕ) (s : State) : Type 0 where
  there : scope < length s.core.scopes
  outs : AllByRecursion (λ (n : ℕ). n < length s.core.scopes) outsides
  on : StandsOnScopes s
  others : OthersStay holder is s.instances

module _ (holder : List ℕ) (is : Instances) (scope : ℕ) (outsides : List ℕ) where
  abbrev Ready : State → Type 0
  Ready s = Comes holder is scope outsides s

  -- a step that links nothing
  comes_on : (s t : State) → SitesStay s t → Ready s → Ready t
  comes_on s t stay h =
      let lt = h.there in
      let more = stay.core.scopes.more in
      record {
        there = omega (arith, lt, more);
        outs = all_more (length s.core.scopes) (length t.core.scopes) outsides more h.outs;
        on = grounded s t stay h.on;
        others = subst (OthersStay holder is) (sym stay.instances) h.others;
      }

  -- ---- on the child scope

  module _ (o i : ℕ) (role : Role) (which : Origin) (g : Firing) (h : Ready g.state) (object : ℕ) (d : act.State) (grown : d.scopes ≡ with_child g.state.core.scopes scope object) (stay : Stays (part g.state.core) (part d)) where
    abbrev place : Place
    place = in_outlet holder o i role

    abbrev child : ℕ
    child = length g.state.core.scopes

    abbrev fragment : Fragment
    fragment = fragments_in g.state.templates which

    abbrev start : State
    start = with_core d g.state

    begun : SitesStay g.state start
    begun = core_sites g.state d stay

    child_in : child < length start.core.scopes
    child_in =
        let one = child_there g.state.core.scopes scope object in
        let same : length d.scopes ≡ length (with_child g.state.core.scopes scope object) = ap (λ (t : List Scope). length t) grown in
        omega (arith, one, same)

    abbrev room : ℕ
    room = node_limit - live_nodes start

    abbrev done : Linking
    done = steps_linked fragment (steps_within room (steps fragment.parts)) (begins_linking child outsides start)

    done_start : SitesStay start done.state
    done_start = steps_sites fragment child outsides (steps_within room (steps fragment.parts)) start child_in (all_more (length g.state.core.scopes) (length start.core.scopes) outsides stay.scopes.more h.outs)

    done_sites : SitesStay g.state done.state
    done_sites = sites_trans g.state start done.state begun done_start

    ready : Ready done.state
    ready = comes_on g.state done.state done_sites h

    abbrev path : List ℕ
    path = path_at done.state.core.scopes child

    path_there : path ≡ child_path g.state.core.scopes scope
    path_there = child_path_there scope g.state.core.scopes done.state.core.scopes object (subst (λ (x : List Scope). ScopesStay x done.state.core.scopes) grown done_start.core.scopes)

    -- nothing is linked on its path
    free : linked_at path done.state.instances ≡ None
    free = by (linked_at path g.state.instances) refl
      where
        was : linked_at path done.state.instances ≡ linked_at path g.state.instances
        was = ap (linked_at path) done_sites.instances

        by : (l : Option Linked) → linked_at path g.state.instances ≡ l → linked_at path done.state.instances ≡ None
        by None e = was ∙ e
        by (Some l) e =
            let one = all_at (λ (q : List ℕ) (m : Linked). IsOnScope g.state.core.scopes (q, m)) g.state.instances path l h.on.scopes e in
            absurd (path_apart g.state.core.scopes scope l.page.scope h.on.tree h.there one.0 (one.1 ∙ path_there))

    abbrev new : Linked
    new = linked_on done.state.core.scopes which child fragment done.made done.state.next_node

    abbrev taken : Instances
    taken = outlets_changed holder (body_added o i (record { path = path; role = role })) (with_instance path new done.state.instances)

    new_on : IsOnScope done.state.core.scopes (path, new)
    new_on =
        let one = child_in in
        let more = done_start.core.scopes.more in
        let lt : child < length done.state.core.scopes = omega (arith, one, more) in
        (lt, refl)

    placed_on_scopes : AllByRecursion (IsOnScope done.state.core.scopes) taken
    placed_on_scopes =
        changed_all holder (body_added o i (record { path = path; role = role })) (IsOnScope done.state.core.scopes) (with_instance path new done.state.instances) (λ l at one. one)
        (inserted_all path new (IsOnScope done.state.core.scopes) done.state.instances new_on ready.on.scopes)

    placed_comes : Ready (placed place which child fragment done).state
    placed_comes =
        let p : State = placed_on place which child fragment done.made done.state in
        comes_on p (rested_on_all done.made.at_hand.scopes p) (all_rested_sites done.made.at_hand.scopes p) (record {
          there = ready.there;
          outs = ready.outs;
          on = record { tree = ready.on.tree; scopes = placed_on_scopes };
          others = others_then holder is done.state.instances taken ready.others (others_come holder o i role path new done.state.instances free);
        })

    -- what was made in vain
    vain_comes : (e : Fault) (l : Linking) → SitesStay g.state l.state → Ready (linked_then child (Some e) l g).state
    vain_comes e l sites =
        comes_on g.state _
        (sites_trans g.state l.state _ sites
        (sites_trans l.state (discarded child l.state) _ (discarded_sites child l.state) (fault_sites e (record g { state = discarded child l.state })))) h

    linked_comes : Ready (body_linked place which fragment child outsides start g).state
    linked_comes = by (first_of done.fault (fault_in room (steps fragment.parts))) refl
      where
        by : (e : Option Fault) → first_of done.fault (fault_in room (steps fragment.parts)) ≡ e → Ready (linked_by child (ended_link place which child fragment e done) g).state
        by None none =
            let two = both_none done.fault (fault_in room (steps fragment.parts)) none in
            subst (λ (e : Option Fault). Ready (linked_then child e (placed place which child fragment done) g).state) (sym two.0) placed_comes
        by (Some e) some = vain_comes e (given_up e done) (sites_trans g.state done.state (given_up e done).state done_sites (given_up_sites e done))

    body_comes : Ready (body_on place which fragment child outsides start g).state
    body_comes = by (is_too_deep which)
      where
        by : (b : Bool) → Ready (cond b (linked_then child (Some Depth) (begins_linking child outsides start) g) (body_linked place which fragment child outsides start g)).state
        by true = vain_comes Depth (begins_linking child outsides start) begun
        by false = linked_comes

  filled_comes : (o i : ℕ) (role : Role) (names : List Local) (which : Origin) (g : Firing) → Ready g.state → Ready (filled (in_outlet holder o i role) scope outsides names which g).state
  filled_comes o i role names which g h = by (nat_lt (length g.state.core.objects) object_limit)
    where
      made : Run ℕ
      made = (with_scope_made scope (Some (object_at g.state.core.scopes scope)) g.state.core, Ok (length g.state.core.scopes))

      full : Run ℕ
      full = (g.state.core, Err StoreFull)

      told : act.State
      told = told_on (length g.state.core.scopes) names made.0

      told_stays : Stays (part g.state.core) (part told)
      told_stays =
          stays_trans (part g.state.core) (part made.0) (part told) (scope_made scope (Some (object_at g.state.core.scopes scope)) g.state.core h.there) (told_stay (length g.state.core.scopes) names made.0)

      by : (b : Bool) → (let r : Run ℕ = cond b made full in Ready (body_made (in_outlet holder o i role) outsides names which (fragments_in g.state.templates which) r.0 r.1 g).state)
      by true = body_comes o i role which g h (length g.state.core.objects) told refl told_stays
      by false = comes_on g.state (faulted_with StoreFull g).state (fault_sites StoreFull g) h

  row_comes : (o : ℕ) (which : Origin) (r : Row) (names : List Local) (from : Option (List ℕ)) (f : Filled) → Ready f.firing.state → Ready (row_fired holder scope outsides o which r names from f).firing.state
  row_comes o which r names (Some p) f h =
      let c : act.State = told_on (scope_in (linked_at p f.firing.state.instances)) names f.firing.state.core in
      comes_on f.firing.state (with_core c f.firing.state) (core_sites f.firing.state c (told_stay (scope_in (linked_at p f.firing.state.instances)) names f.firing.state.core)) h
  row_comes o which r names None f h = by f.firing.faulted
    where
      full : Firing
      full = filled (in_outlet holder o f.count (role_for r)) scope outsides names which f.firing

      by : (b : Bool) → (let a : Filled = cond b f (record { firing = full; count = cond full.faulted f.count (suc f.count) }) in Ready a.firing.state)
      by true = h
      by false = filled_comes o f.count (role_for r) names which f.firing h

  rows_come : (o : ℕ) (which : Origin) (w : Repeated) (count i : ℕ) (rs : List Row) (f : Filled) → Ready f.firing.state → Ready (rows_fired holder scope outsides o which w count i rs f).firing.state
  rows_come o which w count i [] f h = h
  rows_come o which w count i (r ∷ rs) f h =
      rows_come o which w count (suc i) rs (row_fired holder scope outsides o which r (row_names w count i r.item) r.from f) (row_comes o which r (row_names w count i r.item) r.from f h)

-- ---- the rows that go

module _ (holder between : List ℕ) where
  all_get : (bs : List Body) (i : ℕ) (b : Body) → AllByRecursion (IsRowIn holder between) bs → slice_get bs i ≡ Some b → IsRowIn holder between b
  all_get [] i b h at = absurd (cc)
  all_get (x ∷ bs) zero b h at = let same : x ≡ b = cc in subst (IsRowIn holder between) same h.0
  all_get (x ∷ bs) (suc i) b h at = all_get bs i b h.1 at

  all_at_places : (bs : List Body) (is : List ℕ) → AllByRecursion (IsRowIn holder between) bs → AllByRecursion (IsRowIn holder between) (bodies_at bs is)
  all_at_places bs [] h = tt
  all_at_places bs (i ∷ is) h = by (slice_get bs i) refl (all_at_places bs is h)
    where
      by : (x : Option Body) → slice_get bs i ≡ x → AllByRecursion (IsRowIn holder between) (bodies_at bs is) → AllByRecursion (IsRowIn holder between) (body_at x ++ bodies_at bs is)
      by None at more = more
      by (Some b) at more = (all_get bs i b h at, more)

  -- of two rows the path of one begins with that of the other where it is that
  same_last : (p r : List ℕ) (m n : ℕ) → begins (p ++ (r ++ m ∷ [])) (p ++ (r ++ n ∷ [])) ≡ true → m ≡ n
  same_last [] [] m n e = eqb-true m n (and_parts (m == n) true e).0
  same_last [] (x ∷ r) m n e = same_last [] r m n (and_parts (x == x) (begins (r ++ m ∷ []) (r ++ n ∷ [])) e).1
  same_last (x ∷ p) r m n e = same_last p r m n (and_parts (x == x) (begins (p ++ (r ++ m ∷ [])) (p ++ (r ++ n ∷ []))) e).1

  row_begins : (b c : Body) → IsRowIn holder between b → IsRowIn holder between c → begins b.path c.path ≡ true → c.path ≡ b.path
  row_begins b c h k e =
      let same : h.0 ≡ k.0 = same_last holder between h.0 k.0 (ap (λ (q : List ℕ). begins q (holder ++ (between ++ k.0 ∷ []))) (sym h.1) ∙ (ap (begins b.path) (sym k.1) ∙ e)) in
      k.1 ∙ (ap (λ (n : ℕ). holder ++ (between ++ n ∷ [])) (sym same) ∙ sym h.1)

  -- where none of some rows is on the path of a row, none has a path with which it begins
  none_round : (b : Body) → IsRowIn holder between b → (bs : List Body) → AllByRecursion (IsRowIn holder between) bs → body_count b.path bs ≡ 0 → AllByRecursion (λ (x : Body). begins x.path b.path ≡ false) bs
  none_round b here [] h none = tt
  none_round b here (x ∷ bs) h none = (by (begins x.path b.path) refl, none_round b here bs h.1 (omega (arith, none)))
    where
      by : (t : Bool) → begins x.path b.path ≡ t → t ≡ false
      by false e = refl
      by true e =
          let same : b.path ≡ x.path = row_begins x b h.0 here e in
          let one : cond {A = ℕ} (is_path b.path x.path) 1 0 ≡ 1 = ap (λ (q : List ℕ). cond {A = ℕ} (is_path b.path q) 1 0) (sym same) ∙ ap (λ (t : Bool). cond {A = ℕ} t 1 0) (same_path b.path) in
          absurd (omega (arith, one, none))

module _ (q : List ℕ) (ks : List TrackKey) where
  -- whether a row goes
  abbrev goes : Body → Bool
  goes b = not (is_among ks (key_of b.role))

  abbrev one : Body → ℕ
  one b = if is_path q b.path then 1 else 0

  gone_sum : (w : ℕ → ℕ) (j : ℕ) (bs : List Body) → ((n : ℕ) → w (j + n) ≡ at_row q bs n) → sum_at w (places_from (λ (k : TrackKey). not (is_among ks k)) j (keys_of bs)) ≡ body_count q (filter goes bs)
  gone_sum w j [] same = refl
  gone_sum w j (b ∷ bs) same = by (goes b) (gone_sum w (j + 1) bs (λ n. ap w (next n) ∙ same (suc n)))
    where
      next : (n : ℕ) → j + 1 + n ≡ j + suc n
      next n = omega arith

      rest : List ℕ
      rest = places_from (λ (k : TrackKey). not (is_among ks k)) (j + 1) (keys_of bs)

      by : (t : Bool) → sum_at w rest ≡ body_count q (filter goes bs) → sum_at w (cond t (j ∷ rest) rest) ≡ body_count q (cond t (b ∷ filter goes bs) (filter goes bs))
      by true more =
          let first : w (j + 0) ≡ stands q (Some b) = same 0 in
          let here : j ≡ j + 0 = omega arith in
          let this = ap w here in
          omega (arith, more, first, this)
      by false more = more

  fewer : (bs : List Body) → body_count q (filter goes bs) ≤ body_count q bs
  fewer [] = omega arith
  fewer (b ∷ bs) = by (goes b) (fewer bs)
    where
      by : (t : Bool) → body_count q (filter goes bs) ≤ body_count q bs → body_count q (cond t (b ∷ filter goes bs) (filter goes bs)) ≤ one b + body_count q bs
      by true more = omega (arith, more)
      by false more = omega (arith, more)

  counted : (bs : List Body) (i : ℕ) (b : Body) → slice_get bs i ≡ Some b → is_path q b.path ≡ true → 1 ≤ body_count q bs
  counted [] i b at is = absurd (cc)
  counted (x ∷ bs) zero b at is =
      let same : x ≡ b = cc in
      let first : one x ≡ 1 = ap one same ∙ ap (λ (t : Bool). (let n : ℕ = if t then 1 else 0 in n)) is in
      omega (arith, first)
  counted (x ∷ bs) (suc i) b at is = let more = counted bs i b at is in omega (arith, more)

  -- of rows on paths of their own, one whose key is called for stays
  none_goes : (bs : List Body) (i : ℕ) (b : Body) → slice_get bs i ≡ Some b → is_path q b.path ≡ true → is_among ks (key_of b.role) ≡ true → body_count q bs ≤ 1 → body_count q (filter goes bs) ≡ 0
  none_goes [] i b at is called few = absurd (cc)
  none_goes (x ∷ bs) zero b at is called few =
      let same : x ≡ b = cc in
      let stays : goes x ≡ false = ap goes same ∙ ap not called in
      let first : one x ≡ 1 = ap one same ∙ ap (λ (t : Bool). (let n : ℕ = if t then 1 else 0 in n)) is in
      let less = fewer bs in
      let all : body_count q (filter goes (x ∷ bs)) ≡ body_count q (filter goes bs) = ap (λ (t : Bool). body_count q (cond t (x ∷ filter goes bs) (filter goes bs))) stays in
      omega (arith, first, less, all, few)
  none_goes (x ∷ bs) (suc i) b at is called few =
      let more = counted bs i b at is in
      by (goes x) (none_goes bs i b at is called (omega (arith, few))) more
    where
      by : (t : Bool) → body_count q (filter goes bs) ≡ 0 → 1 ≤ body_count q bs → body_count q (cond t (x ∷ filter goes bs) (filter goes bs)) ≡ 0
      by true none more = omega (arith, none, more, few)
      by false none more = none

  stays_there : (bs : List Body) (i : ℕ) (b : Body) → slice_get bs i ≡ Some b → is_path q b.path ≡ true → is_among ks (key_of b.role) ≡ true → body_count q bs ≤ 1
      → body_count q (bodies_at bs (gone_places (keys_of bs) ks)) ≡ 0
  stays_there bs i b at is called few =
      gone_count q bs (gone_places (keys_of bs) ks) ∙ (gone_sum (at_row q bs) 0 bs (λ n. ap (at_row q bs) (from_none n)) ∙ none_goes bs i b at is called few)
    where
      from_none : (n : ℕ) → 0 + n ≡ n
      from_none n = omega arith

-- ---- the fire

module _ (holder between : List ℕ) (scope : ℕ) (outsides : List ℕ) (o : ℕ) (which : Origin) (w : Repeated) (b : Body) (l : Linked) where
  abbrev AreOutside : State → Type 0
  AreOutside s = (scope < length s.core.scopes) × AllByRecursion (λ (n : ℕ). n < length s.core.scopes) outsides

  outside_on : (s t : State) → SitesStay s t → AreOutside s → AreOutside t
  outside_on s t stay h =
      let more = stay.core.scopes.more in
      let lt = h.0 in
      (omega (arith, lt, more), all_more (length s.core.scopes) (length t.core.scopes) outsides more h.1)

  rows_stay : (gone : List Body) (rs : List Row) (g : Firing) → AreOutside g.state → StandsOnScopes g.state → AllByRecursion (IsRowIn holder between) gone → body_count b.path gone ≡ 0 → IsRowIn holder between b
      → linked_at b.path g.state.instances ≡ Some l → linked_at b.path (rows_changed holder scope outsides o which w gone rs g).state.instances ≡ Some l
  rows_stay gone rs g lt on inside none here at =
      let e : Firing = all_ended gone g in
      let t : State = rows_taken holder gone e.state in
      let u : Firing = rows_arranged holder o (kept_rows rs) (with_state t e) in
      let stay : SitesStay g.state e.state = all_ended_sites gone g in
      let core = taken_core holder gone e.state in
      let ended_on : StandsOnScopes e.state = grounded g.state e.state stay on in
      let out : AreOutside e.state = outside_on g.state e.state stay lt in
      let taken_on : StandsOnScopes t = record {
        tree = subst (λ (c : act.State). IsScopeTree c.scopes) (sym core) ended_on.tree;
        scopes = subst (λ (c : act.State). AllByRecursion (IsOnScope c.scopes) t.instances) (sym core) (taken_scopes e.state.core.scopes holder gone e.state ended_on.scopes);
      } in
      let ready : Comes holder u.state.instances scope outsides u.state = record {
        there = subst (λ (c : act.State). scope < length c.scopes) (sym core) out.0;
        outs = subst (λ (c : act.State). AllByRecursion (λ (n : ℕ). n < length c.scopes) outsides) (sym core) out.1;
        on = record { tree = taken_on.tree; scopes = arranged_scopes t.core.scopes holder o (kept_rows rs) t.instances taken_on.scopes };
        others = others_same holder u.state.instances u.state.instances refl;
      } in
      let below : IsBelow holder b.path = (between, (here.0, here.1)) in
      let off : is_path b.path holder ≡ false = inside_other holder b.path below in
      let still : linked_at b.path u.state.instances ≡ Some l =
      changed_other holder (bodies_arranged o (kept_rows rs)) t.instances b.path off
      ∙ (rest_taken holder gone e.state b.path below (none_round holder between b here gone inside none) ∙ (ap (linked_at b.path) stay.instances ∙ at)) in
      (rows_come holder u.state.instances scope outsides o which w (length rs) 0 rs (filled_to 0 u) ready).others b.path l off still

  keys_stay : (bs : List Body) (xs : List Item) (k : Result (List TrackKey) Fault) (g : Firing) (i : ℕ) → AreOutside g.state → StandsOnScopes g.state → AreRowsOf holder between bs → slice_get bs i ≡ Some b
      → is_called k (key_of b.role) ≡ true → linked_at b.path g.state.instances ≡ Some l → linked_at b.path (by_keys holder scope outsides o which w bs xs k g).state.instances ≡ Some l
  keys_stay bs xs (Err e) g i lt on rows at called here = here
  keys_stay bs xs (Ok ks) g i lt on rows at called here = by_double (has_double ks)
    where
      plain : Plan
      plain = record { gone = gone_places (keys_of bs) ks; from = map (row_of (keys_of bs)) ks }

      by_double : (d : Bool) → linked_at b.path (by_plan holder scope outsides o which w bs xs ks (as_fault (cond {A = Result Plan PlanFault} d (Err Dupes) (Ok plain))) g).state.instances ≡ Some l
      by_double true = here
      by_double false =
          rows_stay (bodies_at bs plain.gone) (rows_from bs xs ks plain.from) g lt on (all_at_places holder between bs plain.gone rows.inside)
          (stays_there b.path ks bs i b at (same_path b.path) called (rows.once b.path)) (all_get holder between bs i b rows.inside at) here

  items_stand : (r : Result (List Item) Fault) (g : Firing) (i : ℕ) → AreOutside g.state → StandsOnScopes g.state → AreRowsOf holder between (rows_at holder o g.state.instances)
      → slice_get (rows_at holder o g.state.instances) i ≡ Some b → is_called (keys_for w scope r g.state.core) (key_of b.role) ≡ true → linked_at b.path g.state.instances ≡ Some l
      → linked_at b.path (by_items holder scope outsides o which w r g).state.instances ≡ Some l
  items_stand (Err e) g i lt on rows at called here = here
  items_stand (Ok xs) g i lt on rows at called here =
      keys_stay (rows_at holder o g.state.instances) xs (track_keys g.state.core.objects (object_at g.state.core.scopes scope) w 0 [] xs) g i lt on rows at called here

pub kept_rows_stay : KeptRowsStay
kept_rows_stay holder between scope outsides v o which w g i b l on lt outs rows at called here =
    let r : Run (List Item) = items_made (entries_in v) [] g.state.core in
    let h : Firing = with_state (with_core r.0 g.state) g in
    let stay : SitesStay g.state h.state = core_sites g.state r.0 (items_stay (entries_in v) [] g.state.core) in
    items_stand holder between scope outsides o which w b l r.1 h i (outside_on holder between scope outsides o which w b l g.state h.state stay (lt, outs)) (grounded g.state h.state stay on) rows at called here
