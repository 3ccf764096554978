-- What holds of a linking as far as its steps have come.
use Rattle.std.proofs.Common.{◌≡◌, ◌≤◌, ◌<◌, ◌+◌, ◌∙◌, ℕ, Bool, true, false, cond, List, [], ◌∷◌, ◌++◌, Option, Some, None, Result, Ok, Err, refl, ap, sym, subst, drop, length, append_assoc, arith}
use Rattle.std.specs.BTreeMap.{insert_entry}
use Rattle.std.specs.List.{AllByRecursion}
use Rattle.std.specs.List.Sorted.{IsStrictlySortedBy}
use Rattle.std.specs.Ordering.{nat_cmp}
use Rattle.std.specs.Prelude.{nat_lt, slice_get}
use Rattle.std.specs.declared.cmp.Ordering.TheVariants.{Less}
use Rattle.std.proofs.lemmas.Bool.Decides.{nat_tests}
use Rattle.ng_base.specs.Objects.{Object}
use Rattle.ng_base.specs.Views.{ViewTree}
use Rattle.ng_base.specs.declared.fault.Fault.{Fault}
use Rattle.ng_base.specs.declared.fault.Fault.TheVariants.{StoreFull}
use Rattle.ng_behaviour.proofs.ScopeTree.{grown-new, grown-length}
use Rattle.ng_behaviour.specs.ScopeObjects.{with_scope_object}
use Rattle.ng_behaviour.specs.Scopes.{Scope, children_at, object_at, path_at, with_child}
use Rattle.ng_core.specs.State as act
use Rattle.ng_core.specs.State.{Run, with_objects, with_scopes}
use Rattle.ng_drawing.specs.Template.{Fragment, Piece, Site, Source, of_text, of_nothing, one_way, two_way, of_call}
use Rattle.ng_changes.proofs.Entries.{all_inserted}
use Rattle.ng_steps.proofs.Numbered.{Lasts, changed_lasts, core_lasts, followed_lasts, lasts-trans}
use Rattle.ng_steps.proofs.Placed.{ground_below, ground_holds}
use Rattle.ng_changes.proofs.Rising.{mark, rises-refl}
use Rattle.ng_changes.proofs.Runs.{program_rises}
use Rattle.ng_changes.proofs.ScopePaths.{AreMore, child_more, more_count, more_path, more_same, more_then}
use Rattle.ng_steps.proofs.SetRuns.{installs_rises, registered_rises, set_text_rises, set_value_rises}
use Rattle.ng_changes.proofs.Wholes.{SameLinked, bounds_more, linked-trans}
use Rattle.ng_steps.specs.Attending.{attended_by, first_attended, functions_in, installs_all}
use Rattle.ng_changes.specs.Changes.{changed}
use Rattle.ng_steps.specs.LinkBindings.{bound_pieces, set_to_text, set_to_value}
use Rattle.ng_changes.specs.ScopeRuns.{object_limit, scope_run}
use Rattle.ng_steps.specs.Links.{Linking, begins_linking, bounds_noted, handed_to, keep_last, opened_by, opening_run, outlet_scope, registered, registered_many, scope_of, source_bound, step_linked, steps_linked, text_bound, texts_kept, unless_faulted, value_bound, value_bound_by, value_kept}
use Rattle.ng_steps.specs.LinkingOf.{AreBelow}
use Rattle.ng_changes.specs.Runs.{followed, program_run}
use Rattle.ng_instances.specs.Bindings.{Bound, Bounds, BoundStands, bound_both, bound_in, bound_text}
use Rattle.ng_link.specs.Calls.{with_core}
use Rattle.ng_build.specs.Linking.{LinkStep, Opening, a_child, an_isolate, a_slot, makes, stops, opens, binds, installs, starts, starts_at, registers, leaves, piece_steps}
use Rattle.ng_instances.specs.Registering.{Registered, outside_in_ground, scope_in_ground}
use Rattle.ng_link.specs.Standing.{IsBelow}
use Rattle.ng_link.specs.State.{State}
use Rattle.ng_parts.specs.Directing.{Programs}

-- A linking on a scope that began at one state has come to another, and to this.
pub record IsUnderway (s : State) (scope : ℕ) (os : List ℕ) (t : State) (m : Registered) : Type 0 where
  pub linked : SameLinked s t
  pub wider : AreMore s.core.scopes t.core.scopes
  pub root : 0 < length t.core.scopes
  pub rising : IsStrictlySortedBy nat_cmp m.serials
  pub below : AllByRecursion (λ n. n < t.core.serial) m.serials
  pub own : m.at_hand.scopes ≡ scope ∷ drop 1 m.at_hand.scopes
  pub scopes : AreBelow (length t.core.scopes) m.at_hand.scopes
  pub outs : m.at_hand.outsides ≡ os
  pub outsides : AreBelow (length t.core.scopes) m.at_hand.outsides
  pub within : AllByRecursion (λ n. IsBelow (path_at t.core.scopes scope) (path_at t.core.scopes n)) (drop 1 m.at_hand.scopes)
  pub bounds : AllByRecursion (λ (e : ℕ × Bound). BoundStands (length t.core.scopes) e.1) m.bounds

-- ---- lists of numbers

all_more : (m n : ℕ) (ns : List ℕ) → m ≤ n → AllByRecursion (λ k. k < m) ns → AllByRecursion (λ k. k < n) ns
all_more m n [] le h = tt
all_more m n (k ∷ ks) le h = (omega (arith, le, h.0), all_more m n ks le h.1)

all_push : (P : ℕ → Type 0) (ns : List ℕ) (n : ℕ) → AllByRecursion P ns → P n → AllByRecursion P (ns ++ n ∷ [])
all_push P [] n h one = (one, tt)
all_push P (k ∷ ks) n h one = (h.0, all_push P ks n h.1 one)

is_less : (m n : ℕ) → m < n → nat_cmp m n ≡ Less
is_less m n lt = grind (arith, nat_tests)

pub rising_push : (ns : List ℕ) (n : ℕ) → IsStrictlySortedBy nat_cmp ns → AllByRecursion (λ k. k < n) ns → IsStrictlySortedBy nat_cmp (ns ++ n ∷ [])
unfolding IsStrictlySortedBy
rising_push [] n o h = (tt, tt)
rising_push (k ∷ ks) n o h = (all_push (λ y. nat_cmp k y ≡ Less) ks n o.0 (is_less k n h.0), rising_push ks n o.1 h.1)

none_rising : IsStrictlySortedBy nat_cmp []
unfolding IsStrictlySortedBy
none_rising = tt

rest_below : (n : ℕ) (ns : List ℕ) → AreBelow n ns → AreBelow n (drop 1 ns)
rest_below n [] h = tt
rest_below n (k ∷ ns) h = h.1

-- ---- what directives do

pub attended_lasts : (to : ℕ) (o : Option Programs) (t : State) → Lasts t (attended_by to o t).0
attended_lasts to None t = ((refl, refl), rises-refl (mark t.core))
attended_lasts to (Some p) t =
    let u : State = first_attended to p t in
    let v : State = changed u in
    lasts-trans t u (followed (program_run to p.link v.core) v) (core_lasts u.core t (registered_rises to p.watches p.listeners t.core))
    (lasts-trans u v (followed (program_run to p.link v.core) v) (changed_lasts u) (followed_lasts (program_run to p.link v.core) v (program_rises to p.link v.core)))

module _ (s : State) (scope : ℕ) (os : List ℕ) where
  abbrev Under : State → Registered → Type 0
  Under t m = IsUnderway s scope os t m

  -- its own scope is there
  own_below : (t : State) (m : Registered) → Under t m → scope < length t.core.scopes
  own_below t m h = (subst (AreBelow (length t.core.scopes)) h.own h.scopes).0

  paths_more : (t u : State) (ns : List ℕ) → AreMore t.core.scopes u.core.scopes → scope < length t.core.scopes → AreBelow (length t.core.scopes) ns → AllByRecursion (λ n. IsBelow (path_at t.core.scopes scope) (path_at t.core.scopes n)) ns → AllByRecursion (λ n. IsBelow (path_at u.core.scopes scope) (path_at u.core.scopes n)) ns
  paths_more t u [] more lt b h = tt
  paths_more t u (n ∷ ns) more lt b h = (
    subst (λ (p : List ℕ). IsBelow p (path_at u.core.scopes n)) (sym (more_path t.core.scopes u.core.scopes scope more lt))
        (subst (λ (q : List ℕ). IsBelow (path_at t.core.scopes scope) q) (sym (more_path t.core.scopes u.core.scopes n more b.0)) h.0),
    paths_more t u ns more lt b.1 h.1,
  )

  -- the works come to another state
  pub state_underway : (t u : State) (m : Registered) → SameLinked t u → t.core.serial ≤ u.core.serial → AreMore t.core.scopes u.core.scopes → Under t m → Under u m
  state_underway t u m same serial more h =
      let le = more_count t.core.scopes u.core.scopes more in
      let root = h.root in
      record {
        linked = linked-trans s t u h.linked same;
        wider = more_then s.core.scopes t.core.scopes u.core.scopes h.wider more;
        root = omega (arith, root, le);
        rising = h.rising;
        below = all_more t.core.serial u.core.serial m.serials serial h.below;
        own = h.own;
        scopes = all_more (length t.core.scopes) (length u.core.scopes) m.at_hand.scopes le h.scopes;
        outs = h.outs;
        outsides = all_more (length t.core.scopes) (length u.core.scopes) m.at_hand.outsides le h.outsides;
        within = paths_more t u (drop 1 m.at_hand.scopes) more (own_below t m h) (rest_below (length t.core.scopes) m.at_hand.scopes h.scopes) h.within;
        bounds = bounds_more (length t.core.scopes) (length u.core.scopes) le m.bounds h.bounds;
      }

  pub lasting : (t u : State) (m : Registered) → Lasts t u → Under t m → Under u m
  lasting t u m l h = state_underway t u m l.0 l.1.0 (more_same t.core.scopes u.core.scopes l.1.1) h

  pub core_underway : (c : act.State) (t : State) (m : Registered) → Lasts t (with_core c t) → Under t m → Under (with_core c t) m
  core_underway c t m l h = lasting t (with_core c t) m l h

  -- what is kept has no part in it
  kept_underway : (t : State) (m : Registered) (ks : List (Option ViewTree)) → Under t m → Under t (record m { kept = ks })
  kept_underway t m ks h = record {
    linked = h.linked;
    wider = h.wider;
    root = h.root;
    rising = h.rising;
    below = h.below;
    own = h.own;
    scopes = h.scopes;
    outs = h.outs;
    outsides = h.outsides;
    within = h.within;
    bounds = h.bounds;
  }

  noted_stand : (count : ℕ) (ns : List ℕ) (b : Bound) (t : Bounds) → BoundStands count b → AllByRecursion (λ (e : ℕ × Bound). BoundStands count e.1) t → AllByRecursion (λ (e : ℕ × Bound). BoundStands count e.1) (bounds_noted ns b t)
  noted_stand count [] b t one h = h
  noted_stand count (n ∷ ns) b t one h = noted_stand count ns b (insert_entry nat_cmp t n b) one (all_inserted (λ (e : ℕ × Bound). BoundStands count e.1) nat_cmp t n b h (λ q. one))

  bounds_underway : (t : State) (m : Registered) (ns : List ℕ) (b : Bound) → BoundStands (length t.core.scopes) b → Under t m → Under t (record m { bounds = bounds_noted ns b m.bounds })
  bounds_underway t m ns b one h = record {
    linked = h.linked;
    wider = h.wider;
    root = h.root;
    rising = h.rising;
    below = h.below;
    own = h.own;
    scopes = h.scopes;
    outs = h.outs;
    outsides = h.outsides;
    within = h.within;
    bounds = noted_stand (length t.core.scopes) ns b m.bounds one h.bounds;
  }

  registered_underway : (g : Linking) → Under g.state g.made → Under (registered g).state (registered g).made
  registered_underway g h =
      let t : State = g.state in
      let n : ℕ = t.core.serial in
      record {
        linked = h.linked;
        wider = h.wider;
        root = h.root;
        rising = rising_push g.made.serials n h.rising h.below;
        below = all_push (λ k. k < n + 1) g.made.serials n (all_more n (n + 1) g.made.serials (omega arith) h.below) (omega arith);
        own = h.own;
        scopes = h.scopes;
        outs = h.outs;
        outsides = h.outsides;
        within = h.within;
        bounds = h.bounds;
      }

  many_underway : (xs : List LinkStep) (g : Linking) → Under g.state g.made → Under (registered_many xs g).state (registered_many xs g).made
  many_underway [] g h = h
  many_underway (x ∷ xs) g h = many_underway xs (registered g) (registered_underway g h)

  -- ---- a scope is made

  drop_push : (ns : List ℕ) (n k : ℕ) → ns ≡ k ∷ drop 1 ns → drop 1 (ns ++ n ∷ []) ≡ drop 1 ns ++ n ∷ []
  drop_push [] n k e = absurd (cc)
  drop_push (x ∷ ns) n k e = refl

  own_push : (ns : List ℕ) (n k : ℕ) → ns ≡ k ∷ drop 1 ns → ns ++ n ∷ [] ≡ k ∷ drop 1 (ns ++ n ∷ [])
  own_push [] n k e = absurd (cc)
  own_push (x ∷ ns) n k e = let same : x ≡ k = cc in ap (λ (y : ℕ). y ∷ (ns ++ n ∷ [])) same

  below_child : (p q : List ℕ) (n : ℕ) → (q ≡ p → IsBelow p (q ++ n ∷ []))
  below_child p q n e = ([], (n, ap (λ (r : List ℕ). r ++ n ∷ []) e))

  below_further : (p q : List ℕ) (n : ℕ) → IsBelow p q → IsBelow p (q ++ n ∷ [])
  below_further p q n h = (
    h.0 ++ h.1.0 ∷ [],
    (n, ap (λ (r : List ℕ). r ++ n ∷ []) h.1.1 ∙ append_assoc p (h.0 ++ h.1.0 ∷ []) (n ∷ [])),
  )

  child_underway : (t : State) (m : Registered) (n o : ℕ) (objects : List Object) → Under t m →
      (let c : ℕ = scope_in_ground m.at_hand n in
      Under (with_core (with_scopes (with_child t.core.scopes c o) (with_objects objects t.core)) t) (record m { at_hand = record m.at_hand { scopes = m.at_hand.scopes ++ length t.core.scopes ∷ [] } }))
  child_underway t m n o objects h =
      let c : ℕ = scope_in_ground m.at_hand n in
      let count : ℕ = length t.core.scopes in
      let u : State = with_core (with_scopes (with_child t.core.scopes c o) (with_objects objects t.core)) t in
      let grown = grown-length t.core.scopes c o in
      let wide : Under u m = state_underway t u m (refl, refl) (omega arith) (child_more t.core.scopes c o) h in
      let parent : IsBelow (path_at t.core.scopes scope) (path_at t.core.scopes c ++ length (children_at t.core.scopes c) ∷ []) =
      ground_holds (λ (k : ℕ). IsBelow (path_at t.core.scopes scope) (path_at t.core.scopes k ++ length (children_at t.core.scopes c) ∷ [])) m.at_hand scope n h.own
      (below_child (path_at t.core.scopes scope) (path_at t.core.scopes scope) (length (children_at t.core.scopes c)) refl)
      (all_further (length (children_at t.core.scopes c)) (drop 1 m.at_hand.scopes) h.within) in
      let path : path_at u.core.scopes count ≡ path_at t.core.scopes c ++ length (children_at t.core.scopes c) ∷ [] = ap (λ (x : Scope). x.path) (grown-new t.core.scopes c o count refl) in
      let same : path_at u.core.scopes scope ≡ path_at t.core.scopes scope = more_path t.core.scopes u.core.scopes scope (child_more t.core.scopes c o) (own_below t m h) in
      let new : IsBelow (path_at u.core.scopes scope) (path_at u.core.scopes count) =
      subst (λ (p : List ℕ). IsBelow p (path_at u.core.scopes count)) (sym same) (subst (IsBelow (path_at t.core.scopes scope)) (sym path) parent) in
      record {
        linked = wide.linked;
        wider = wide.wider;
        root = wide.root;
        rising = wide.rising;
        below = wide.below;
        own = own_push m.at_hand.scopes count scope h.own;
        scopes = all_push (λ k. k < length u.core.scopes) m.at_hand.scopes count wide.scopes (omega (arith, grown));
        outs = wide.outs;
        outsides = wide.outsides;
        within = subst (λ (ns : List ℕ). AllByRecursion (λ k. IsBelow (path_at u.core.scopes scope) (path_at u.core.scopes k)) ns) (sym (drop_push m.at_hand.scopes count scope h.own))
            (all_push (λ k. IsBelow (path_at u.core.scopes scope) (path_at u.core.scopes k)) (drop 1 m.at_hand.scopes) count wide.within new);
        bounds = wide.bounds;
      }
    where
      all_further : (k : ℕ) (ns : List ℕ) → AllByRecursion (λ n. IsBelow (path_at t.core.scopes scope) (path_at t.core.scopes n)) ns → AllByRecursion (λ n. IsBelow (path_at t.core.scopes scope) (path_at t.core.scopes n ++ k ∷ [])) ns
      all_further k [] w = tt
      all_further k (x ∷ ns) w = (below_further (path_at t.core.scopes scope) (path_at t.core.scopes x) k w.0, all_further k ns w.1)

  opened_underway : (g : Linking) (n : ℕ) (proto : Option ℕ) → Under g.state g.made →
      (let h : Linking = opened_by (scope_run (scope_in_ground g.made.at_hand n) proto g.state.core) g in Under h.state h.made)
  opened_underway g n proto h = by (nat_lt (length g.state.core.objects) object_limit)
    where
      c : ℕ
      c = scope_in_ground g.made.at_hand n

      made : Run ℕ
      made = (with_scopes (with_child g.state.core.scopes c (length g.state.core.objects)) (with_objects (with_scope_object g.state.core.objects g.state.core.scopes proto c) g.state.core), Ok (length g.state.core.scopes))

      full : Run ℕ
      full = (g.state.core, Err StoreFull)

      by : (b : Bool) → (let k : Linking = opened_by (cond b made full) g in Under k.state k.made)
      by true = child_underway g.state g.made n (length g.state.core.objects) (with_scope_object g.state.core.objects g.state.core.scopes proto c) h
      by false = h

  opening_underway : (o : Opening) (g : Linking) → Under g.state g.made → (let h : Linking = opened_by (opening_run g.made.at_hand o g.state.core) g in Under h.state h.made)
  opening_underway (a_child n) g h = opened_underway g n (Some (object_at g.state.core.scopes (scope_in_ground g.made.at_hand n))) h
  opening_underway (an_isolate n) g h = opened_underway g n None h
  opening_underway (a_slot n o) g h = opened_underway g n (Some (object_at g.state.core.scopes (outside_in_ground g.made.at_hand o))) h

  -- ---- a binding

  value_underway : (r : Result ViewTree Fault) (g : Linking) → Under g.state g.made → Under (value_kept r g).state (value_kept r g).made
  value_underway (Ok v) g h = kept_underway g.state g.made (keep_last g.made.kept (Some v ∷ [])) h
  value_underway (Err e) g h = lasting g.state (handed_to e g).state g.made ((refl, refl), rises-refl (mark g.state.core)) h

  texts_underway : (r : Result (List (List ℕ)) Fault) (g : Linking) → Under g.state g.made → Under (texts_kept r g).state (texts_kept r g).made
  texts_underway (Ok ts) g h = kept_underway g.state g.made _ h
  texts_underway (Err e) g h = lasting g.state (handed_to e g).state g.made ((refl, refl), rises-refl (mark g.state.core)) h

  by_value_underway : (both : Bool) (to : ℕ) (name : List ℕ) (over : ℕ) (x : Option Site) (g : Linking) → Under g.state g.made → (let h : Linking = value_bound_by both to name over x g in Under h.state h.made)
  by_value_underway both to name over None g h = h
  by_value_underway both to name over (Some x) g h =
      let r : Run ViewTree = set_to_value both to name over x.program g.state.core in
      let k : Linking = record g { state = with_core r.0 g.state } in
      value_underway r.1 k (core_underway r.0 g.state g.made (core_lasts r.0 g.state (set_value_rises both to name over x.program g.state.core)) h)

  bound_value_underway : (both : Bool) (to : ℕ) (name : List ℕ) (over : ℕ) (x : Option Site) (b : Bound) (g : Linking) → BoundStands (length g.state.core.scopes) b → Under g.state g.made → (let h : Linking = value_bound both to name over x b g in Under h.state h.made)
  bound_value_underway both to name over x b g one h =
      let k : Linking = registered g in
      let noted : Under k.state (record k.made { bounds = bounds_noted (g.state.core.serial ∷ []) b k.made.bounds }) = bounds_underway k.state k.made (g.state.core.serial ∷ []) b one (registered_underway g h) in
      by_value_underway both to name over x (record k { made = record k.made { bounds = bounds_noted (g.state.core.serial ∷ []) b k.made.bounds } }) noted

  many_scopes : (xs : List LinkStep) (g : Linking) → (registered_many xs g).state.core.scopes ≡ g.state.core.scopes
  many_scopes [] g = refl
  many_scopes (x ∷ xs) g = many_scopes xs (registered g)

  bound_text_underway : (to : ℕ) (name : List ℕ) (over : ℕ) (site : ℕ → Option Site) (ps : List Piece) (g : Linking) → to < length g.state.core.scopes → Under g.state g.made → (let h : Linking = text_bound to name over site ps g in Under h.state h.made)
  bound_text_underway to name over site ps g lt h =
      let k : Linking = registered_many (piece_steps ps) g in
      let ns : List ℕ = drop (length g.made.serials) k.made.serials in
      let b : Bound = bound_text to name (bound_pieces ps ns) in
      let there : to < length k.state.core.scopes = subst (λ (t : List Scope). to < length t) (sym (many_scopes (piece_steps ps) g)) lt in
      let noted : Under k.state (record k.made { bounds = bounds_noted ns b k.made.bounds }) = bounds_underway k.state k.made ns b there (many_underway (piece_steps ps) g h) in
      let m : Linking = record k { made = record k.made { bounds = bounds_noted ns b k.made.bounds } } in
      let r : Run (List (List ℕ)) = set_to_text to name over site ps k.state.core in
      texts_underway r.1 (record m { state = with_core r.0 m.state }) (core_underway r.0 m.state m.made (core_lasts r.0 m.state (set_text_rises to name over site ps k.state.core)) noted)

  source_underway : (site : ℕ → Option Site) (to : ℕ) (name : List ℕ) (over : ℕ) (x : Source) (g : Linking) → to < length g.state.core.scopes → over < length g.state.core.scopes → Under g.state g.made → (let h : Linking = source_bound site to name over x g in Under h.state h.made)
  source_underway site to name over (of_text ps) g lt lu h = bound_text_underway to name over site ps g lt h
  source_underway site to name over of_nothing g lt lu h = lasting g.state _ g.made ((refl, refl), rises-refl (mark g.state.core)) h
  source_underway site to name over (one_way n) g lt lu h = bound_value_underway false to name over (site n) (bound_in to name) g lt h
  source_underway site to name over (two_way n w) g lt lu h = bound_value_underway true to name over (site n) (bound_both to name over w) g (lt, lu) h
  source_underway site to name over (of_call p) g lt lu h = lasting g.state _ g.made ((refl, refl), rises-refl (mark g.state.core)) h

  -- ---- the steps

  scope_there : (g : Linking) (n : ℕ) → Under g.state g.made → scope_of g n < length g.state.core.scopes
  scope_there g n h = ground_below (length g.state.core.scopes) g.made.at_hand n h.root h.scopes

  step_underway : (f : Fragment) (x : LinkStep) (g : Linking) → Under g.state g.made → (let h : Linking = step_linked f x g in Under h.state h.made)
  step_underway f makes g h = h
  step_underway f stops g h = h
  step_underway f (opens o) g h = opening_underway o g h
  step_underway f (binds b i o) g h = source_underway (slice_get f.sites) (scope_of g i) b.name (scope_of g o) b.source g (scope_there g i h) (scope_there g o h) h
  step_underway f (installs d n) g h =
      let fs = functions_in (slice_get g.state.directives d) in
      core_underway (installs_all (scope_of g n) fs g.state.core) g.state g.made (core_lasts (installs_all (scope_of g n) fs g.state.core) g.state (installs_rises (scope_of g n) fs g.state.core)) h
  step_underway f (starts n p) g h =
      lasting g.state _ g.made (followed_lasts (program_run (scope_of g n) p g.state.core) g.state (program_rises (scope_of g n) p g.state.core)) h
  step_underway f (starts_at o p) g h =
      let n : ℕ = scope_of g (outlet_scope f o) in
      lasting g.state _ g.made (followed_lasts (program_run n p g.state.core) g.state (program_rises n p g.state.core)) h
  step_underway f registers g h = registered_underway g h
  step_underway f (leaves d n) g h = lasting g.state _ g.made (attended_lasts (scope_of g n) (slice_get g.state.directives d) g.state) h

  pub steps_underway : (f : Fragment) (xs : List LinkStep) (g : Linking) → Under g.state g.made → (let h : Linking = steps_linked f xs g in Under h.state h.made)
  steps_underway f [] g h = h
  steps_underway f (x ∷ xs) g h = by g.fault (steps_underway f xs (step_linked f x g) (step_underway f x g h))
    where
      more : Linking
      more = steps_linked f xs (step_linked f x g)

      by : (o : Option Fault) → Under more.state more.made → (let k : Linking = unless_faulted o more g in Under k.state k.made)
      by None rest = rest
      by (Some e) rest = h

-- a linking that begins
pub begun_underway : (s : State) (scope : ℕ) (os : List ℕ) → 0 < length s.core.scopes → scope < length s.core.scopes → AreBelow (length s.core.scopes) os → IsUnderway s scope os s (begins_linking scope os s).made
begun_underway s scope os root lt outs = record {
  linked = (refl, refl);
  wider = more_same s.core.scopes s.core.scopes refl;
  root = root;
  rising = none_rising;
  below = tt;
  own = refl;
  scopes = (lt, tt);
  outs = refl;
  outsides = outs;
  within = tt;
  bounds = tt;
}

pub linking_underway : (s : State) (scope : ℕ) (os : List ℕ) (f : Fragment) (xs : List LinkStep) → 0 < length s.core.scopes → scope < length s.core.scopes → AreBelow (length s.core.scopes) os →
    (let g : Linking = steps_linked f xs (begins_linking scope os s) in IsUnderway s scope os g.state g.made)
linking_underway s scope os f xs root lt outs = steps_underway s scope os f xs (begins_linking scope os s) (begun_underway s scope os root lt outs)
