-- After a digest that answered Ok no watcher is dirty.
use Rattle.std.proofs.Common.{◌≡◌, ◌≢◌, ℕ, Bool, true, false, List, refl, sym, ap, subst, ◌∙◌, [], ◌∷◌, cond, inl, inr, not, Option, None, Some, Result, Ok, Err, is_some, IfOk}
use Rattle.std.specs.Cmp.{eq_by_cmp_equiv}
use Rattle.std.specs.List.{filter}
use Rattle.std.specs.List.Sorted.{IsStrictlySortedBy}
use Rattle.std.specs.Map.{lookup, keys_of}
use Rattle.std.proofs.lemmas.Map.Entries.{option_filter, lookup-filter-values}
use Rattle.std.proofs.lemmas.Map.Keys.{IsDistinct-from_sorted}
use Rattle.ng_core.specs.State as act
use Rattle.ng_core.specs.declared.core_state.Handed.{Handed}
use Rattle.ng_base.specs.Objects.{Object}
use Rattle.ng_base.specs.declared.fault.Fault.{Fault}
use Rattle.ng_base.specs.declared.path.Key.{Key}
use Rattle.ng_digest.specs.declared.log.Report.{Report}
use Rattle.ng_digest.specs.declared.rounds.End.TheVariants.{Settled}
use Rattle.ng_digest.specs.declared.rounds.Found.{Found}
use Rattle.ng_digest.specs.declared.rounds.Found.TheVariants.{Nothing, Stopped, Fireable}
use Rattle.ng_digest.specs.declared.rounds.RoundEnd.TheVariants as round
use Rattle.ng_digest.specs.declared.rounds.Walked.{Walked}
use Rattle.ng_digest.specs.declared.rounds.DigestFault.{DigestFault}
use Rattle.ng_digest.specs.Causes.{Unless}
use Rattle.ng_digest.specs.Early.{plain_of, plain_answer, IsIn, IsLive, IsKnownClean}
use Rattle.ng_digest.specs.Laws.{InOrder}
use Rattle.ng_digest.specs.Machine.{found_dirty, next_key}
use Rattle.ng_digest.specs.Place.{Place, at_next, after_test, found}
use Rattle.ng_digest.specs.Plain.{PlainDigests}
use Rattle.ng_digest.specs.Short.{Skips, none_above, at_remembered, at_dirty, passed_by, Walks, walked_through, walk_stopped, walk_limited, fired_one, IsWhole, Round, closed_clean, Rounds, last_is_clean, one_more, Digests, gives_report, gives_faulted, gives_infdig, gives_fire_limit, gives_async_limit, gives_memory}
use Rattle.ng_digest.proofs.Carried.{tested_is}
use Rattle.ng_digest.proofs.Fresh.{rounds_known}
use Rattle.ng_digest.proofs.Stop.{forgotten}
use Rattle.ng_settling.specs.Settling as settling
use Rattle.ng_link.specs.State as link
use Rattle.ng_watch.specs.Ended.{is_over}
use Rattle.ng_behaviour.specs.Keys.{key_cmp, is_key, key_cmp_total}
use Rattle.ng_watch.specs.Seen.{Watcher}
use Rattle.ng_watch.specs.Table.{Table, found as found_in}
use Rattle.ng_watch.specs.Verdicts.{Judged, clean, dirty, verdict}
use Rattle.ng_page.specs.Answered.{ready_place}
use Rattle.ng_page.specs.PageLaws.{key_is, quiet, quiet_of, same_quiet, unset_core, page_laws}
use Rattle.ng_page.specs.PageMachine.{State, found_as, verdict_of, is_told, counted, handed_over, settled, page_machine, readied}
use Rattle.ng_commands.specs.Settled.{IsSettled}
use Rattle.ng_page.proofs.DigestsStay.{has_any, AreTold, told_stays}

-- ---- where a round ends without a fire, the keys are in order

same_state : (p : Place State Key) (o : Option Key) → (at_next p o).state ≡ p.state
same_state p None = refl
same_state p (Some k) = refl

-- a test that is not dirty leaves the keys
order_after : (p : Place State Key) (o : Option Key) → next_key page_machine p.state p.cursor ≡ o → is_some o ≡ true → InOrder page_machine p.state → found page_machine (at_next p o) ≢ found_dirty → InOrder page_machine (after_test page_machine (at_next p o)).state
order_after p None e s h n = cc
order_after p (Some k) e s h n =
    let is = tested_is page_machine p.state k (page_machine.verdict p.state k) n in
    subst (InOrder page_machine) (sym is) (subst (IsStrictlySortedBy key_cmp) (sym (page_laws.same_keys p.state k n)) h)

abbrev InOrderThen : Found → Place State Key → Type 0
InOrderThen Nothing q = InOrder page_machine q.state
InOrderThen Stopped q = InOrder page_machine q.state
InOrderThen Fireable q = Unit {0}

skips_order : {p q : Place State Key} {f : Found} → Skips page_machine p f q → InOrderThen f q
skips_order {p = p} (none_above e o) = subst (InOrder page_machine) (sym (same_state p (next_key page_machine p.state p.cursor))) o
skips_order {p = p} (at_remembered e o s n) = order_after p (next_key page_machine p.state p.cursor) refl e o n
skips_order (at_dirty e o d) = tt
skips_order (passed_by e o s n rest) = skips_order rest

walks_order : {p q : Place State Key} {e : Walked} {cut : Bool} → Walks page_machine p e q → IsWhole e cut → InOrder page_machine q.state
walks_order (walked_through d) i = skips_order d
walks_order (walk_stopped d) i = skips_order d
walks_order (walk_limited d h) i = elim i [ ]
walks_order (fired_one d h w) i = walks_order w i

quiet_order : {p q : Place State Key} {cut : Bool} → Round page_machine p (round.Quiet cut) q → InOrder page_machine q.state
quiet_order (closed_clean d w i h) = walks_order w i

rounds_order : {p q : Place State Key} {cut : Bool} → Rounds page_machine p (Settled cut) q → InOrder page_machine q.state
rounds_order (last_is_clean d) = quiet_order d
rounds_order (one_more d h rest) = rounds_order rest

-- ---- nothing was handed over, so nothing faulted

none_some : (n : ℕ) (o : Option Fault) → counted n o ≡ None → is_some o ≡ true → ⊥
none_some n None e h = cc
none_some n (Some f) e h = cc

empty_of : (ks : List Key) → (has_any ks ≡ true → ⊥) → ks ≡ []
empty_of [] h = refl
empty_of (k ∷ ks) h = absurd (h refl)

-- ---- a watcher that is known clean is clean

clean_result : (told : Bool) (r : Result Judged Fault) → found_as r ≢ found_dirty → quiet told r ≡ true → (told ≡ true → ⊥) → r ≡ Ok clean
clean_result told (Ok clean) c q n = refl
clean_result told (Ok (dirty t)) c q n = absurd (c refl)
clean_result told (Err f) c q n = absurd (n q)

-- a watcher that is found has a live key
pub live_key : (k : Key) (t : Table) (w : Watcher) → found_in k t ≡ Some w → IsIn k (keys_of t)
live_key k [] w e = cc
live_key k (x ∷ t) w e = by_key (is_key k x.0) refl e (live_key k t w)
  where
    by_key : (b : Bool) → is_key k x.0 ≡ b → cond b (Some x.1) (lookup (is_key k) t) ≡ Some w → (found_in k t ≡ Some w → IsIn k (keys_of t)) → IsIn k (keys_of (x ∷ t))
    by_key true i e more = inl (sym (key_is k x.0 i))
    by_key false i e more = inr (more e)

known_clean : (s : State) → ((k : Key) → IsLive page_machine s k → IsKnownClean page_machine s k) → AreTold s → handed_over s.works.core.handed ≡ None → IsSettled s.works
known_clean s known told none k w e =
    let c = known k (live_key k s.works.watchers w e) in
    clean_result (is_told s.told k) (verdict s.works.core.objects w) (subst (λ o. verdict_of s o ≢ found_dirty) e c.clean) (sym (ap (quiet_of s k) e) ∙ same_quiet s k c.told)
    (λ t. none_some s.works.core.handed.count s.works.core.handed.first none (told.tests k t))

-- ---- the end of a digest takes watchers out, and changes no other

filtered_some : (p : Watcher → Bool) (o : Option Watcher) (w : Watcher) → option_filter p o ≡ Some w → o ≡ Some w
filtered_some p None w e = cc
filtered_some p (Some v) w e = by_test (p v) e
  where
    by_test : (b : Bool) → cond b (Some v) None ≡ Some w → Some v ≡ Some w
    by_test true e = e
    by_test false e = cc

still_found : (objects : List Object) (k : Key) (t : Table) (w : Watcher) → IsStrictlySortedBy key_cmp (keys_of t) → found_in k (filter (λ e. not (is_over objects e.1)) t) ≡ Some w → found_in k t ≡ Some w
still_found objects k t w h e =
    filtered_some (λ v. not (is_over objects v)) (found_in k t) w
    (sym (lookup-filter-values (eq_by_cmp_equiv key_cmp_total) (λ v. not (is_over objects v)) k t (IsDistinct-from_sorted key_cmp (keys_of t) h)) ∙ e)

ended_settled : (s : link.State) → IsStrictlySortedBy key_cmp (keys_of s.watchers) → IsSettled s → IsSettled (settling.settled [] s).0
ended_settled s h clean_all k w e = clean_all k w (still_found s.core.objects k s.watchers w h e)

-- ---- so after the answer Ok nothing is dirty

settled_from : (s : State) → InOrder page_machine s → ((k : Key) → IsLive page_machine s k → IsKnownClean page_machine s k) → AreTold s → handed_over s.works.core.handed ≡ None → IsSettled (settled s).works
settled_from s order known told none =
    let faulted : s.faulted ≡ [] = empty_of s.faulted (λ i. none_some s.works.core.handed.count s.works.core.handed.first none (told.fires i)) in
    subst (λ ks. IsSettled (settling.settled ks s.works).0) (sym faulted) (ended_settled s.works order (known_clean s known told none))

-- what the end keeps of that
settled_handed : (ks : List Key) (s : link.State) → (settling.settled ks s).0.core.handed ≡ s.core.handed
settled_handed ks s = ap (λ (c : act.State). c.handed) (unset_core ks s)

told_before : (s : State) → AreTold (settled s) → handed_over (settled s).works.core.handed ≡ None → AreTold s × (handed_over s.works.core.handed ≡ None)
told_before s told none =
    let same : (settled s).works.core.handed ≡ s.works.core.handed = settled_handed s.faulted s.works in (
      record {
        tests = λ k i. sym (ap (λ (h : Handed). is_some h.first) same) ∙ told.tests k i;
        fires = λ i. sym (ap (λ (h : Handed). is_some h.first) same) ∙ told.fires i;
      },
      sym (ap handed_over same) ∙ none,
    )

pub settled_when_ok : (s : link.State) (q : Place State Key) (r : Result Report DigestFault) → Digests page_machine (ready_place s) r q
    → Unless r (PlainDigests page_machine (readied s) (plain_answer r) (plain_of q)) → IfOk r (λ _. IsSettled q.state.works)
settled_when_ok s q (Err f) d plain = tt
settled_when_ok s q (Ok report) d plain = by_end (Ok report) refl d (told_stays s (plain_answer (Ok report)) (plain_of q) plain)
  where
    by_end : {t : Place State Key} (a : Result Report DigestFault) → a ≡ Ok report → Digests page_machine (ready_place s) a t → AreTold t.state → IsSettled t.state.works
    by_end a e (gives_report {q = x} rs none) told =
        let before = told_before x.state told none in
        settled_from x.state (rounds_order rs) (rounds_known page_machine page_laws rs (forgotten page_machine page_laws (ready_place s) refl)) before.0 before.1
    by_end a e (gives_faulted rs some) told = absurd (cc)
    by_end a e (gives_infdig rs) told = absurd (cc)
    by_end a e (gives_fire_limit rs) told = absurd (cc)
    by_end a e (gives_async_limit rs) told = absurd (cc)
    by_end a e gives_memory told = absurd (cc)
