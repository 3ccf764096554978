-- What is known of the watchers in the middle of a digest stays true from call to call.
use Rattle.std.proofs.Common.{◌≡◌, ◌∙◌, ◌&&◌, ◌||◌, ℕ, Bool, true, false, not, List, [], ◌∷◌, Option, None, Some, Result, Ok, Err, refl, ap, sym, subst, cond, inl, inr, ◌⊎◌, true≢false}
use Rattle.std.specs.Map.{keys_of}
use Rattle.std.specs.Option.{ForSome}
use Rattle.std.specs.Ordering.{is_lt}
use Rattle.std.specs.declared.cmp.Ordering.TheVariants.{Less}
use Rattle.std.specs.List.Sorted.{IsStrictlySortedBy}
use Rattle.ng_base.specs.Objects.{Object}
use Rattle.ng_base.specs.Views.{ViewTree}
use Rattle.ng_base.specs.declared.fault.Fault.{Fault}
use Rattle.ng_base.specs.declared.path.Key.{Key}
use Rattle.ng_instances.proofs.Keeping.{kept-other}
use Rattle.ng_digest.proofs.Carried.{none_passes}
use Rattle.ng_digest.specs.Machine.{Verdict, above, found_clean, found_dirty, found_faulted, verdict_at}
use Rattle.ng_digest.specs.Place.{Answers, OnTested, state_tested}
use Rattle.ng_digest.specs.Progress.{Standing, came_to, passed}
use Rattle.ng_digest.specs.declared.world.Tested.{Tested}
use Rattle.ng_digest.specs.declared.world.Tested.TheVariants as tests
use Rattle.ng_fire.specs.Fires.{IsDirtyWith}
use Rattle.ng_link.specs.Calls.{keeping_at}
use Rattle.ng_link.specs.State as link
use Rattle.ng_watch.proofs.Judging.{kept_is_clean}
use Rattle.ng_behaviour.specs.Keys.{key_cmp, is_above, is_key}
use Rattle.ng_watch.specs.Laws.{is_two_way}
use Rattle.ng_watch.specs.Seen.{Watcher}
use Rattle.ng_watch.specs.Table.{Table, found, keeping, with_kept}
use Rattle.ng_watch.specs.Verdicts.{Judged, clean, dirty, verdict}
use Rattle.ng_watch.specs.Walks.{Arrival, behind_all, at_watcher, Walks, came_to_end, came_to_watcher, passed_watcher}
use Rattle.ng_page.proofs.Ahead.{next_is}
use Rattle.ng_page.proofs.Nearest.{next_least, none_between, not_over}
use Rattle.ng_page.proofs.SettledLaws.{live_key}
use Rattle.ng_page.specs.KnownClean.{AreClean, IsCleanUnlessTold, come_by, is_known, is_passed, is_under, known_begun, known_come, known_here, known_tested}
use Rattle.ng_page.specs.PageLaws.{by_test, is_itself, key_is, told_itself, told_still}
use Rattle.ng_page.specs.PageMachine.{State, found_as, handed_on, handed_on_at, handed_on_of, is_told, page_machine, tell, tested, tested_of, told_at, verdict_of}
use Rattle.ng_page.specs.PlaceOf.{key_at, last_at}
use Rattle.ng_page.specs.declared.known.Known.{Known}
use Rattle.ng_page.specs.declared.known.Passed.{Passed}
use Rattle.ng_page.specs.declared.known.Passed.TheVariants.{Nothing, Below, UpTo}

both : (a b : Bool) → (a && b) ≡ true → (a ≡ true) × (b ≡ true)
both true b e = (refl, e)
both false b e = absurd (true≢false (sym e))

either : (a b : Bool) → (a || b) ≡ true → (a ≡ true) ⊎ (b ≡ true)
either true b e = inl refl
either false b e = inr e

and_both : (a b : Bool) → a ≡ true → b ≡ true → (a && b) ≡ true
and_both a b x y = ap (λ z. z && b) x ∙ y

or_left : (a b : Bool) → a ≡ true → (a || b) ≡ true
or_left a b x = ap (λ z. z || b) x

or_right : (a b : Bool) → b ≡ true → (a || b) ≡ true
or_right true b y = refl
or_right false b y = y

is_not : (a : Bool) → not a ≡ true → a ≡ false
is_not false e = refl
is_not true e = absurd (true≢false (sym e))

-- the watchers of the fields are known
abbrev AreCleanBy : Option Key → Bool → Passed → Option Key → List Key → List Object → Table → Type 0
AreCleanBy f b p = AreClean (record { from = f; to_end = b; passed = p })

-- what is known before the least key
begun_by : (f : Option Key) (b : Bool) (p : Passed) (c : Option Key) (told : List Key) (objects : List Object) (t : Table) → AreCleanBy f b p c told objects t → AreClean (known_begun (record { from = f; to_end = b; passed = p })) None told objects t
begun_by f false p c told objects t h = λ k is. absurd (true≢false (sym is))
begun_by f true p c told objects t h = λ k is. by_side k (either (above page_machine f k) false is)
  where
    by_side : (k : Key) → (above page_machine f k ≡ true) ⊎ (false ≡ true) → IsCleanUnlessTold told objects t k
    by_side k (inl over) = h k (or_left (above page_machine f k) (is_passed p c k) over)
    by_side k (inr none) = absurd (true≢false (sym none))

pub clean_begun : (known next : Known) (c d : Option Key) (told : List Key) (objects : List Object) (t : Table) → next ≡ known_begun known → d ≡ None → AreClean known c told objects t → AreClean next d told objects t
clean_begun known next c d told objects t is start h =
    subst (λ x. AreClean x d told objects t) (sym is) (subst (λ o. AreClean (known_begun known) o told objects t) (sym start) (begun_by known.from known.to_end known.passed c told objects t h))

-- where all above the bound are known, and all above the cursor are above it, all above the cursor are
ahead_by : (f : Option Key) (b : Bool) (p : Passed) (c : Option Key) (k : Key) → b ≡ true → above page_machine f k ≡ true → is_known (record { from = f; to_end = b; passed = p }) c k ≡ true
ahead_by f true p c k e over = or_left (above page_machine f k) (is_passed p c k) over
ahead_by f false p c k e over = absurd (true≢false (sym e))

pub ahead_clean : (known : Known) (c : Option Key) (told : List Key) (objects : List Object) (t : Table) → known.to_end ≡ true → ((k : Key) → above page_machine c k ≡ true → above page_machine known.from k ≡ true) → AreClean known c told objects t
    → (k : Key) → above page_machine c k ≡ true → IsCleanUnlessTold told objects t k
ahead_clean known c told objects t e behind h k over = h k (ahead_by known.from known.to_end known.passed c k e (behind k over))

-- ---- a walk

-- a key at which a walk has not come yet
abbrev is_short : Arrival → Key → Bool
is_short (behind_all c) j = true
is_short (at_watcher k r) j = is_above j k

module _ (told : List Key) (objects : List Object) (t : Table) (sorted : IsStrictlySortedBy key_cmp (keys_of t)) where
  -- what a walk passes is clean
  passed_by : (last : Option Key) {c : Option Key} {n : ℕ} {a : Arrival} → Walks objects t last c n a → (j : Key) (w : Watcher) → found j t ≡ Some w → above page_machine c j ≡ true → is_short a j ≡ true → verdict objects w ≡ Ok clean
  passed_by last (came_to_end {c = c} e) j w f over short = absurd (true≢false (sym over ∙ none_passes (above page_machine c) j (keys_of t) (next_is t c ∙ e) (live_key j t w f)))
  passed_by last (came_to_watcher {c = c} {k = k} n g) j w f over short = absurd (true≢false (sym over ∙ none_between t sorted c k j w n f short))
  passed_by last (passed_watcher {c = c} {k = k} {w = x} {a = a} n g v o rest) j w f over short = by_above (is_above k j) refl (passed_by last rest j w f)
    where
      by_place : is_above k j ≡ false → (k ≡ j) ⊎ (key_cmp k j ≡ Less) → verdict objects w ≡ Ok clean
      by_place e (inl same) =
          let two : Some x ≡ Some w = sym g ∙ (ap (λ y. found y t) same ∙ f) in
          let is : x ≡ w = cc in
          subst (λ y. verdict objects y ≡ Ok clean) is v
      by_place e (inr less) = absurd (true≢false (sym (ap is_lt less) ∙ e))

      by_above : (b : Bool) → is_above k j ≡ b → (is_above k j ≡ true → is_short a j ≡ true → verdict objects w ≡ Ok clean) → verdict objects w ≡ Ok clean
      by_above true e more = more e short
      by_above false e more = by_place e (next_least t sorted c k j w n f over)

  -- a watcher that a walk leaves behind is clean, where it was known before or is passed
  left_behind : (last c : Option Key) (n : ℕ) (a : Arrival) → Walks objects t last c n a → (j : Key) (w : Watcher) → found j t ≡ Some w → is_short a j ≡ true → (above page_machine c j ≡ false → verdict objects w ≡ Ok clean) → verdict objects w ≡ Ok clean
  left_behind last c n a d j w f short before = by_above (above page_machine c j) refl
    where
      by_above : (b : Bool) → above page_machine c j ≡ b → verdict objects w ≡ Ok clean
      by_above true e = passed_by last d j w f e short
      by_above false e = before e

  come_clean_by : (f : Option Key) (b : Bool) (p : Passed) (last c : Option Key) (n : ℕ) (a : Arrival) → Walks objects t last c n a → AreCleanBy f b p c told objects t → AreClean (come_by p a (record { from = f; to_end = b; passed = p })) (key_at a) told objects t
  come_clean_by f false Nothing last c n a d h = λ j is. absurd (true≢false (sym (both (above page_machine f j) false is).1))
  come_clean_by f false Below last c n a d h = λ j is. absurd (true≢false (sym (both (above page_machine f j) false is).1))
  come_clean_by f true Nothing last c n a d h = λ j is. h j is
  come_clean_by f true Below last c n a d h = λ j is. by_side j (either (above page_machine f j) false is)
    where
      by_side : (j : Key) → (above page_machine f j ≡ true) ⊎ (false ≡ true) → IsCleanUnlessTold told objects t j
      by_side j (inl over) = h j (or_left (above page_machine f j) (is_under c j) over)
      by_side j (inr none) = absurd (true≢false (sym none))
  come_clean_by f false UpTo last c n (behind_all x) d h = λ j is. by_side j (either (above page_machine f j) false is)
    where
      by_side : (j : Key) → (above page_machine f j ≡ true) ⊎ (false ≡ true) → IsCleanUnlessTold told objects t j
      by_side j (inl over) untold w g = left_behind last c n (behind_all x) d j w g refl (λ e. h j (and_both (above page_machine f j) (not (above page_machine c j)) over (ap not e)) untold w g)
      by_side j (inr none) untold w g = absurd (true≢false (sym none))
  come_clean_by f true UpTo last c n (behind_all x) d h = λ j is untold w g. left_behind last c n (behind_all x) d j w g refl (λ e. h j (or_right (above page_machine f j) (not (above page_machine c j)) (ap not e)) untold w g)
  come_clean_by f false UpTo last c n (at_watcher k r) d h = λ j is untold w g.
      let two = both (above page_machine f j) (is_above j k) is in
      left_behind last c n (at_watcher k r) d j w g two.1 (λ e. h j (and_both (above page_machine f j) (not (above page_machine c j)) two.0 (ap not e)) untold w g)
  come_clean_by f true UpTo last c n (at_watcher k r) d h = λ j is. by_side j (either (above page_machine f j) (is_above j k) is)
    where
      by_side : (j : Key) → (above page_machine f j ≡ true) ⊎ (is_above j k ≡ true) → IsCleanUnlessTold told objects t j
      by_side j (inl over) untold w g = h j (or_left (above page_machine f j) (not (above page_machine c j)) over) untold w g
      by_side j (inr short) untold w g = left_behind last c n (at_watcher k r) d j w g short (λ e. h j (or_right (above page_machine f j) (not (above page_machine c j)) (ap not e)) untold w g)

-- behind the last watcher it is the same for any cursor
end_by : (f : Option Key) (b : Bool) (p : Passed) (c x y : Option Key) (told : List Key) (objects : List Object) (t : Table) → AreClean (come_by p (behind_all c) (record { from = f; to_end = b; passed = p })) x told objects t → AreClean (come_by p (behind_all c) (record { from = f; to_end = b; passed = p })) y told objects t
end_by f b Nothing c x y told objects t h = h
end_by f b Below c x y told objects t h = h
end_by f b UpTo c x y told objects t h = h

pub came_at : (known next : Known) (told : List Key) (objects : List Object) (t : Table) → IsStrictlySortedBy key_cmp (keys_of t) → (last : Option Key) (p q : Standing Key) (n : ℕ) (a : Arrival)
    → next ≡ known_come a known → q ≡ came_to (key_at a) (passed n (last_at a) p) → Walks objects t last p.cursor n a → AreClean known p.cursor told objects t → AreClean next q.cursor told objects t
came_at known next told objects t sorted last p q n (behind_all c) is step d h =
    subst (λ x. AreClean x q.cursor told objects t) (sym is)
    (end_by known.from known.to_end known.passed c None q.cursor told objects t (come_clean_by told objects t sorted known.from known.to_end known.passed last p.cursor n (behind_all c) d h))
came_at known next told objects t sorted last p q n (at_watcher k r) is step d h =
    subst (λ x. AreClean x q.cursor told objects t) (sym is)
    (subst (λ o. AreClean (known_come (at_watcher k r) known) o told objects t) (sym (ap (λ x. x.cursor) step)) (come_clean_by told objects t sorted known.from known.to_end known.passed last p.cursor n (at_watcher k r) d h))

-- ---- a test

-- a test leaves what tests read, and takes no key out of those that were told
abbrev pub SeesAlike : State → State → Type 0
SeesAlike s u = (u.works.core.objects ≡ s.works.core.objects) × (u.works.watchers ≡ s.works.watchers) × ((k : Key) → is_told s.told k ≡ true → is_told u.told k ≡ true)

itself : (s : State) → SeesAlike s s
itself s = (refl, refl, λ k h. h)

after : (s : State) (k : Key) → SeesAlike s (tested s k)
after s k = by_test (SeesAlike s) s k (itself s) (λ f. (refl, refl, λ j h. told_still s.told k j h))

at_cursor : (s : State) (c : Option Key) (v : Verdict) → SeesAlike s (state_tested page_machine s c v)
at_cursor s None found_dirty = itself s
at_cursor s None found_clean = itself s
at_cursor s None found_faulted = itself s
at_cursor s (Some k) found_dirty = itself s
at_cursor s (Some k) found_clean = after s k
at_cursor s (Some k) found_faulted = after s k

abbrev KnownIn : Known → Option Key → State → Type 0
KnownIn known c s = AreClean known c s.told s.works.core.objects s.works.watchers

-- a key that isn't told now was not told before
not_before : (ts us : List Key) (k : Key) → (is_told ts k ≡ true → is_told us k ≡ true) → is_told us k ≡ false → is_told ts k ≡ false
not_before ts us k still untold = by_told (is_told ts k) refl
  where
    by_told : (b : Bool) → is_told ts k ≡ b → is_told ts k ≡ false
    by_told true e = absurd (true≢false (sym (still e) ∙ untold))
    by_told false e = e

-- the more keys are told, the less is known
more_told : (known : Known) (c : Option Key) (ts us : List Key) (objects : List Object) (t : Table) → ((k : Key) → is_told ts k ≡ true → is_told us k ≡ true) → AreClean known c ts objects t → AreClean known c us objects t
more_told known c ts us objects t still h = λ k is untold. h k is (not_before ts us k (still k) untold)

-- what is known of one state is known of one that tests see alike
alike : (known : Known) (c : Option Key) (s u : State) → SeesAlike s u → KnownIn known c s → KnownIn known c u
alike known c s u same h =
    more_told known c s.told u.told u.works.core.objects u.works.watchers same.2
    (subst (λ os. AreClean known c s.told os u.works.watchers) (sym same.0) (subst (λ t. AreClean known c s.told s.works.core.objects t) (sym same.1) h))

still_alike : (known : Known) (s u : State) (c : Option Key) (v : Verdict) → u ≡ state_tested page_machine s c v → KnownIn known c s → KnownIn known c u
still_alike known s u c v e h = subst (KnownIn known c) (sym e) (alike known c s (state_tested page_machine s c v) (at_cursor s c v) h)

found_clean_is : (r : Result Judged Fault) → found_as r ≡ found_clean → r ≡ Ok clean
found_clean_is (Ok clean) e = refl
found_clean_is (Ok (dirty v)) e = absurd (cc)
found_clean_is (Err f) e = absurd (cc)

-- what is to be shown of the watcher at the cursor
abbrev IsHere : Option Key → State → Type 0
IsHere None s = Unit {0}
IsHere (Some k) s = is_told s.told k ≡ false → ForSome (found k s.works.watchers) (λ w. verdict s.works.core.objects w ≡ Ok clean)

-- it is known with the others
under_or_here : (c : Option Key) (j : Key) → not (above page_machine c j) ≡ true → (is_under c j ≡ true) ⊎ (c ≡ Some j)
under_or_here None j e = absurd (true≢false (sym e))
under_or_here (Some k) j e = by_place (not_over k j (is_not (is_above k j) e))
  where
    by_place : (k ≡ j) ⊎ (is_above j k ≡ true) → (is_above j k ≡ true) ⊎ (Some k ≡ Some j)
    by_place (inl same) = inr (ap (λ x. Some x) same)
    by_place (inr under) = inl under

here_by : (f : Option Key) (b : Bool) (p : Passed) (c : Option Key) (j : Key) → is_known (known_here (record { from = f; to_end = b; passed = p })) c j ≡ true → (is_known (record { from = f; to_end = b; passed = p }) c j ≡ true) ⊎ (c ≡ Some j)
here_by f b Nothing c j is = inl is
here_by f b UpTo c j is = inl is
here_by f false Below c j is = by_place (under_or_here c j two.1)
  where
    two : (above page_machine f j ≡ true) × (not (above page_machine c j) ≡ true)
    two = both (above page_machine f j) (not (above page_machine c j)) is

    by_place : (is_under c j ≡ true) ⊎ (c ≡ Some j) → ((above page_machine f j && is_under c j) ≡ true) ⊎ (c ≡ Some j)
    by_place (inl under) = inl (and_both (above page_machine f j) (is_under c j) two.0 under)
    by_place (inr here) = inr here
here_by f true Below c j is = by_side (either (above page_machine f j) (not (above page_machine c j)) is)
  where
    by_place : (is_under c j ≡ true) ⊎ (c ≡ Some j) → ((above page_machine f j || is_under c j) ≡ true) ⊎ (c ≡ Some j)
    by_place (inl under) = inl (or_right (above page_machine f j) (is_under c j) under)
    by_place (inr here) = inr here

    by_side : (above page_machine f j ≡ true) ⊎ (not (above page_machine c j) ≡ true) → ((above page_machine f j || is_under c j) ≡ true) ⊎ (c ≡ Some j)
    by_side (inl over) = inl (or_left (above page_machine f j) (is_under c j) over)
    by_side (inr e) = by_place (under_or_here c j e)

known_or_here : (known : Known) (c : Option Key) (j : Key) → is_known (known_here known) c j ≡ true → (is_known known c j ≡ true) ⊎ (c ≡ Some j)
known_or_here known = here_by known.from known.to_end known.passed

known_too : (known : Known) (s : State) (c : Option Key) → IsHere c s → KnownIn known c s → KnownIn (known_here known) c s
known_too known s c here h = λ j is. by_place j (known_or_here known c j is)
  where
    by_place : (j : Key) → (is_known known c j ≡ true) ⊎ (c ≡ Some j) → IsCleanUnlessTold s.told s.works.core.objects s.works.watchers j
    by_place j (inl is) = h j is
    by_place j (inr at) = subst (λ o. IsHere o s) at here

-- where it was found clean
here_clean : (s : State) (c : Option Key) → verdict_at page_machine s c ≡ found_clean → IsHere c s
here_clean s None e = tt
here_clean s (Some k) e = λ untold w g. found_clean_is (verdict s.works.core.objects w) (sym (ap (verdict_of s) g) ∙ e)

-- and where it faulted, so that it is told
told_now : (s : State) (k : Key) (f : Fault) → is_told (tell k (Err f) s).told k ≡ true
told_now s k f = by_told (is_told s.told k) refl
  where
    by_told : (b : Bool) → is_told s.told k ≡ b → is_told (cond b s (told_at k f s)).told k ≡ true
    by_told true e = e
    by_told false e = told_itself s.told k

told_by : (s : State) (k : Key) (r : Result Judged Fault) → found_as r ≡ found_faulted → is_told (tell k r s).told k ≡ true
told_by s k (Ok clean) e = absurd (cc)
told_by s k (Ok (dirty v)) e = absurd (cc)
told_by s k (Err f) e = told_now s k f

told_of : (s : State) (k : Key) (o : Option Watcher) → verdict_of s o ≡ found_faulted → is_told (tested_of k o s).told k ≡ true
told_of s k None e = absurd (cc)
told_of s k (Some w) e = told_by s k (verdict s.works.core.objects w) e

here_told : (s u : State) (c : Option Key) → verdict_at page_machine s c ≡ found_faulted → u ≡ state_tested page_machine s c found_faulted → IsHere c u
here_told s u None e is = tt
here_told s u (Some k) e is = λ untold. absurd (true≢false (sym (ap (λ x. is_told x.told k) is ∙ told_of s k (found k s.works.watchers) e) ∙ untold))

pub clean_tested : (known : Known) (r : Tested) (s u : State) (c : Option Key) → Answers (verdict_at page_machine s c) r → OnTested r (u ≡ state_tested page_machine s c (verdict_at page_machine s c)) → KnownIn known c s → OnTested r (KnownIn (known_tested r known) c u)
clean_tested known tests.Clean s u c answer state h = still_alike (known_here known) s u c (verdict_at page_machine s c) state (known_too known s c (here_clean s c answer) h)
clean_tested known tests.Dirty s u c answer state h = still_alike known s u c (verdict_at page_machine s c) state h
clean_tested known tests.Faulted s u c answer state h = known_too known u c (here_told s u c answer (state ∙ ap (state_tested page_machine s c) answer)) (still_alike known s u c (verdict_at page_machine s c) state h)
clean_tested known (tests.Memory e) s u c answer state h = tt

-- ---- a quiet fire

handed_dirty : (r : Result Judged Fault) (v : ViewTree) → Some v ≡ handed_on r → r ≡ Ok (dirty v)
handed_dirty (Ok clean) v e = absurd (cc)
handed_dirty (Ok (dirty t)) v e = let same : v ≡ t = cc in ap (λ x. Ok (dirty x)) (sym same)
handed_dirty (Err f) v e = absurd (cc)

-- what was handed on was found by a dirty test
pub dirty_from : (s : State) (k : Key) (v : ViewTree) → Some v ≡ handed_on_at s k → IsDirtyWith v s.works k
dirty_from s k v e w g = handed_dirty (verdict s.works.core.objects w) v (e ∙ ap (handed_on_of s) g)

kept_from : (k : Key) (o : Option ViewTree) (t : Table) (w : Watcher) → found k (with_kept k o t) ≡ Some w → (x : Watcher) × (found k t ≡ Some x) × (keeping o x ≡ w)
kept_from k o [] w e = absurd (cc)
kept_from k o (x ∷ t) w e = by_key (is_key k x.0) refl e (kept_from k o t w)
  where
    by_key : (b : Bool) → is_key k x.0 ≡ b → found k (cond b ((x.0, keeping o x.1) ∷ t) (x ∷ with_kept k o t)) ≡ Some w → (found k (with_kept k o t) ≡ Some w → (y : Watcher) × (found k t ≡ Some y) × (keeping o y ≡ w)) → (y : Watcher) × (found k (x ∷ t) ≡ Some y) × (keeping o y ≡ w)
    by_key true is e more =
        let f : ◌≡◌ {A = Option Watcher} (Some (keeping o x.1)) (Some w) = ap (λ (b : Bool). cond b (Some (keeping o x.1)) (found k t)) (sym is) ∙ e in
        let same : keeping o x.1 ≡ w = cc in
        (x.1, ap (λ (b : Bool). cond b (Some x.1) (found k t)) is, same)
    by_key false is e more =
        let r = more (ap (λ (b : Bool). cond b (Some x.1) (found k (with_kept k o t))) (sym is) ∙ e) in
        (r.0, ap (λ (b : Bool). cond b (Some x.1) (found k t)) is ∙ r.1, r.2)

module _ (told : List Key) (s : link.State) (k : Key) (v : ViewTree) (plain : ForSome (found k s.watchers) (λ w. is_two_way w.watch.kind ≡ false)) (found_so : IsDirtyWith v s k) where
  kept_clean : (known : Known) → AreClean known (Some k) told s.core.objects s.watchers → AreClean (known_here known) (Some k) told s.core.objects (with_kept k (Some v) s.watchers)
  kept_clean known h j is untold w g = by_key (is_key k j) refl (known_or_here known (Some k) j is)
    where
      is_kept : k ≡ j → verdict s.core.objects w ≡ Ok clean
      is_kept same =
          let r = kept_from k (Some v) s.watchers w (ap (λ y. found y (with_kept k (Some v) s.watchers)) same ∙ g) in
          subst (λ y. verdict s.core.objects y ≡ Ok clean) r.2 (kept_is_clean s.core.objects r.0 v (plain r.0 r.1) (found_so r.0 r.1))

      by_key : (b : Bool) → is_key k j ≡ b → (is_known known (Some k) j ≡ true) ⊎ (Some k ≡ Some j) → verdict s.core.objects w ≡ Ok clean
      by_key true e x = is_kept (key_is k j e)
      by_key false e (inl x) = h j x untold w (sym (kept-other k j (Some v) s.watchers (λ same. true≢false (sym (is_itself k) ∙ subst (λ y. is_key k y ≡ false) same e))) ∙ g)
      by_key false e (inr at) = let same : k ≡ j = cc in is_kept same

  pub clean_fired : (known : Known) (u : link.State) → u ≡ keeping_at k v s → AreClean known (Some k) told s.core.objects s.watchers → AreClean (known_here known) (Some k) told u.core.objects u.watchers
  clean_fired known u e h = subst (λ (x : link.State). AreClean (known_here known) (Some k) told x.core.objects x.watchers) (sym e) (kept_clean known h)
