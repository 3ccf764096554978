-- A walk over the watchers is one over the machine's keys, and what it finds is at hand for the test.
use Rattle.std.proofs.Common.{◌≡◌, List, ℕ, zero, Bool, true, false, true≢false, Option, None, Some, Result, Ok, Err, refl, ap, sym, subst, ◌∙◌, find}
use Rattle.std.specs.Prelude.{IsSome, is_some, option_map}
use Rattle.std.specs.Map.{keys_of}
use Rattle.ng_base.specs.Objects.{Object}
use Rattle.ng_base.specs.declared.fault.Fault.{Fault}
use Rattle.ng_base.specs.declared.fault.Memory.{Memory as Wanted}
use Rattle.ng_base.specs.declared.fault.Memory.TheVariants.{Refused, Worn}
use Rattle.ng_base.specs.declared.path.Key.{Key}
use Rattle.ng_digest.specs.Laws.{InOrder}
use Rattle.ng_digest.specs.Machine.{above, is_same}
use Rattle.ng_digest.specs.Passing.{Passes}
use Rattle.ng_digest.specs.Place.{WhenWorn, advanced, at_next, state_tested}
use Rattle.ng_digest.specs.Progress.{Standing, place, came_to, passed}
use Rattle.ng_digest.proofs.Passing.{Goes, goes_to, goes_by, goes_passes}
use Rattle.ng_link.specs.State as link
use Rattle.ng_behaviour.specs.Keys.{is_key}
use Rattle.ng_watch.specs.Seen.{Watcher}
use Rattle.ng_watch.specs.Table.{Table, found}
use Rattle.ng_watch.specs.Verdicts.{Judged, clean, dirty, verdict}
use Rattle.ng_watch.specs.Walks.{Arrival, behind_all, at_watcher, Walks, came_to_end, came_to_watcher, passed_watcher, next_of, ends_at}
use Rattle.ng_watch.specs.declared.watch.Verdict.{Verdict}
use Rattle.ng_page.specs.PageLaws.{is_itself, key_is}
use Rattle.ng_page.specs.PageMachine.{State, found_as, verdict_of, verdict_at, tell, tested_of, tested, handed_on, handed_on_of, handed_on_at, page_machine}
use Rattle.ng_commands.specs.BetweenSteps.{WorksAre}
use Rattle.ng_page.specs.PlaceOf.{IsAtStage, IsAtWatcher, Holds, judged_in, judged_at, seen_found, key_at, last_at, found_there, state_of}
use Rattle.ng_page.specs.KnownClean.{AreClean}
use Rattle.ng_page.specs.declared.engine.Engine.{Engine}
use Rattle.ng_page.specs.declared.known.Known.{Known}
use Rattle.ng_page.proofs.Stages.{first_next, after_next}

-- where no counter is told, none is asked for
pub nothing_worn : (e : Wanted) → WhenWorn e (Unit {0})
nothing_worn Refused = tt
nothing_worn Worn = tt

-- ---- what was found is what the test finds

module _ (s : State) (k : Key) (r : Result Judged Fault) where
  verdict_from : (o : Option Watcher) → option_map (verdict s.works.core.objects) o ≡ Some r → verdict_of s o ≡ found_as r
  verdict_from None e = cc
  verdict_from (Some w) e = let same : verdict s.works.core.objects w ≡ r = cc in ap found_as same

  tested_from : (o : Option Watcher) → option_map (verdict s.works.core.objects) o ≡ Some r → tested_of k o s ≡ tell k r s
  tested_from None e = cc
  tested_from (Some w) e = let same : verdict s.works.core.objects w ≡ r = cc in ap (λ x. tell k x s) same

  handed_from : (o : Option Watcher) → option_map (verdict s.works.core.objects) o ≡ Some r → handed_on_of s o ≡ handed_on r
  handed_from None e = cc
  handed_from (Some w) e = let same : verdict s.works.core.objects w ≡ r = cc in ap handed_on same

pub verdict_ahead : (s : State) (k : Key) (r : Result Judged Fault) → judged_in s.works k ≡ Some r → verdict_at s k ≡ found_as r
verdict_ahead s k r e = verdict_from s k r (found k s.works.watchers) e

pub handed_ahead : (s : State) (k : Key) (r : Result Judged Fault) → judged_in s.works k ≡ Some r → handed_on_at s k ≡ handed_on r
handed_ahead s k r e = handed_from s k r (found k s.works.watchers) e

state_by : (s : State) (k : Key) (r : Result Judged Fault) → tested s k ≡ tell k r s → tell k r s ≡ state_tested page_machine s (Some k) (found_as r)
state_by s k (Ok clean) t = sym t
state_by s k (Ok (dirty x)) t = refl
state_by s k (Err f) t = sym t

pub state_ahead : (s : State) (k : Key) (r : Result Judged Fault) → judged_in s.works k ≡ Some r → tell k r s ≡ state_tested page_machine s (Some k) (verdict_at s k)
state_ahead s k r e = state_by s k r (tested_from s k r (found k s.works.watchers) e) ∙ ap (state_tested page_machine s (Some k)) (sym (verdict_ahead s k r e))

-- ---- a walk

-- what a walk says of the watcher to which it came
abbrev pub Reaches : List Object → Table → Arrival → Type 0
Reaches objects t (behind_all c) = Unit {0}
Reaches objects t (at_watcher k r) = option_map (verdict objects) (found k t) ≡ Some r

pub walk_reaches : (objects : List Object) (t : Table) (last : Option Key) {c : Option Key} {n : ℕ} {a : Arrival} → Walks objects t last c n a → Reaches objects t a
walk_reaches objects t last (came_to_end e) = tt
walk_reaches objects t last (came_to_watcher e f) = ap (option_map (verdict objects)) f
walk_reaches objects t last (passed_watcher e f v o rest) = walk_reaches objects t last rest

mapped_some : (f : Watcher → Result Judged Fault) (o : Option Watcher) (r : Result Judged Fault) → option_map f o ≡ Some r → IsSome o
mapped_some f None r e = cc
mapped_some f (Some w) r e = refl

-- once the cursor came to where a walk ended, what was found there is at hand
pub holds_came : (e : Engine) (q : Standing Key) (ahead : Result Verdict Fault) (known : Known) (n : ℕ) (a : Arrival) → WorksAre e.works
    → q ≡ came_to (key_at a) (passed n (last_at a) e.progress)
    → seen_found ahead ≡ found_there a (seen_found e.ahead)
    → Reaches (link.state_of e.works).core.objects (link.state_of e.works).watchers a
    → AreClean known q.cursor e.told.keys (link.state_of e.works).core.objects (link.state_of e.works).watchers
    → Holds (record e { known = known; progress = q; ahead = ahead })
holds_came e q ahead known n (behind_all c) works step seen reached still = record {
  works = works;
  stage = subst (λ g. IsAtStage g (record e { known = known; progress = q; ahead = ahead })) (sym (ap (λ x. x.stage) step)) tt;
  known = still;
}
holds_came e q ahead known n (at_watcher k r) works step seen reached still =
    let t = (link.state_of e.works).watchers in
    let there : IsSome (found k t) = mapped_some (verdict (link.state_of e.works).core.objects) (found k t) r reached in
    record {
      works = works;
      stage = subst (λ g. IsAtStage g (record e { known = known; progress = q; ahead = ahead })) (sym (ap (λ x. x.stage) step)) (
        subst (λ o. IsAtWatcher o t) (sym (ap (λ x. x.cursor) step)) there,
        subst (λ o. judged_at (state_of e) o ≡ Some (seen_found ahead)) (sym (ap (λ x. x.cursor) step)) (reached ∙ ap (λ x. Some x) (sym seen)),
      );
      known = still;
    }

-- two keys are the same both ways
not_same : (k l : Key) → is_key l k ≡ false → is_key k l ≡ false
not_same k l e = by_test (is_key k l) refl
  where
    by_test : (b : Bool) → is_key k l ≡ b → b ≡ false
    by_test true h = let yes : is_key l k ≡ true = subst (λ x. is_key x k ≡ true) (key_is k l h) (is_itself k) in absurd (true≢false (sym yes ∙ e))
    by_test false h = refl

not_last : (last : Option Key) (k : Key) → ends_at last k ≡ false → is_same page_machine (Some k) last ≡ false
not_last None k e = refl
not_last (Some l) k e = not_same k l e

pub next_is : (t : Table) (c : Option Key) → find (above page_machine c) (keys_of t) ≡ next_of c t
next_is t None = first_next t
next_is t (Some k) = after_next k t

walk_goes : (s : State) (last : Option Key) {c : Option Key} {n : ℕ} {a : Arrival} → Walks s.works.core.objects s.works.watchers last c n a
    → (e : Option Key) × Goes page_machine s last c n e (key_at a) × (key_at a ≡ None → e ≡ last_at a)
walk_goes s last {c = c} (came_to_end h) = (c, goes_to (next_is s.works.watchers c ∙ h), λ z. refl)
walk_goes s last {c = c} (came_to_watcher h f) = (c, goes_to (next_is s.works.watchers c ∙ h), λ z. cc)
walk_goes s last {c = c} (passed_watcher {k = k} {w = w} h f v o rest) =
    let r = walk_goes s last rest in
    (r.0, goes_by (next_is s.works.watchers c ∙ h) (ap (verdict_of s) f ∙ ap found_as v) (ap (λ x. tested_of k x s) f ∙ ap (λ x. tell k x s) v) (not_last last k o) r.1, r.2)

came_same : (a : Arrival) (e : Option Key) (n : ℕ) (p : Standing Key) → (key_at a ≡ None → e ≡ last_at a) → came_to (key_at a) (passed n e p) ≡ came_to (key_at a) (passed n (last_at a) p)
came_same (behind_all c) e n p h = ap (λ x. came_to None (passed n x p)) (h refl)
came_same (at_watcher k r) e n p h = refl

-- the keys that a walk passes are passed in the machine
pub walk_passes : (s : State) (p : Standing Key) (n : ℕ) (a : Arrival) → InOrder page_machine s → Walks s.works.core.objects s.works.watchers p.remembered p.cursor n a → Passes page_machine (place s p) (is_some (key_at a)) (place s (came_to (key_at a) (passed n (last_at a) p)))
walk_passes s p n a i d =
    let g = walk_goes s p.remembered d in
    subst (λ x. Passes page_machine (place s p) (is_some (key_at a)) (place s x)) (came_same a g.0 n p g.2) (goes_passes page_machine s p i g.1)

-- ---- a walk of one step

-- a walk that is to end at the next key ends there, or at the end, and passes none
pub steps_one : (objects : List Object) (t : Table) (last : Option Key) {c : Option Key} {n : ℕ} {a : Arrival} → last ≡ next_of c t → Walks objects t last c n a
    → (n ≡ zero) × (key_at a ≡ next_of c t) × (key_at a ≡ None → last_at a ≡ c)
steps_one objects t last same (came_to_end h) = (refl, sym h, λ z. refl)
steps_one objects t last same (came_to_watcher h f) = (refl, sym h, λ z. cc)
steps_one objects t last same (passed_watcher {k = k} h f v o rest) =
    let yes : ends_at last k ≡ true = ap (λ l. ends_at l k) (same ∙ h) ∙ is_itself k in
    absurd (true≢false (sym yes ∙ o))

pub stepped : (objects : List Object) (t : Table) (c : Option Key) {n : ℕ} {a : Arrival} → Walks objects t (next_of c t) c n a
    → (n ≡ zero) × (key_at a ≡ next_of c t) × (key_at a ≡ None → last_at a ≡ c)
stepped objects t c d = steps_one objects t (next_of c t) refl d

none_passed : (p : Standing Key) (n : ℕ) (a : Arrival) → n ≡ zero → (key_at a ≡ None → last_at a ≡ p.cursor) → came_to (key_at a) (passed n (last_at a) p) ≡ came_to (key_at a) p
none_passed p n (behind_all c) z h = ap (λ x. came_to None (passed x c p)) z ∙ ap (λ x. came_to None (passed zero x p)) (h refl)
none_passed p n (at_watcher k r) z h = ap (λ x. came_to (Some k) (passed x None p)) z

pub stepped_to : (objects : List Object) (t : Table) (p : Standing Key) (n : ℕ) (a : Arrival) → Walks objects t (next_of p.cursor t) p.cursor n a → came_to (key_at a) (passed n (last_at a) p) ≡ came_to (next_of p.cursor t) p
stepped_to objects t p n a d =
    let one = stepped objects t p.cursor d in
    none_passed p n a one.0 one.2 ∙ ap (λ o. came_to o p) one.1

-- the machine's next step is to the next key
to_place : (s : State) (p : Standing Key) (o : Option Key) → at_next (place s p) o ≡ place s (came_to o p)
to_place s p None = refl
to_place s p (Some k) = refl

pub advanced_to : (s : State) (p : Standing Key) → advanced page_machine (place s p) ≡ place s (came_to (next_of p.cursor s.works.watchers) p)
advanced_to s p = ap (at_next (place s p)) (next_is s.works.watchers p.cursor) ∙ to_place s p (next_of p.cursor s.works.watchers)
