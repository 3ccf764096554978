-- Between a test and its fire.
use Rattle.std.proofs.Common.{◌≡◌, Bool, true, false, [], ◌∷◌, None, Some, refl, ap, sym, subst, ◌∙◌, cond, find}
use Rattle.std.specs.Prelude.{option_map}
use Rattle.std.specs.Map.{keys_of}
use Rattle.ng_base.specs.declared.path.Key.{Key}
use Rattle.ng_digest.specs.Machine.{Verdict, found_clean, found_dirty, found_faulted, above, verdict_at}
use Rattle.ng_digest.specs.Place.{Answers, OnTested, stage_tested, state_tested}
use Rattle.ng_digest.specs.Progress.{Standing, test_done}
use Rattle.ng_digest.specs.declared.world.Tested.{Tested}
use Rattle.ng_digest.specs.declared.world.Tested.TheVariants.{Clean, Dirty, Faulted, Memory}
use Rattle.ng_digest.specs.declared.world.Stage.TheVariants.{AtKey, Pending}
use Rattle.ng_behaviour.specs.Keys.{is_above}
use Rattle.ng_watch.specs.Seen.{Watcher}
use Rattle.ng_watch.specs.Table.{Table, first_key, key_after}
use Rattle.ng_base.specs.Views.{ViewTree}
use Rattle.ng_value.specs.Snaps.{snap_of}
use Rattle.ng_fire.specs.Fires.{fired as fires}
use Rattle.ng_page.specs.PageMachine.{State, page_machine, handed_on_at, fired_to, fired_by, fired}
use Rattle.ng_commands.specs.BetweenSteps.{WorksAre}
use Rattle.ng_page.specs.PlaceOf.{IsAtStage, IsAtWatcher, Holds, OnDirty, handed_on_from, state_of}
use Rattle.ng_page.specs.KnownClean.{AreClean}
use Rattle.ng_page.specs.declared.engine.Engine.{Engine}
use Rattle.ng_page.specs.declared.known.Known.{Known}

-- only a dirty test asks for a fire
pub stage_after : (same : Bool) (v : Verdict) (e : Engine) → (v ≡ found_dirty → IsAtStage Pending e) → IsAtStage (stage_tested same v) e
stage_after same found_dirty e h = h refl
stage_after true found_clean e h = tt
stage_after true found_faulted e h = tt
stage_after false found_clean e h = tt
stage_after false found_faulted e h = tt

-- the least key that passes
pub found_key : (p : Key → Bool) (t : Table) → find p (keys_of t) ≡ option_map {T = Key × Watcher} {U = Key} (λ e. e.0) (find (λ e. p e.0) t)
found_key p [] = refl
found_key p (e ∷ t) = by_test (p e.0) (found_key p t)
  where
    by_test : (b : Bool) → find p (keys_of t) ≡ option_map {T = Key × Watcher} {U = Key} (λ x. x.0) (find (λ x. p x.0) t)
        → cond b (Some e.0) (find p (keys_of t)) ≡ option_map {T = Key × Watcher} {U = Key} (λ x. x.0) (cond b (Some e) (find (λ x. p x.0) t))
    by_test true h = refl
    by_test false h = h

pub first_next : (t : Table) → find (above page_machine None) (keys_of t) ≡ first_key t
first_next [] = refl
first_next (e ∷ t) = refl

pub after_next : (k : Key) (t : Table) → find (above page_machine (Some k)) (keys_of t) ≡ key_after k t
after_next k t = found_key (is_above k) t

-- the fire of what was handed on
pub fired_on : (s u : State) (k : Key) (t : ViewTree) → Some t ≡ handed_on_at s k → u ≡ fired_to k (fires k t s.works) s → u ≡ fired s k
fired_on s u k t e h = h ∙ ap (λ o. fired_by k o s) e

holds_at : (e : Engine) (q : Standing Key) (known : Known) (same : Bool) (v : Verdict) → WorksAre e.works → AreClean known q.cursor e.told.keys (state_of e).works.core.objects (state_of e).works.watchers → q ≡ test_done same v e.progress → (v ≡ found_dirty → IsAtStage Pending (record e { known = known; progress = q })) → Holds (record e { known = known; progress = q })
holds_at e q known same v works clean step asks = record {
  works = works;
  stage = subst (λ g. IsAtStage g (record e { known = known; progress = q })) (sym (ap (λ x. x.stage) step)) (stage_after same v (record e { known = known; progress = q }) asks);
  known = clean;
}

not_both : (v : Verdict) (P : Type 0) (w : Verdict) → v ≡ w → v ≡ found_dirty → (w ≡ found_dirty → P) → P
not_both v P w e d f = f (sym e ∙ d)

-- after a dirty test its snapshot is at hand
pub holds_tested : (o e : Engine) (q : Standing Key) (known : Known) (same : Bool) (tested : Tested) → o.progress.stage ≡ AtKey → Holds o
    → Answers (verdict_at page_machine (state_of o) o.progress.cursor) tested
    → OnTested tested (state_of e ≡ state_tested page_machine (state_of o) o.progress.cursor (verdict_at page_machine (state_of o) o.progress.cursor))
    → e.progress ≡ o.progress
    → OnDirty tested (option_map snap_of e.pending ≡ handed_on_from (state_of o) o.progress.cursor)
    → OnTested tested (WorksAre e.works)
    → OnTested tested (AreClean known o.progress.cursor e.told.keys (state_of e).works.core.objects (state_of e).works.watchers)
    → ((v : Verdict) → Answers v tested → OnTested tested (q ≡ test_done same v e.progress))
    → OnTested tested (Holds (record e { known = known; progress = q }))
holds_tested o e q known same (Memory m) stage h answer state progress handed standing clean step = tt
holds_tested o e q known same Clean stage h answer state progress handed standing clean step =
    holds_at e q known same (verdict_at page_machine (state_of o) o.progress.cursor) standing (subst (λ c. AreClean known c e.told.keys (state_of e).works.core.objects (state_of e).works.watchers) (sym (ap (λ x. x.cursor) (step (verdict_at page_machine (state_of o) o.progress.cursor) answer) ∙ ap (λ x. x.cursor) progress)) clean) (step (verdict_at page_machine (state_of o) o.progress.cursor) answer)
    (λ d. not_both (verdict_at page_machine (state_of o) o.progress.cursor) (IsAtStage Pending (record e { known = known; progress = q })) found_clean answer d (λ x. cc))
holds_tested o e q known same Faulted stage h answer state progress handed standing clean step =
    holds_at e q known same (verdict_at page_machine (state_of o) o.progress.cursor) standing (subst (λ c. AreClean known c e.told.keys (state_of e).works.core.objects (state_of e).works.watchers) (sym (ap (λ x. x.cursor) (step (verdict_at page_machine (state_of o) o.progress.cursor) answer) ∙ ap (λ x. x.cursor) progress)) clean) (step (verdict_at page_machine (state_of o) o.progress.cursor) answer)
    (λ d. not_both (verdict_at page_machine (state_of o) o.progress.cursor) (IsAtStage Pending (record e { known = known; progress = q })) found_faulted answer d (λ x. cc))
holds_tested o e q known same Dirty stage h answer state progress handed standing clean step =
    let there : IsAtWatcher o.progress.cursor (state_of o).works.watchers = (subst (λ g. IsAtStage g o) stage h.stage).0 in
    let came : q.cursor ≡ o.progress.cursor = ap (λ x. x.cursor) (step (verdict_at page_machine (state_of o) o.progress.cursor) answer) ∙ ap (λ x. x.cursor) progress in
    let still : state_of e ≡ state_of o = state ∙ ap (state_tested page_machine (state_of o) o.progress.cursor) answer in
    holds_at e q known same (verdict_at page_machine (state_of o) o.progress.cursor) standing (subst (λ c. AreClean known c e.told.keys (state_of e).works.core.objects (state_of e).works.watchers) (sym (ap (λ x. x.cursor) (step (verdict_at page_machine (state_of o) o.progress.cursor) answer) ∙ ap (λ x. x.cursor) progress)) clean) (step (verdict_at page_machine (state_of o) o.progress.cursor) answer)
    (λ d. (
      subst (λ x. IsAtWatcher x (state_of e).works.watchers) (sym came) (subst (λ x. IsAtWatcher o.progress.cursor x.works.watchers) (sym still) there),
      handed ∙ (ap (λ x. handed_on_from x o.progress.cursor) (sym still) ∙ ap (handed_on_from (state_of e)) (sym came)),
    ))

pub on_tested : {A B : Type 0} (r : Tested) → OnTested r A → (A → B) → OnTested r B
on_tested Clean h f = f h
on_tested Dirty h f = f h
on_tested Faulted h f = f h
on_tested (Memory e) h f = tt

pub on_dirty : {A B : Type 0} (r : Tested) → OnDirty r A → (A → B) → OnDirty r B
on_dirty Clean h f = tt
on_dirty Dirty h f = f h
on_dirty Faulted h f = tt
on_dirty (Memory e) h f = tt
