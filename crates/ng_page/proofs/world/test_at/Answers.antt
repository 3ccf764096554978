use Rattle.std.proofs.Common.{◌≡◌, ◌∙◌, Option, Some, ap, sym, subst}
use Rattle.std.specs.Prelude.{option_map}
use Rattle.ng_base.specs.declared.path.Key.{Key}
use Rattle.ng_digest.specs.Machine.{Verdict, verdict_at}
use Rattle.ng_digest.specs.Place.{Answers, OnTested, state_tested}
use Rattle.ng_link.specs.State as link
use Rattle.ng_value.specs.Snaps.{snap_of}
use Rattle.ng_page.specs.PageMachine.{page_machine}
use Rattle.ng_page.specs.PlaceOf.{seen_of, state_of, handed_on_from, judged_in, judged_at, seen_found, OnDirty}
use Rattle.ng_page.proofs.Ahead.{verdict_ahead, state_ahead, handed_ahead}
use Rattle.ng_page.proofs.Stages.{on_tested, on_dirty}
use Rattle.ng_page.proofs.world.test_at.Goals as goal

pub returns-in-Some-clause-answer : goal.returns-in-Some-clause-answer
returns-in-Some-clause-answer c =
    let e = c.args.engine.now in
    let k : Key = c.in-Some.key.now in
    let r = seen_found c.args.found in
    let pre : judged_in (link.state_of e.works) k ≡ Some r = ap (judged_at (state_of e)) c.in-Some.ensures ∙ c.requires.judged in
    subst (λ (o : Option Key). Answers (verdict_at page_machine (state_of e) o) c.hand_on.result) c.in-Some.ensures
    (subst (λ (v : Verdict). Answers v c.hand_on.result) (sym (verdict_ahead (state_of e) k r pre)) c.hand_on.ensures.answer)

pub returns-in-Some-clause-state : goal.returns-in-Some-clause-state
returns-in-Some-clause-state c =
    let e = c.args.engine.now in
    let k : Key = c.in-Some.key.now in
    let r = seen_found c.args.found in
    let pre : judged_in (link.state_of e.works) k ≡ Some r = ap (judged_at (state_of e)) c.in-Some.ensures ∙ c.requires.judged in
    subst (λ (o : Option Key). OnTested c.hand_on.result (seen_of c.hand_on.new.works c.hand_on.new.told.keys e.faulted.keys e.probed ≡ state_tested page_machine (state_of e) o (verdict_at page_machine (state_of e) o))) c.in-Some.ensures
    (on_tested c.hand_on.result c.hand_on.ensures.state (λ h. h e.faulted.keys e.probed ∙ state_ahead (state_of e) k r pre))

pub returns-in-Some-clause-handed_on : goal.returns-in-Some-clause-handed_on
returns-in-Some-clause-handed_on c =
    let e = c.args.engine.now in
    let k : Key = c.in-Some.key.now in
    let r = seen_found c.args.found in
    let pre : judged_in (link.state_of e.works) k ≡ Some r = ap (judged_at (state_of e)) c.in-Some.ensures ∙ c.requires.judged in
    subst (λ (o : Option Key). OnDirty c.hand_on.result (option_map snap_of c.hand_on.new.pending ≡ handed_on_from (state_of e) o)) c.in-Some.ensures
    (on_dirty c.hand_on.result c.hand_on.ensures.handed_on (λ h. h ∙ sym (handed_ahead (state_of e) k r pre)))
