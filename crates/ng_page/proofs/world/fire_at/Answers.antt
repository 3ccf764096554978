use Rattle.std.proofs.Common.{◌≡◌, ◌∙◌, Option, Some, true, false, ap, sym, subst}
use Rattle.std.specs.Prelude.{option_map}
use Rattle.ng_base.specs.declared.path.Key.{Key}
use Rattle.ng_digest.specs.Machine.{fired_at}
use Rattle.ng_value.specs.Snaps.{snap_of}
use Rattle.ng_page.specs.PageMachine.{State, handed_on_at, page_machine}
use Rattle.ng_page.specs.PlaceOf.{seen_of, state_of, handed_on_from}
use Rattle.ng_commands.proofs.SitesRest.{on_ok}
use Rattle.std.proofs.lemmas.Result.{IfOk-weaker}
use Rattle.std.specs.Option.{ForSome}
use Rattle.ng_link.specs.Calls.{keeping_at}
use Rattle.ng_link.specs.State as link
use Rattle.ng_watch.specs.Laws.{is_two_way}
use Rattle.ng_watch.specs.Table.{found}
use Rattle.ng_page.specs.KnownClean.{AreClean, known_here}
use Rattle.ng_page.specs.declared.testing.Ended.{Ended}
use Rattle.ng_page.proofs.Stages.{fired_on}
use Rattle.ng_page.proofs.StaysClean.{clean_fired, dirty_from}
use Rattle.ng_page.proofs.world.fire_at.Goals as goal

pub returns-in-Some-pending-clause-state : goal.returns-in-Some-pending-clause-state
returns-in-Some-pending-clause-state c =
    let e = c.args.engine.now in
    let k : Key = c.in-Some.key.now in
    let u : State = seen_of c.fire.new.works e.told.keys c.fire.new.faulted.keys e.probed in
    let pre : Some (snap_of c.in-Some-pending.snapshot) ≡ handed_on_at (state_of e) k =
    ap (option_map snap_of) (sym c.in-Some-pending.is) ∙ (c.requires.pending ∙ ap (handed_on_from (state_of e)) (sym c.in-Some.ensures)) in
    on_ok c.fire.result c.fire.ensures.state
    (λ h. subst (λ (o : Option Key). u ≡ fired_at page_machine (state_of e) o) c.in-Some.ensures (fired_on (state_of e) u k (snap_of c.in-Some-pending.snapshot) pre (h e.told.keys e.probed)))

pub returns-in-Some-pending-clause-quiet : goal.returns-in-Some-pending-clause-quiet
returns-in-Some-pending-clause-quiet c =
    let e = c.args.engine.now in
    let s = link.state_of e.works in
    let u = link.state_of c.fire.new.works in
    let k : Key = c.in-Some.key.now in
    let v = snap_of c.in-Some-pending.snapshot in
    let pre : Some v ≡ handed_on_at (state_of e) k =
    ap (option_map snap_of) (sym c.in-Some-pending.is) ∙ (c.requires.pending ∙ ap (handed_on_from (state_of e)) (sym c.in-Some.ensures)) in
    IfOk-weaker c.fire.result (λ (x : Ended). x.quiet ≡ true → (u ≡ keeping_at k v s) × ForSome (found k s.watchers) (λ w. is_two_way w.watch.kind ≡ false))
    (λ (x : Ended). x.quiet ≡ true → AreClean e.known e.progress.cursor e.told.keys s.core.objects s.watchers → AreClean (known_here e.known) e.progress.cursor e.told.keys u.core.objects u.watchers)
    (λ x h q before.
    let two = h q in
    subst (λ (o : Option Key). AreClean (known_here e.known) o e.told.keys u.core.objects u.watchers) c.in-Some.ensures
    (clean_fired e.told.keys s k v two.1 (dirty_from (state_of e) k v pre) e.known u two.0 (subst (λ (o : Option Key). AreClean e.known o e.told.keys s.core.objects s.watchers) (sym c.in-Some.ensures) before)))
    c.fire.ensures.quiet
