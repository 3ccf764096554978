use Rattle.std.proofs.Common.{◌∙◌, ap, subst, sym}
use Rattle.ng_page.specs.KnownClean.{AreClean, known_tested}
use Rattle.ng_page.specs.PlaceOf.{state_of}
use Rattle.ng_page.specs.declared.known.Known.{Known}
use Rattle.ng_page.proofs.Stages.{holds_tested, on_tested}
use Rattle.ng_page.proofs.StaysClean.{clean_tested}
use Rattle.ng_page.proofs.world.EngineWorld.test.Goals as goal

pub returns-clause-holds : goal.returns-clause-holds
returns-clause-holds c =
    let o = c.args.self.now in
    let e = c.test_at-tested.new.engine in
    let r = c.test_at-tested.result in
    let is = c.on_test.ensures ∙ ap (known_tested r) c.test_at-tested.ensures.known in
    let clean = on_tested r (clean_tested o.known r (state_of o) (state_of e) o.progress.cursor c.test_at-tested.ensures.answer c.test_at-tested.ensures.state c.requires.holds.known)
    (λ h. subst (λ (k : Known). AreClean k o.progress.cursor e.told.keys (state_of e).works.core.objects (state_of e).works.watchers) (sym is) h) in
    holds_tested o e c.after_test.new.self c.on_test.new.known c.last_dirty-same.result r c.requires.stage c.requires.holds
    c.test_at-tested.ensures.answer c.test_at-tested.ensures.state c.test_at-tested.ensures.progress c.test_at-tested.ensures.handed_on c.test_at-tested.ensures.works clean c.after_test.ensures
