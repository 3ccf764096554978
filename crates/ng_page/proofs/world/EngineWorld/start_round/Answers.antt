use Rattle.std.proofs.Common.{ap, subst, sym}
use Rattle.ng_link.specs.State as link
use Rattle.ng_page.specs.PlaceOf.{IsAtStage}
use Rattle.ng_page.proofs.StaysClean.{clean_begun}
use Rattle.ng_page.proofs.world.EngineWorld.start_round.Goals as goal

pub returns-clause-holds : goal.returns-clause-holds
returns-clause-holds c =
    let e = c.args.self.now in
    let s = link.state_of e.works in
    let step = c.begin_round.ensures in
    record {
      works = c.requires.holds.works;
      stage = subst (λ g. IsAtStage g (record e { known = c.on_round.new.known; progress = c.begin_round.new.self })) (sym (ap (λ x. x.stage) step)) tt;
      known = clean_begun e.known c.on_round.new.known e.progress.cursor c.begin_round.new.self.cursor e.told.keys s.core.objects s.watchers c.on_round.ensures (ap (λ x. x.cursor) step) c.requires.holds.known;
    }
