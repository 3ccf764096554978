use Rattle.ng_digest.proofs.Why.{why_infdig, why_fire_limit, why_async_limit, why_faulted, why_settled, why_report}
use Rattle.ng_digest.proofs.Stop.{digest_plain}
use Rattle.ng_digest.proofs.Fresh.{digest_fresh}
use Rattle.ng_digest.proofs.rounds.digest.Goals as goal

pub returns : goal.returns
returns g c =
    let m = g.W.World.moves in
    let run = c.run.ensures.run in
    record {
      short = run;
      plain = digest_plain m.machine g.met.W.World.laws run c.requires.log c.requires.forgotten;
      fresh = digest_fresh m.machine g.met.W.World.laws run c.requires.forgotten c.requires.log;
      infdig = why_infdig m.machine run c.requires.log;
      fire_limit = why_fire_limit m.machine run c.requires.log;
      async_limit = why_async_limit m.machine g.met.W.World.laws run c.requires.log;
      faulted = why_faulted m.machine run c.requires.log;
      settled = why_settled m.machine run c.requires.log;
      report = why_report m.machine run;
      rests = c.run.ensures.rests;
      worn = c.run.ensures.worn;
    }
