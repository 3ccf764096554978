use Rattle.ng_watch.proofs.testing.verdict_of.Goals as goal

pub returns-in-TwoWay : goal.returns-in-TwoWay
returns-in-TwoWay c = rw c.in-TwoWay.is c.two_way_verdict.ensures
