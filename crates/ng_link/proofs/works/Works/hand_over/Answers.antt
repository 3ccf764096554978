use Rattle.std.proofs.Common.{◌≡◌, ap, length, arith}
use Rattle.ng_core.specs.State as act
use Rattle.ng_link.specs.Calls.{with_core}
use Rattle.ng_link.specs.State.{state_of}
use Rattle.ng_link.proofs.Same.{core_stands}
use Rattle.ng_link.proofs.works.Works.hand_over.Goals as goal

pub returns-clause-state : goal.returns-clause-state
returns-clause-state c = ap (λ (s : act.State). with_core s (state_of c.args.self.now)) c.hand_over.ensures.run

pub returns-clause-stands : goal.returns-clause-stands
returns-clause-stands c =
    let new = c.hand_over.new.self in
    let serial : new.serial.0 ≡ c.args.self.now.core.serial.0 = ap (λ (s : act.State). s.serial) c.hand_over.ensures.run in
    let objects : length new.store ≡ length c.args.self.now.core.store = ap length c.hand_over.ensures.store in
    core_stands c.args.self.now new (omega (arith, serial)) (omega (arith, objects))
