use Rattle.std.proofs.Common.{arith, sym, ap, ◌∙◌}
use Rattle.ng_digest.proofs.Stages.{may_advance, not_dirty}
use Rattle.ng_digest.proofs.Steps.{was_tested, dirty_found, stop_found, passed_found, stage_dirty, stage_passed, stage_stopped}
use Rattle.ng_digest.proofs.Passing.{counts_passed, fewer_then, passed_none, passed_then, stage_came, stage_ended}
use Rattle.ng_digest.proofs.rounds.next_dirty.Goals as goal

pub test-tested-requires-clause-stage : goal.test-tested-requires-clause-stage
test-tested-requires-clause-stage g c = stage_came g.W.World.moves.machine c.in_ok-advance.ensures.way c.if-branch.true

pub returns-in-Dirty-clause-run : goal.returns-in-Dirty-clause-run
returns-in-Dirty-clause-run g c =
    let m = g.W.World.moves in
    c.loop-w.invariant.run _ _ (passed_then m.machine c.in_ok-advance.ensures.way c.if-branch.true (λ x e o a. dirty_found m.machine x (m.at c.advance.new.self) _ e o a c.in-Dirty.ensures.answer c.in-Dirty.ensures.step))

pub returns-in-Dirty-clause-stage : goal.returns-in-Dirty-clause-stage
returns-in-Dirty-clause-stage g c = let m = g.W.World.moves in stage_dirty m.machine (m.at c.advance.new.self) (m.at c.test-tested.new.self) c.in-Dirty.ensures.answer c.in-Dirty.ensures.step

pub returns-then-remembered-clause-run : goal.returns-then-remembered-clause-run
returns-then-remembered-clause-run g c =
    let m = g.W.World.moves in
    let clean = not_dirty _ _ c.in-Clean.is c.test-tested.ensures.answer in
    let tested = was_tested _ _ c.in-Clean.is c.test-tested.ensures.step in
    let same = sym c.last_dirty-remembered.ensures ∙ c.if-remembered.true in
    c.loop-w.invariant.run _ _ (passed_then m.machine c.in_ok-advance.ensures.way c.if-branch.true (λ x e o a. stop_found m.machine x (m.at c.advance.new.self) _ e o a same clean tested))

pub returns-then-remembered-clause-stage : goal.returns-then-remembered-clause-stage
returns-then-remembered-clause-stage g c =
    let m = g.W.World.moves in
    let clean = not_dirty _ _ c.in-Clean.is c.test-tested.ensures.answer in
    let tested = was_tested _ _ c.in-Clean.is c.test-tested.ensures.step in
    stage_stopped m.machine (m.at c.advance.new.self) (m.at c.test-tested.new.self) (sym c.last_dirty-remembered.ensures ∙ c.if-remembered.true) clean tested

pub loop-w-smaller : goal.loop-w-smaller
loop-w-smaller g c =
    let m = g.W.World.moves in
    let clean = not_dirty _ _ c.in-Clean.is c.test-tested.ensures.answer in
    let tested = was_tested _ _ c.in-Clean.is c.test-tested.ensures.step in
    fewer_then m.machine g.met.W.World.laws c.in_ok-advance.ensures.way c.if-branch.true (m.at c.test-tested.new.self) tested clean

pub loop-w-preserved : goal.loop-w-preserved
loop-w-preserved g c =
    let m = g.W.World.moves in
    let clean = not_dirty _ _ c.in-Clean.is c.test-tested.ensures.answer in
    let tested = was_tested _ _ c.in-Clean.is c.test-tested.ensures.step in
    let other = sym c.last_dirty-remembered.ensures ∙ c.if-remembered.false in
    let counts = counts_passed m.machine c.in_ok-advance.ensures.way in
    record {
      stage = may_advance _ _ (stage_passed m.machine (m.at c.advance.new.self) (m.at c.test-tested.new.self) other clean tested);
      holds = was_tested _ _ c.in-Clean.is c.test-tested.ensures.holds;
      rounds = grind (arith, ap (λ p. p.log) tested, counts.0);
      fires = grind (arith, ap (λ p. p.log) tested, counts.1);
      run = λ found end d. c.loop-w.invariant.run found end (passed_then m.machine c.in_ok-advance.ensures.way c.if-branch.true (λ x e o a. passed_found m.machine x (m.at c.advance.new.self) _ _ _ e o a other clean tested d));
    }

pub returns-clause-run : goal.returns-clause-run
returns-clause-run g c = c.loop-w.invariant.run _ _ (passed_none g.W.World.moves.machine c.in_ok-advance.ensures.way c.if-branch.false)

pub returns-clause-stage : goal.returns-clause-stage
returns-clause-stage g c = stage_ended g.W.World.moves.machine c.in_ok-advance.ensures.way c.if-branch.false

pub returns-in-Dirty-clause-fires : goal.returns-in-Dirty-clause-fires
returns-in-Dirty-clause-fires g c =
    let counts = counts_passed g.W.World.moves.machine c.in_ok-advance.ensures.way in
    ap (λ p. p.log.fires) c.in-Dirty.ensures.step ∙ counts.1 ∙ c.loop-w.invariant.fires

pub returns-then-remembered-clause-fires : goal.returns-then-remembered-clause-fires
returns-then-remembered-clause-fires g c =
    let counts = counts_passed g.W.World.moves.machine c.in_ok-advance.ensures.way in
    let tested = was_tested _ _ c.in-Clean.is c.test-tested.ensures.step in
    ap (λ p. p.log.fires) tested ∙ counts.1 ∙ c.loop-w.invariant.fires

pub returns-clause-fires : goal.returns-clause-fires
returns-clause-fires g c =
    let counts = counts_passed g.W.World.moves.machine c.in_ok-advance.ensures.way in
    counts.1 ∙ c.loop-w.invariant.fires

pub returns-in-Dirty-clause-rounds : goal.returns-in-Dirty-clause-rounds
returns-in-Dirty-clause-rounds g c =
    let counts = counts_passed g.W.World.moves.machine c.in_ok-advance.ensures.way in
    ap (λ p. p.log.dirty_rounds) c.in-Dirty.ensures.step ∙ counts.0 ∙ c.loop-w.invariant.rounds

pub returns-then-remembered-clause-rounds : goal.returns-then-remembered-clause-rounds
returns-then-remembered-clause-rounds g c =
    let counts = counts_passed g.W.World.moves.machine c.in_ok-advance.ensures.way in
    let tested = was_tested _ _ c.in-Clean.is c.test-tested.ensures.step in
    ap (λ p. p.log.dirty_rounds) tested ∙ counts.0 ∙ c.loop-w.invariant.rounds

pub returns-clause-rounds : goal.returns-clause-rounds
returns-clause-rounds g c =
    let counts = counts_passed g.W.World.moves.machine c.in_ok-advance.ensures.way in
    counts.0 ∙ c.loop-w.invariant.rounds
