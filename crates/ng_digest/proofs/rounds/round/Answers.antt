use Rattle.std.proofs.Common.{sym, ◌∙◌, subst, rules, false, true}
use Rattle.ng_digest.specs.Short.{many_tasks, many_fires, closed_clean, closed_dirty, came_to_end, cut_short}
use Rattle.ng_digest.specs.declared.rounds.Walked.TheVariants as walk
use Rattle.ng_digest.proofs.rounds.round.Goals as goal
use Rattle.ng_digest.proofs.rounds.round.Goals.{in-ToEnd, in-Stopped}
use Rattle.ng_digest.specs.Short.{Drains, Round}
use Rattle.ng_digest.specs.declared.rounds.RoundEnd.TheVariants as ends

pub returns-then-branch-clause-run : goal.returns-then-branch-clause-run
returns-then-branch-clause-run g c =
    let m = g.W.World.moves in
    many_tasks (subst (λ p. Drains m.machine p true (m.at c.drain.new.w)) c.start_round.ensures.step (subst (λ b. Drains m.machine (m.at c.start_round.new.self) b (m.at c.drain.new.w)) c.if-branch.true c.in_ok-drain.ensures.run))

pub returns-in-Limit-clause-run : goal.returns-in-Limit-clause-run
returns-in-Limit-clause-run g c =
    let m = g.W.World.moves in
    many_fires {q = m.at c.drain.new.w} (subst (λ p. Drains m.machine p false (m.at c.drain.new.w)) c.start_round.ensures.step (subst (λ b. Drains m.machine (m.at c.start_round.new.self) b (m.at c.drain.new.w)) c.if-branch.false c.in_ok-drain.ensures.run)) (search rules)

pub returns-then-dirty-clause-run : goal.returns-then-dirty-clause-run
returns-then-dirty-clause-run g c =
    let m = g.W.World.moves in
    let drained = subst (λ p. Drains m.machine p false (m.at c.drain.new.w)) c.start_round.ensures.step (subst (λ b. Drains m.machine (m.at c.start_round.new.self) b (m.at c.drain.new.w)) c.if-branch.false c.in_ok-drain.ensures.run) in
    let dirty = sym c.close_round-dirty.ensures.answer ∙ c.if-dirty.true in
    subst (Round m.machine (m.at c.args.w.now) ends.Busy) (sym c.close_round-dirty.ensures.step)
    (elim c.match-branch-3.branch [
      | in-ToEnd w ↦ closed_dirty {q = m.at c.drain.new.w} {r = m.at c.walk.new.w} drained (search rules) came_to_end dirty
      | in-Stopped w ↦ closed_dirty {q = m.at c.drain.new.w} {r = m.at c.walk.new.w} drained (search rules) cut_short dirty
    ])

pub returns-else-dirty-clause-run : goal.returns-else-dirty-clause-run
returns-else-dirty-clause-run g c =
    let m = g.W.World.moves in
    let drained = subst (λ p. Drains m.machine p false (m.at c.drain.new.w)) c.start_round.ensures.step (subst (λ b. Drains m.machine (m.at c.start_round.new.self) b (m.at c.drain.new.w)) c.if-branch.false c.in_ok-drain.ensures.run) in
    let clean = sym c.close_round-dirty.ensures.answer ∙ c.if-dirty.false in
    subst (Round m.machine (m.at c.args.w.now) (ends.Quiet c.match-branch-3.cut)) (sym c.close_round-dirty.ensures.step)
    (elim c.match-branch-3.branch [
      | in-ToEnd w ↦ closed_clean {q = m.at c.drain.new.w} {r = m.at c.walk.new.w} {e = walk.ToEnd} drained (search rules) (rw w.cut-is came_to_end) clean
      | in-Stopped w ↦ closed_clean {q = m.at c.drain.new.w} {r = m.at c.walk.new.w} {e = walk.Stopped} drained (search rules) (rw w.cut-is cut_short) clean
    ])
