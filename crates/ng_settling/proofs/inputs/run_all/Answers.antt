use Rattle.std.proofs.Common.{◌<◌, ◌+◌, ◌∙◌, List, ap, drop, map, subst, sym}
use Rattle.std.proofs.lemmas.List.{drop_all}
use Rattle.ng_language.specs.Trees.{Trees}
use Rattle.ng_parse.specs.ProgramOf.{program}
use Rattle.ng_build.proofs.Loops.{next_seen}
use Rattle.ng_link.specs.State.{State, state_of}
use Rattle.ng_settling.specs.Inputs.{all_run}
use Rattle.ng_settling.proofs.inputs.run_all.Goals as goal

pub loop-p-preserved : goal.loop-p-preserved
loop-p-preserved c =
    let before = c.loop-p.invariant in
    let one = c.in_ok-run_one.ensures in
    let programs = c.args.programs.now in
    let i = c.loop-p.p-index in
    let now = state_of c.loop-p.works in
    let scope = c.args.scope.0 in
    let rest = map program (drop (i + 1) programs) in
    record {
      whole = one.whole;
      scope = subst (λ n. scope < n) (sym one.count) before.scope;
      state = ap (λ (s : State). all_run scope rest s) one.state
          ∙ (sym (ap (λ (ps : List Trees). all_run scope ps now) (next_seen program programs i c.p-item.result c.loop-p-test.true c.p-item.is)) ∙ before.state);
      linked = one.linked ∙ before.linked;
      templates = c.run_one.ensures.templates ∙ before.templates;
    }

pub returns-clause-state : goal.returns-clause-state
returns-clause-state c =
    let programs = c.args.programs.now in
    let now = state_of c.loop-p.works in
    sym (ap (λ xs. all_run c.args.scope.0 (map program xs) now) (drop_all c.loop-p.p-index programs c.loop-p-test.false)) ∙ c.loop-p.invariant.state
