use Rattle.std.proofs.Common.{◌≡◌, ◌∙◌, ◌+◌, ℕ, List, ◌∷◌, ap, drop, map, sym, arith}
use Rattle.ng_steps.proofs.Cuts.{cut_fault, cut_steps, full_fault, full_steps, made_fault, made_steps, passed_fault, passed_steps, stopped_fault, stopped_steps, turn_fault, turn_steps}
use Rattle.ng_build.specs.Linking.{LinkStep, fault_in, steps_within}
use Rattle.ng_build.specs.StepOf.{step_of}
use Rattle.ng_build.specs.declared.ordering.LinkStep as code
use Rattle.ng_steps.proofs.linking.steps_within.Goals.{in-Makes+else-left-eq0, in_default}
use Rattle.ng_steps.proofs.linking.steps_within.Goals as goal

pub returns-then-left-eq0-clause-steps : goal.returns-then-left-eq0-clause-steps
returns-then-left-eq0-clause-steps c =
    let l = c.loop-i in
    let x : code.LinkStep = c.index-steps-i.result in
    cut_steps c.args.steps.now l.i l.left x c.loop-i-test.true c.index-steps-i.is _ (full_steps l.left x _ c.in-Makes.is c.if-left-eq0.true) l.invariant.steps

pub returns-then-left-eq0-clause-fault : goal.returns-then-left-eq0-clause-fault
returns-then-left-eq0-clause-fault c =
    let l = c.loop-i in
    let x : code.LinkStep = c.index-steps-i.result in
    cut_fault c.args.steps.now l.i l.left x c.loop-i-test.true c.index-steps-i.is _ _ (full_fault l.left x _ c.in-Makes.is c.if-left-eq0.true) l.invariant.fault

pub returns-in-Stops-clause-steps : goal.returns-in-Stops-clause-steps
returns-in-Stops-clause-steps c =
    let l = c.loop-i in
    let x : code.LinkStep = c.index-steps-i.result in
    cut_steps c.args.steps.now l.i l.left x c.loop-i-test.true c.index-steps-i.is _ (stopped_steps l.left x _ c.in-Stops.is) l.invariant.steps

pub returns-in-Stops-clause-fault : goal.returns-in-Stops-clause-fault
returns-in-Stops-clause-fault c =
    let l = c.loop-i in
    let x : code.LinkStep = c.index-steps-i.result in
    cut_fault c.args.steps.now l.i l.left x c.loop-i-test.true c.index-steps-i.is _ _ (stopped_fault l.left x _ c.in-Stops.is) l.invariant.fault

pub loop-i-preserved : goal.loop-i-preserved
loop-i-preserved c =
    let l = c.loop-i in
    let x : code.LinkStep = c.index-steps-i.result in
    let n : ℕ = c.match-steps-i.left in
    let rest : List LinkStep = map step_of (drop (l.i + 1) c.args.steps.now) in
    let goes : steps_within l.left (step_of x ∷ rest) ≡ step_of x ∷ steps_within n rest = elim c.match-steps-i.branch [
      | in-Makes+else-left-eq0 w ↦ made_steps l.left n x rest w.in-Makes.is (let some = w.if-left-eq0.false in let less = w.left-is in omega (arith, some, less))
      | in_default w ↦ passed_steps l.left x rest w.in_default.not-Makes w.in_default.not-Stops ∙ ap (λ (k : ℕ). step_of x ∷ steps_within k rest) (sym w.left-is)
    ] in
    let meets : fault_in l.left (step_of x ∷ rest) ≡ fault_in n rest = elim c.match-steps-i.branch [
      | in-Makes+else-left-eq0 w ↦ made_fault l.left n x rest w.in-Makes.is (let some = w.if-left-eq0.false in let less = w.left-is in omega (arith, some, less))
      | in_default w ↦ passed_fault l.left x rest w.in_default.not-Makes w.in_default.not-Stops ∙ ap (λ (k : ℕ). fault_in k rest) (sym w.left-is)
    ] in
    record {
      steps = turn_steps c.args.steps.now l.i l.left x c.loop-i-test.true c.index-steps-i.is n _ goes l.invariant.steps;
      fault = turn_fault c.args.steps.now l.i l.left x c.loop-i-test.true c.index-steps-i.is n _ meets l.invariant.fault;
    }
