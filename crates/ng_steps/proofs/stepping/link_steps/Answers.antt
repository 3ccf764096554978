use Rattle.std.proofs.Common.{◌≡◌, ◌∙◌, ◌+◌, List, [], ◌∷◌, ap, drop, length, map, refl, subst, sym, arith}
use Rattle.std.specs.List.{AllByRecursion}
use Rattle.std.proofs.lemmas.List.{drop_all}
use Rattle.ng_base.specs.declared.name.ScopeId.{ScopeId}
use Rattle.ng_changes.proofs.Answered.{dropped}
use Rattle.ng_steps.proofs.Linkings.{begun_ground, step_more}
use Rattle.ng_steps.specs.Links.{Linking, steps_linked}
use Rattle.ng_steps.specs.LinkingOf.{linking, HasPrograms}
use Rattle.ng_instances.specs.BoundOf.{registered_of}
use Rattle.ng_build.specs.Linking.{LinkStep}
use Rattle.ng_build.specs.StepOf.{step_of}
use Rattle.ng_build.specs.declared.ordering.LinkStep as code
use Rattle.ng_steps.proofs.stepping.link_steps.Goals as goal

pub loop-step-init : goal.loop-step-init
loop-step-init c =
    let w = c.args.works.now in
    let d = c.in_ok-done.done in
    record {
      steps = λ f order has. (has, refl);
      grounded = begun_ground (length w.core.scopes) c.args.scope.0 (map (λ (n : ScopeId). n.0) c.args.outsides.items) (registered_of d.made).at_hand (ap (λ (g : Linking). g.made.at_hand) (c.in_ok-done.ensures.begun w)) c.requires.scope c.requires.outsides;
      grown = omega arith;
      whole = c.requires.whole;
      templates = refl;
    }

pub loop-step-preserved : goal.loop-step-preserved
loop-step-preserved c =
    let l = c.loop-step in
    let items : List code.LinkStep = c.args.steps.now in
    let order = c.args.order.now in
    let w = c.step_unless.new.works in
    let d = c.step_unless.new.done in
    let x : LinkStep = step_of c.step-item.result in
    let rest : List LinkStep = map step_of (drop (l.step-index + 1) items) in
    let e : map step_of (drop l.step-index items) ≡ x ∷ rest = ap (map step_of) (dropped items l.step-index c.step-item.result c.loop-step-test.true c.step-item.is) in
    let one = c.in_ok-step_unless.ensures in
    record {
      steps = λ f is has.
          (let before = l.invariant.steps f is has in
          let all = subst (AllByRecursion (HasPrograms f order)) e before.0 in
          (all.1, step_more f x rest (linking l.works l.done) (linking w d) (one.step f is all.0) ∙ (sym (ap (λ (xs : List LinkStep). steps_linked f xs (linking l.works l.done)) e) ∙ before.1)));
      grounded = one.grounded;
      grown = (let more = one.grown in let all = l.invariant.grown in omega (arith, more, all));
      whole = one.whole;
      templates = c.step_unless.ensures.templates ∙ l.invariant.templates;
    }

pub returns-clause-steps : goal.returns-clause-steps
returns-clause-steps c = λ f is has.
    let l = c.loop-step in
    let items : List code.LinkStep = c.args.steps.now in
    let none : drop l.step-index items ≡ [] = drop_all l.step-index items c.loop-step-test.false in
    sym (ap (λ (xs : List code.LinkStep). steps_linked f (map step_of xs) (linking l.works l.done)) none)
    ∙ ((l.invariant.steps f is has).1 ∙ ap (steps_linked f (map step_of items)) (c.in_ok-done.ensures.begun c.args.works.now))
