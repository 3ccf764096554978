use Rattle.std.proofs.Common.{◌≡◌, ◌∙◌, ◌+◌, List, ◌∷◌, ℕ, ap, drop, map, refl, subst, sym, arith}
use Rattle.std.specs.List.{AllByRecursion}
use Rattle.ng_changes.proofs.Answered.{dropped}
use Rattle.ng_fire.proofs.Served.{due_held, due_rest, there_still}
use Rattle.ng_fire.specs.Blocks.{outlets_emptied}
use Rattle.ng_fire.specs.FireOf.{firing}
use Rattle.ng_fire.specs.Serving.{IsThere, AreDue}
use Rattle.ng_instances.specs.Due.{Due, due_of}
use Rattle.ng_link.specs.State.{state_of, templates_of}
use Rattle.ng_drawing.specs.Named.{Named}
use Rattle.ng_value.specs.Snaps.{snap_of}
use Rattle.ng_fire.proofs.blocks.empty_outlets.Goals as goal

pub empty_outlet-requires-clause-held : goal.empty_outlet-requires-clause-held
empty_outlet-requires-clause-held c =
    let l = c.loop-due in
    let p : List ℕ = c.args.holder.now in
    let is = (state_of l.works).instances in
    let items = c.args.all.now in
    let d : Due = due_of c.due-item.result in
    let rest : List Due = map due_of (drop (l.due-index + 1) items) in
    let e : map due_of (drop l.due-index items) ≡ d ∷ rest = ap (map due_of) (dropped items l.due-index c.due-item.result c.loop-due-test.true c.due-item.is) in
    due_held (templates_of l.works) p is d rest (subst (λ (ds : List Due). AreDue (templates_of l.works) p is ds) e l.invariant.due)

pub loop-due-init : goal.loop-due-init
loop-due-init c = record {
  fired = refl;
  due = c.requires.due;
  there = c.requires.due.there;
  grown = omega arith;
  whole = c.requires.whole;
  templates = refl;
}

pub loop-due-preserved : goal.loop-due-preserved
loop-due-preserved c =
    let l = c.loop-due in
    let w = c.empty_outlet.new.works in
    let p : List ℕ = c.args.holder.now in
    let v = snap_of c.args.value.now in
    let old = (state_of l.works).instances in
    let new = (state_of w).instances in
    let items = c.args.all.now in
    let d : Due = due_of c.due-item.result in
    let rest : List Due = map due_of (drop (l.due-index + 1) items) in
    let e : map due_of (drop l.due-index items) ≡ d ∷ rest = ap (map due_of) (dropped items l.due-index c.due-item.result c.loop-due-test.true c.due-item.is) in
    let serves = c.in_ok-empty_outlet.ensures.serves in
    record {
      fired = ap (outlets_emptied p v rest) c.in_ok-empty_outlet.ensures.fired ∙ (sym (ap (λ (ds : List Due). outlets_emptied p v ds (firing l.works l.told)) e) ∙ l.invariant.fired);
      due = subst (λ (ts : List Named). AreDue ts p new rest) (sym c.empty_outlet.ensures.templates)
          (due_rest (templates_of l.works) p old new d rest (subst (λ (ds : List Due). AreDue (templates_of l.works) p old ds) e l.invariant.due) serves);
      there = subst (λ (ts : List Named). AllByRecursion (IsThere ts p new) (map due_of items)) (sym c.empty_outlet.ensures.templates) (there_still (templates_of l.works) p old new (map due_of items) serves.outlets l.invariant.there);
      grown = (let one = c.in_ok-empty_outlet.ensures.grown in let all = l.invariant.grown in omega (arith, one, all));
      whole = c.in_ok-empty_outlet.ensures.whole;
      templates = c.empty_outlet.ensures.templates ∙ l.invariant.templates;
    }
