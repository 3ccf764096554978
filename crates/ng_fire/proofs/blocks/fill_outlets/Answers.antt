use Rattle.std.proofs.Common.{◌≡◌, ◌∙◌, ◌+◌, List, ◌∷◌, ℕ, ap, drop, length, map, refl, subst, sym}
use Rattle.std.specs.List.{AllByRecursion}
use Rattle.ng_drawing.specs.Cases.{Case}
use Rattle.ng_changes.proofs.Answered.{dropped}
use Rattle.ng_fire.proofs.Served.{there_still}
use Rattle.ng_rows.specs.Chosen.{cases_due}
use Rattle.ng_fire.specs.SiteFires.{outlets_filled}
use Rattle.ng_fire.specs.FireOf.{firing}
use Rattle.ng_fire.specs.Serving.{IsThere}
use Rattle.ng_instances.specs.Due.{Due, due_of}
use Rattle.ng_link.specs.State.{state_of, templates_of}
use Rattle.ng_drawing.specs.Named.{Named}
use Rattle.ng_value.specs.Snaps.{snap_of}
use Rattle.ng_write.proofs.More.{view_more}
use Rattle.ng_fire.proofs.blocks.fill_outlets.Goals as goal

pub fill_outlet-requires-clause-there : goal.fill_outlet-requires-clause-there
fill_outlet-requires-clause-there c =
    let l = c.loop-due in
    let p : List ℕ = c.args.holder.now in
    let is = (state_of l.works).instances in
    let items = c.args.all.now in
    let d : Due = due_of c.due-item.result in
    let rest : List Due = map due_of (drop (l.due-index + 1) items) in
    let e : map due_of (drop l.due-index items) ≡ d ∷ rest = ap (map due_of) (dropped items l.due-index c.due-item.result c.loop-due-test.true c.due-item.is) in
    (subst (λ (ds : List Due). AllByRecursion (IsThere (templates_of l.works) p is) ds) e l.invariant.there).0

pub loop-due-init : goal.loop-due-init
loop-due-init c = record { fired = refl; there = c.requires.there; value = c.requires.value; whole = c.requires.whole; templates = refl }

pub loop-due-preserved : goal.loop-due-preserved
loop-due-preserved c =
    let l = c.loop-due in
    let w = c.fill_outlet.new.works in
    let p : List ℕ = c.args.holder.now in
    let v = snap_of c.args.value.now in
    let old = (state_of l.works).instances in
    let new = (state_of w).instances in
    let items = c.args.all.now in
    let cases : List Case = cases_due (map due_of items) in
    let d : Due = due_of c.due-item.result in
    let rest : List Due = map due_of (drop (l.due-index + 1) items) in
    let e : map due_of (drop l.due-index items) ≡ d ∷ rest = ap (map due_of) (dropped items l.due-index c.due-item.result c.loop-due-test.true c.due-item.is) in
    let keeps = c.in_ok-fill_outlet.ensures.keeps in
    record {
      fired = ap (outlets_filled p cases v rest) c.in_ok-fill_outlet.ensures.fired ∙ (sym (ap (λ (ds : List Due). outlets_filled p cases v ds (firing l.works l.told)) e) ∙ l.invariant.fired);
      there = subst (λ (ts : List Named). AllByRecursion (IsThere ts p new) rest) (sym c.fill_outlet.ensures.templates)
          (there_still (templates_of l.works) p old new rest keeps.outlets (subst (λ (ds : List Due). AllByRecursion (IsThere (templates_of l.works) p old) ds) e l.invariant.there).1);
      value = view_more (length l.works.core.store) (length w.core.store) c.in_ok-fill_outlet.ensures.grown v l.invariant.value;
      whole = c.in_ok-fill_outlet.ensures.whole;
      templates = c.fill_outlet.ensures.templates ∙ l.invariant.templates;
    }
