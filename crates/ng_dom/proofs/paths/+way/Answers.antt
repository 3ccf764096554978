use Rattle.std.proofs.Common.{◌≡◌, ◌-◌, ℕ, suc, IfOk, ap, sym, subst, ◌∙◌, arith}
use Rattle.std.proofs.lemmas.Grind.{common_steps}
use Rattle.ng_dom.specs.Nodes.{NamedForest}
use Rattle.ng_dom.specs.Walks.{read}
use Rattle.ng_dom.specs.Kept.{rooms_of}
use Rattle.ng_dom.specs.Paths.{way}
use Rattle.ng_dom.proofs.Ways.{way_steps, read_kept}
use Rattle.ng_dom.proofs.paths.+way.Goals as goal

pub way_all-returns-in-Reached : goal.way_all-returns-in-Reached
way_all-returns-in-Reached t c = grind (arith, common_steps, way_steps)

pub way_all-loop-m-preserved : goal.way_all-loop-m-preserved
way_all-loop-m-preserved t c = grind (arith, common_steps, way_steps)

pub way_node-returns-in-Some : goal.way_node-returns-in-Some
way_node-returns-in-Some t c =
    let nodes = c.args.nodes.now in
    let x = c.in-Some.node.now in
    let deep : suc (c.args.deep - 1) ≡ c.args.deep = omega (arith, c.if-deep-eq0.false) in
    let below = ap (λ (k : ℕ). read k (rooms_of nodes) c.args.m) (sym deep) ∙ read_kept nodes (c.args.deep - 1) c.args.m x c.in-Some.ensures in
    subst (λ (g : NamedForest). IfOk c.way_content.result (λ w. w ≡ way c.args.n c.args.i g)) (sym below) c.way_content.ensures
