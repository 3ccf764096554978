use Rattle.std.proofs.Common.{arith, ◌+◌, ◌-◌, ◌/◌, ap}
use Rattle.ng_scopes.specs.Rows.{tree_of}
use Rattle.ng_scopes.proofs.TreeOf.{tree-length, tree-read, below-too}
use Rattle.ng_scopes.proofs.rows.of_object_in.Goals as goal

pub loop-low-preserved-then-row-object-2 : goal.loop-low-preserved-then-row-object-2
loop-low-preserved-then-row-object-2 c = record {
  ordered = omega arith;
  within = c.loop-low.invariant.within;
  below = λ r h. below-too (tree_of c.args.rows.now) (c.loop-low.low + (c.loop-low.high - c.loop-low.low) / 2) c.args.object r c.requires.rises
      (let e = tree-length c.args.rows.now in omega arith)
      (rw (ap (λ x. x.object) (tree-read c.args.rows.now (c.loop-low.low + (c.loop-low.high - c.loop-low.low) / 2) c.index-rows-middle.result (omega arith)), ← c.index-rows-middle.is) c.if-row-object-2.true)
      h;
  above = c.loop-low.invariant.above;
}
