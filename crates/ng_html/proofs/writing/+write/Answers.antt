use Rattle.std.proofs.Common.{arith, rules}
use Rattle.std.proofs.lemmas.Grind.{common_steps}
use Rattle.ng_html.proofs.Prints.{print_steps, printed_element}
use Rattle.std.proofs.lemmas.Result.{on_ok_weaker}
use Rattle.ng_html.specs.Seen.{forest_of}
use Rattle.ng_html.proofs.writing.+write.Goals as goal

pub push_forest-loop-n-preserved : goal.push_forest-loop-n-preserved
push_forest-loop-n-preserved t c = grind (arith, common_steps, print_steps)

pub push_forest-returns : goal.push_forest-returns
push_forest-returns t c = grind (arith, common_steps, print_steps)

pub push_element-returns : goal.push_element-returns
push_element-returns t c =
    on_ok_weaker c.push_end.result
    (printed_element c.args.name.now c.args.attrs.now (forest_of c.args.kids.now) c.args.into.now.items c.push_start.new.into.items c.push_forest.new.into.items c.push_end.new.into.items (search rules) c.in_ok-push_start.ensures c.in_ok-push_forest.ensures)
    c.push_end.ensures
