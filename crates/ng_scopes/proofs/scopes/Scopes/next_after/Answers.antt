use Rattle.std.proofs.Common.{sym}
use Rattle.std.specs.BTreeMap.{get}
use Rattle.ng_base.specs.Order.{path_cmp}
use Rattle.ng_behaviour.proofs.Dying.{led-tree}
use Rattle.ng_scopes.specs.Rows.{tree_of}
use Rattle.ng_scopes.proofs.Ahead.{found-ahead, none-ahead}
use Rattle.ng_scopes.proofs.scopes.Scopes.next_after.Goals as goal

pub returns-in-None-clause-next : goal.returns-in-None-clause-next
returns-in-None-clause-next c =
    rw (← c.self.view_is) (sym (none-ahead (tree_of c.self.inside.rows.items) (get path_cmp c.self.inside.index) c.args.p.now c.args.under.now (led-tree (tree_of c.self.inside.rows.items) c.self.invariant.tree) c.self.invariant.index c.in-None.ensures).0)

pub returns-in-None-clause-least : goal.returns-in-None-clause-least
returns-in-None-clause-least c =
    rw (← c.self.view_is) (none-ahead (tree_of c.self.inside.rows.items) (get path_cmp c.self.inside.index) c.args.p.now c.args.under.now (led-tree (tree_of c.self.inside.rows.items) c.self.invariant.tree) c.self.invariant.index c.in-None.ensures).1

pub returns-in-Some-clause-next : goal.returns-in-Some-clause-next
returns-in-Some-clause-next c =
    rw (← c.self.view_is) (sym (found-ahead (tree_of c.self.inside.rows.items) (get path_cmp c.self.inside.index) c.args.p.now c.args.under.now c.in-Some.s (led-tree (tree_of c.self.inside.rows.items) c.self.invariant.tree) c.self.invariant.index c.in-Some.ensures).0)

pub returns-in-Some-clause-least : goal.returns-in-Some-clause-least
returns-in-Some-clause-least c =
    rw (← c.self.view_is) (found-ahead (tree_of c.self.inside.rows.items) (get path_cmp c.self.inside.index) c.args.p.now c.args.under.now c.in-Some.s (led-tree (tree_of c.self.inside.rows.items) c.self.invariant.tree) c.self.invariant.index c.in-Some.ensures).1
