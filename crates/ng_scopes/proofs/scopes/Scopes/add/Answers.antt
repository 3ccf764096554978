use Rattle.ng_scopes.specs.Rows.{tree_of}
use Rattle.ng_scopes.proofs.Sound.{sound-added, number-low}
use Rattle.ng_scopes.proofs.scopes.Scopes.add.Goals as goal

pub invariant_of-self : goal.invariant_of-self
invariant_of-self c =
    sound-added (tree_of c.self.inside.rows.items) (tree_of c.add.new.rows.items) c.args.container.0 c.args.object.0 c.self.inside.index c.add.new.index c.add.result c.self.invariant
    (rw c.self.view_is c.requires.container) (number-low (tree_of c.self.inside.rows.items) c.args.container.0 (rw c.self.view_is c.requires.number)) (rw c.self.view_is c.requires.object) c.add.ensures.index c.add.ensures.ok c.add.ensures.err
