use Rattle.ng_behaviour.specs.Scopes.{path_at}
use Rattle.ng_scopes.specs.Rows.{tree_of}
use Rattle.ng_scopes.proofs.Sound.{sound-dies}
use Rattle.ng_scopes.proofs.scopes.Scopes.mark_dead.Goals as goal

pub invariant_of-self : goal.invariant_of-self
invariant_of-self c =
    rw c.bury.ensures.tree
    (sound-dies (tree_of c.self.inside.rows.items) c.self.inside.index c.bury.new.index (path_at (tree_of c.self.inside.rows.items) c.args.s.0) c.self.invariant
    (λ q. rw c.bury.ensures.tree at (c.bury.ensures.index q)))
