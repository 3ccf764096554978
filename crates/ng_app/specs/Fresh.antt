-- A core that a page begins with.
use Rattle.std.specs.Prelude.{◌≡◌, length}
use Rattle.ng_core.specs.Frames.{HaveParents}
use Rattle.ng_core.specs.declared.core_state.Core.{Core}
use Rattle.ng_behaviour.specs.ScopeObjects.{AreAmong}
use Rattle.ng_events.specs.Stands.{open_of}

-- the root scope stands, nothing was installed, nothing waits, and no body is open
pub record IsFresh (c : Core) : Type 0 where
  pub root : length c.scopes ≡ 1
  pub objects : AreAmong (length c.store) c.scopes
  pub parents : HaveParents c.scopes
  pub locals : length c.locals ≡ 0
  pub funs : length c.funs.items ≡ 0
  pub tasks : length c.tasks.items ≡ 0
  pub changes : length c.changes.items ≡ 0
  pub depth : c.depth ≡ 0
  pub room : open_of c.listeners ≡ 0
