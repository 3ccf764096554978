-- What each step of an action keeps of the core, whatever it opens.
use Rattle.std.specs.Prelude.{◌≡◌, ◌≤◌, length}
use Rattle.ng_core.specs.Frames.{held, IsSound}
use Rattle.ng_core.specs.declared.core_state.Core.{Core}

-- the core is sound still, its walks, its depth and how many scopes it has are the same, and no object is taken away
pub record Kept (a b : Core) : Type 0 where
  pub sound : IsSound b
  pub held : held b ≡ held a
  pub depth : b.depth ≡ a.depth
  pub count : length b.scopes ≡ length a.scopes
  pub grown : length a.store ≤ length b.store
