-- What the fire of a block in the code stands for.
use Rattle.std.specs.Prelude.{ℕ, Option, None, Some, Ok, Err}
use Rattle.ng_core.specs.State as act
use Rattle.ng_core.specs.State.{Run}
use Rattle.ng_base.specs.declared.fault.Fault.TheVariants.{StoreFull}
use Rattle.ng_base.specs.declared.name.ScopeId.{ScopeId}

-- a child of a scope that was made, or none where the store is full
abbrev pub child_made : Option ScopeId → act.State → Run ℕ
child_made (Some s) c = (c, Ok s.0)
child_made None c = (c, Err StoreFull)
