-- A child scope, for a body.
use Rattle.std.specs.Prelude.{ℕ, length, nat_lt, Some, Ok, Err, if◌then◌else◌}
use Rattle.ng_core.specs.State as act
use Rattle.ng_core.specs.State.{Run, with_objects, with_scopes}
use Rattle.ng_base.specs.declared.fault.Fault.TheVariants.{StoreFull}
use Rattle.ng_behaviour.specs.ScopeObjects.{with_scope_object}
use Rattle.ng_behaviour.specs.Scopes.{object_at, with_child}

-- the most objects of a page
abbrev pub object_limit : ℕ
object_limit = 1000000

-- a child of a scope: its object inherits from the scope's (guide: Scopes, "Scope Hierarchies")
abbrev pub child_run : ℕ → act.State → Run ℕ
child_run scope c =
    if nat_lt (length c.objects) object_limit then (with_scopes (with_child c.scopes scope (length c.objects)) (with_objects (with_scope_object c.objects c.scopes (Some (object_at c.scopes scope)) scope) c), Ok (length c.scopes))
    else (c, Err StoreFull)
