-- A scope that linking makes.
use Rattle.std.specs.Prelude.{ℕ, length, nat_lt, Option, Ok, Err, if◌then◌else◌}
use Rattle.ng_core.specs.State as act
use Rattle.ng_core.specs.State.{with_objects, with_scopes, Run}
use Rattle.ng_base.specs.declared.fault.Fault.TheVariants.{StoreFull}
use Rattle.ng_behaviour.specs.ScopeObjects.{with_scope_object}
use Rattle.ng_behaviour.specs.Scopes.{with_child}

-- the most objects of a page
abbrev pub object_limit : ℕ
object_limit = 1000000

-- a scope whose object inherits from that of another, or from none
abbrev pub scope_run : ℕ → Option ℕ → act.State → Run ℕ
scope_run parent prototype c =
    if nat_lt (length c.objects) object_limit then (with_scopes (with_child c.scopes parent (length c.objects)) (with_objects (with_scope_object c.objects c.scopes prototype parent) c), Ok (length c.scopes))
    else (c, Err StoreFull)
