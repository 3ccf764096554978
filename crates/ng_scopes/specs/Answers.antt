-- What the calls that make a scope answer.
use Rattle.std.specs.Prelude.{ℕ, ◌&&◌, List, length, Result, Ok, Err, nat_lt, if◌then◌else◌}
use Rattle.ng_base.specs.Objects.{Object}
use Rattle.ng_base.specs.declared.name.ScopeId.{ScopeId}
use Rattle.ng_base.specs.declared.fault.Memory.{Memory}
use Rattle.ng_base.specs.declared.fault.Memory.TheVariants.{Worn}
use Rattle.ng_store.specs.declared.store.StoreFault.{StoreFault}
use Rattle.ng_store.specs.declared.store.StoreFault.TheVariants.{Full, Memory as OfMemory}
use Rattle.ng_behaviour.specs.Scopes.{Scope, children_at}

-- the number of the next scope under a container, or Worn where a counter stands at its last value
abbrev pub next_number : List Scope → ℕ → Result ℕ Memory
next_number t c = if nat_lt (length t) 4294967295 && nat_lt (length (children_at t c)) 4294967295 then Ok (length t) else Err Worn

-- the name of a scope of such a number, or Full where 1,000,000 objects stand
abbrev pub named_scope : Result ℕ Memory → List Object → Result ScopeId StoreFault
named_scope (Ok id) objects = if nat_lt (length objects) 1000000 then Ok (record { 0 = id }) else Err Full
named_scope (Err m) objects = Err (OfMemory m)

-- what a call that makes a scope answers
abbrev pub next_scope_name : List Scope → ℕ → List Object → Result ScopeId StoreFault
next_scope_name t c objects = named_scope (next_number t c) objects
