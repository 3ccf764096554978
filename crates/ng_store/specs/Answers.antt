-- What the calls of a store answer.
use Rattle.std.specs.Prelude.{ℕ, Bool, true, false, List, length, Result, Ok, Err, nat_lt, if◌then◌else◌}
use Rattle.ng_base.specs.Objects.{Object}
use Rattle.ng_base.specs.declared.name.Oid.{Oid}
use Rattle.ng_base.specs.declared.fault.Memory.{Memory}
use Rattle.ng_base.specs.declared.fault.Memory.TheVariants.{Refused, Worn}
use Rattle.ng_store.specs.declared.store.StoreFault.{StoreFault}
use Rattle.ng_store.specs.declared.store.StoreFault.TheVariants.{Full, Memory as OfMemory}

-- the one free answer
abbrev pub is_refused : Memory → Bool
is_refused Refused = true
is_refused Worn = false

-- an answer of a call that leaves an array with so many items: fewer than 2^32 are kept
abbrev pub where_short : {A : Type 0} → ℕ → A → Result A Memory
where_short count x = if nat_lt count 4294967296 then Ok x else Err Worn

abbrev pub is_want : StoreFault → Bool
is_want (OfMemory m) = is_refused m
is_want Full = false

-- the name of the next object, or Full where 1,000,000 stand
abbrev pub next_name : List Object → Result Oid StoreFault
next_name objects = if nat_lt (length objects) 1000000 then Ok (record { 0 = length objects }) else Err Full
