-- Names of templates: the one that each is given, and the one that `ng-include` knows some of them by.
use Rattle.std.specs.Prelude.{ℕ, Bool, true, false, List, Option, None, Some, Result, Ok, Err, nat_lt, if◌then◌else◌}
use Rattle.std.specs.Str.{bytes_eq}
use Rattle.ng_base.specs.declared.fault.Memory.{Memory}
use Rattle.ng_base.specs.declared.fault.Memory.TheVariants.{Refused, Worn}

abbrev pub is_refused_memory : Memory → Bool
is_refused_memory Refused = true
is_refused_memory Worn = false

-- the name of the next template is how many there are, up to the last value of 32 bits
abbrev pub next_name : ℕ → Result ℕ Memory
next_name count = if nat_lt count 4294967295 then Ok count else Err Worn

abbrev pub is_name : List ℕ → Option (List ℕ) → Bool
is_name w None = false
is_name w (Some v) = bytes_eq v w
