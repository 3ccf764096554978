-- Calls that are planned to fail, and what they answer.
use Rattle.std.specs.Prelude.{ℕ, ◌+◌, ◌-◌, ◌^◌, ◌==◌, min, List, length, nat_lt, Bool, true, false, if◌then◌else◌, Option, None, Some, Result, Ok, Err}
use Rattle.std.specs.List.{list_any}
use Rattle.ng_base.specs.Outside.{longest}
use Rattle.ng_base.specs.declared.in_memory.Plan.{Plan}
use Rattle.ng_base.specs.declared.fault.ShelfFault.{ShelfFault}
use Rattle.ng_base.specs.declared.fault.ShelfFault.TheVariants.{Failed, TooLong, Memory}

-- one more call was made; the count stays at its type's last value
abbrev pub called : Plan → Plan
called p = record p { calls = min (p.calls + 1) (2 ^ 64 - 1) }

-- the number of the next call is one of those that are to fail
abbrev pub fails_next : Plan → Bool
fails_next p = list_any (λ n. n == (called p).calls) p.to_fail.items

-- what a fetch that is to fail or not answers, of the file under its name
abbrev pub planned_answer : Bool → Option (List ℕ) → Result (Unit {0}) ShelfFault
planned_answer planned None = Err Failed
planned_answer planned (Some file) =
    if planned then Err Failed
    else if nat_lt longest (length file) then Err (TooLong (length file))
    else Ok tt

-- what the next fetch answers, of the file under its name
abbrev pub fetch_answer : Plan → Option (List ℕ) → Result (Unit {0}) ShelfFault
fetch_answer p file = planned_answer (fails_next p) file

-- the fault is want of memory, which is free
abbrev pub wants_memory : ShelfFault → Bool
wants_memory (Memory m) = true
wants_memory _ = false
