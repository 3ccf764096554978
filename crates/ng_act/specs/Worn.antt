-- Where a counter of names or serials stands at its type's last value, and what want of memory may tell then.
use Rattle.std.specs.Prelude.{◌≡◌, Bool, true, ◌||◌, nat_lt, length, not, eqb, if◌then◌else◌}
use Rattle.ng_base.specs.declared.fault.Fault.{Fault}
use Rattle.ng_base.specs.declared.fault.Fault.TheVariants as fault
use Rattle.ng_base.specs.declared.fault.Memory.{Memory as Wanted}
use Rattle.ng_base.specs.declared.fault.Memory.TheVariants.{Refused, Worn}
use Rattle.ng_core.specs.State.{State}

-- no further function has a name, or no further registration has a number
abbrev pub is_worn : State → Bool
is_worn s = not (nat_lt (length s.funs) 4294967295) || eqb s.serial 18446744073709551615

-- want of memory as a public call tells it: that a counter stands at its last value, only where one does
abbrev pub told : Bool → Wanted → Wanted
told worn Refused = Refused
told worn Worn = if worn then Worn else Refused

-- the same of a fault: those that are no want of memory stay
abbrev pub told_fault : Bool → Fault → Fault
told_fault worn (fault.Memory e) = fault.Memory (told worn e)
told_fault worn e = e

-- the cause of want of memory: a counter does stand at its last value where that is told
abbrev pub HasCause : Bool → Wanted → Type 0
HasCause worn Worn = worn ≡ true
HasCause worn Refused = Unit {0}

abbrev pub FaultHasCause : Bool → Fault → Type 0
FaultHasCause worn (fault.Memory e) = HasCause worn e
FaultHasCause worn _ = Unit {0}
