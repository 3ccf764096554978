-- Faults: which of them are want of memory, and the names that lines print.
use Rattle.std.specs.Prelude.{ℕ, List, Bool, true, false, codes}
use Rattle.ng_base.specs.declared.fault.Fault.{Fault}
use Rattle.ng_base.specs.declared.fault.Fault.TheVariants as fault

abbrev pub is_memory : Fault → Bool
is_memory (fault.Memory m) = true
is_memory _ = false

abbrev pub fault_name : Fault → List ℕ
fault_name fault.NotWhole = codes "NotWhole"
fault_name fault.Range = codes "Range"
fault_name fault.NotAFunction = codes "NotAFunction"
fault_name fault.NotAssignable = codes "NotAssignable"
fault_name fault.Dupes = codes "Dupes"
fault_name fault.TooBig = codes "TooBig"
fault_name fault.Depth = codes "Depth"
fault_name fault.CallLimit = codes "CallLimit"
fault_name fault.StoreFull = codes "StoreFull"
fault_name fault.NodeLimit = codes "NodeLimit"
fault_name fault.NoTemplate = codes "NoTemplate"
fault_name fault.InProgress = codes "InProgress"
fault_name fault.Syntax = codes "Syntax"
fault_name fault.OutOfProfile = codes "OutOfProfile"
fault_name fault.ImpureCall = codes "ImpureCall"
fault_name (fault.Memory m) = codes "Memory"
