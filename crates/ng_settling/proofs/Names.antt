-- The names of faults are words.
use Rattle.std.proofs.Common.{refl}
use Rattle.ng_base.specs.Faults.{fault_name}
use Rattle.ng_base.specs.Word.{IsWord}
use Rattle.ng_base.specs.declared.fault.Fault.{Fault}
use Rattle.ng_base.specs.declared.fault.Fault.TheVariants as fault

pub fault_word : (f : Fault) → IsWord (fault_name f)
fault_word fault.NotWhole = refl
fault_word fault.Range = refl
fault_word fault.NotAFunction = refl
fault_word fault.NotAssignable = refl
fault_word fault.Dupes = refl
fault_word fault.TooBig = refl
fault_word fault.Depth = refl
fault_word fault.CallLimit = refl
fault_word fault.StoreFull = refl
fault_word fault.NodeLimit = refl
fault_word fault.NoTemplate = refl
fault_word fault.InProgress = refl
fault_word fault.Syntax = refl
fault_word fault.OutOfProfile = refl
fault_word fault.ImpureCall = refl
fault_word (fault.Memory m) = refl
