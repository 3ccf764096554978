-- The answer that is free: memory was refused.
use Rattle.std.specs.Prelude.{Bool, true, false}
use Rattle.ng_base.specs.declared.fault.Memory.TheVariants.{Refused}
use Rattle.ng_collect.specs.declared.fault.DefFault.{DefFault}
use Rattle.ng_collect.specs.declared.fault.DefFault.TheVariants as defs
use Rattle.ng_collect.specs.declared.fault.CollectFault.{CollectFault}
use Rattle.ng_collect.specs.declared.fault.CollectFault.TheVariants as faults

abbrev pub is_free_def : DefFault → Bool
is_free_def (defs.Memory Refused) = true
is_free_def _ = false

abbrev pub is_free : CollectFault → Bool
is_free (faults.Memory Refused) = true
is_free _ = false
