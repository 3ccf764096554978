-- The free answer: memory was refused.
use Rattle.std.specs.Prelude.{Bool, true, false, ◌==◌, ◌&&◌}
use Rattle.ng_base.specs.declared.fault.Memory.TheVariants.{Refused}
use Rattle.ng_script.specs.declared.fault.ScriptFault.{ScriptFault}
use Rattle.ng_script.specs.declared.fault.ScriptKind.{ScriptKind}
use Rattle.ng_script.specs.declared.fault.ScriptKind.TheVariants as kinds

abbrev pub is_want : ScriptKind → Bool
is_want (kinds.Memory Refused) = true
is_want _ = false

-- want of memory stands in no line
abbrev pub is_free : ScriptFault → Bool
is_free f = is_want f.kind && f.line == 0
