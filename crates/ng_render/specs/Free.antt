-- The free answer of a rendering: memory was refused.
use Rattle.std.specs.Prelude.{Bool, false}
use Rattle.ng_base.specs.declared.fault.Fault.{Fault}
use Rattle.ng_base.specs.declared.fault.Fault.TheVariants as fault
use Rattle.ng_store.specs.Answers.{is_refused}

abbrev pub is_want : Fault → Bool
is_want (fault.Memory m) = is_refused m
is_want _ = false
