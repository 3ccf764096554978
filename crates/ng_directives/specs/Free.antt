-- The answer that is free: memory was refused. It has place 0.
use Rattle.std.specs.Prelude.{Bool, true, false, ◌&&◌, ◌==◌}
use Rattle.ng_base.specs.declared.fault.Memory.TheVariants.{Refused}
use Rattle.ng_directives.specs.declared.fault.TplKind.{TplKind}
use Rattle.ng_directives.specs.declared.fault.TplKind.TheVariants.{Memory}
use Rattle.ng_directives.specs.declared.fault.TplFault.{TplFault}

abbrev pub is_refused : TplKind → Bool
is_refused (Memory Refused) = true
is_refused _ = false

abbrev pub is_tpl_want : TplFault → Bool
is_tpl_want f = is_refused f.kind && f.place == 0
