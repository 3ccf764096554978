-- The free answer: want of memory, which names no member and no entry of the file.
use Rattle.std.specs.Prelude.{Bool, true, false, ◌==◌, ◌&&◌}
use Rattle.ng_store.specs.Answers.{is_refused}
use Rattle.ng_entries.specs.declared.fault.AppKind.{AppKind}
use Rattle.ng_entries.specs.declared.fault.AppKind.TheVariants as kind
use Rattle.ng_entries.specs.declared.fault.AppFault.{AppFault}
use Rattle.ng_entries.specs.declared.fault.Member.{Member}
use Rattle.ng_entries.specs.declared.fault.Member.TheVariants as the

abbrev pub is_want : AppKind → Bool
is_want (kind.Memory m) = true
is_want k = false

abbrev pub is_file : Member → Bool
is_file the.File = true
is_file m = false

abbrev pub is_app_want : AppFault → Bool
is_app_want f = is_want f.kind && (f.item == 0) && is_file f.member

abbrev pub is_kind_refused : AppKind → Bool
is_kind_refused (kind.Memory m) = is_refused m
is_kind_refused k = false

-- where an application is read whole, only memory that was refused is free
abbrev pub is_app_refused : AppFault → Bool
is_app_refused f = is_kind_refused f.kind && (f.item == 0) && is_file f.member
