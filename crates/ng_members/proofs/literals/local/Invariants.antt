use Rattle.std.proofs.Common.{◌≡◌, drop}
use Rattle.std.specs.Map.{lookup}
use Rattle.std.specs.Str.{bytes_eq}
use Rattle.ng_members.proofs.literals.local.Given as goal

abbrev pub invariant-loop-local : goal.invariant-loop-local
invariant-loop-local l = lookup (bytes_eq l.name) (drop l.local-index l.locals) ≡ lookup (bytes_eq l.name) l.locals
