use Rattle.std.proofs.Common.{◌≡◌, map, drop}
use Rattle.std.specs.Map.{lookup}
use Rattle.std.specs.Str.{bytes_eq}
use Rattle.ng_base.specs.ViewOf.{field_of}
use Rattle.ng_members.proofs.members.field_under.Given as goal

abbrev pub invariant-loop-field : goal.invariant-loop-field
invariant-loop-field l = lookup (bytes_eq l.name) (map field_of (drop l.field-index l.fields)) ≡ lookup (bytes_eq l.name) (map field_of l.fields)
