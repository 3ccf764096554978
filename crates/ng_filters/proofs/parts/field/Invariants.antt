use Rattle.std.proofs.Common.{◌≡◌, map, drop, bytes_eq}
use Rattle.std.specs.Map.{lookup}
use Rattle.ng_base.specs.ViewOf.{field_of}
use Rattle.ng_filters.proofs.parts.field.Given as goal

abbrev pub invariant-loop-f : goal.invariant-loop-f
invariant-loop-f l = lookup (bytes_eq l.name) (map field_of (drop l.f-index l.fields)) ≡ lookup (bytes_eq l.name) (map field_of l.fields)
