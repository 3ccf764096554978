use Rattle.std.proofs.Common.{◌≡◌, ◌++◌, drop, map}
use Rattle.ng_base.specs.Views.{fields_from}
use Rattle.ng_base.specs.ViewOf.{field_of}
use Rattle.ng_drawing.specs.Roles.{named_entries}
use Rattle.ng_drawing.specs.RolesOf.{entries_of}
use Rattle.ng_drawing.proofs.roles.names_of.Given as goal

abbrev pub invariant-loop-field : goal.invariant-loop-field
invariant-loop-field l = entries_of l.entries.items ++ named_entries (fields_from (map field_of (drop l.field-index l.fields))) ≡ named_entries (fields_from (map field_of l.fields))
