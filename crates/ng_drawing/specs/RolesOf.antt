-- What a body's role in the code stands for.
use Rattle.std.specs.Prelude.{List, map}
use Rattle.ng_drawing.specs.Roles.{Entry, Role, a_body, a_row, a_named}
use Rattle.ng_drawing.specs.declared.roles.Entry as code_entry
use Rattle.ng_drawing.specs.declared.roles.Role as code
use Rattle.ng_drawing.specs.declared.roles.Role.TheVariants.{Body, Row, Named}
use Rattle.ng_value.specs.Snaps.{snap_of}

abbrev pub entry_of : code_entry.Entry → Entry
entry_of e = record { name = e.name; value = snap_of e.value }

abbrev pub entries_of : List code_entry.Entry → List Entry
entries_of es = map entry_of es

abbrev pub role_of : code.Role → Role
role_of Body = a_body
role_of (Row key entry) = a_row key (entry_of entry)
role_of (Named name) = a_named name
