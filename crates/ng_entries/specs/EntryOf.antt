-- What a directive that was read stands for, as it is written.
use Rattle.ng_entries.specs.DirectiveEntries.{DirectiveEntry}
use Rattle.ng_entries.specs.declared.directives.DirectiveEntry as code

abbrev pub entry_of : code.DirectiveEntry → DirectiveEntry
entry_of e = record { def = e.def; functions = e.functions.items; watches = e.watches.items; listeners = e.listeners.items; link = e.link }
