-- What the entries that were read stand for.
use Rattle.std.specs.Prelude.{map}
use Rattle.ng_app.specs.App.{Written}
use Rattle.ng_entries.specs.EntryOf.{entry_of}
use Rattle.ng_app.specs.declared.reading.Written.{Written as Entries}

abbrev pub written_of : Entries → Written
written_of w = record { templates = w.templates.items; directives = map entry_of w.directives.items; functions = w.functions.items; run = w.run; watches = w.watches.items; listeners = w.listeners.items }
