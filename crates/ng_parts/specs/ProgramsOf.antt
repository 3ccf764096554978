-- What the programs of directives in the code stand for.
use Rattle.std.specs.Prelude.{map}
use Rattle.ng_parse.specs.ProgramOf.{program}
use Rattle.ng_parts.specs.Directing.{Function, Watching, Hearing, Programs}
use Rattle.ng_parts.specs.declared.programs.Function as code_function
use Rattle.ng_parts.specs.declared.programs.Listener as code_listener
use Rattle.ng_parts.specs.declared.programs.Programs as code
use Rattle.ng_parts.specs.declared.programs.Watch as code_watch

abbrev pub function_of : code_function.Function → Function
function_of f = record { name = f.name; params = f.params; body = program f.program }

abbrev pub watch_of : code_watch.Watch → Watching
watch_of w = record { kind = w.kind; watched = program w.watched; body = program w.listener }

abbrev pub listener_of : code_listener.Listener → Hearing
listener_of l = record { name = l.name; body = program l.program }

abbrev pub programs_of : code.Programs → Programs
programs_of p = record {
  functions = map function_of p.functions.items;
  watches = map watch_of p.watches.items;
  listeners = map listener_of p.listeners.items;
  link = program p.link;
}
