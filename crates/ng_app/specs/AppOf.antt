-- What an application that was read stands for.
use Rattle.std.specs.Prelude.{map}
use Rattle.ng_core.specs.Frames.{state_of}
use Rattle.ng_parse.specs.ProgramOf.{program}
use Rattle.ng_app.specs.App.{Facts}
use Rattle.ng_parts.specs.ProgramsOf.{function_of, watch_of, listener_of}
use Rattle.ng_app.specs.ProgramsOf.{partial_of, directive_of}
use Rattle.ng_app.specs.declared.app.App.{App}

abbrev pub facts : App → Facts
facts app = record {
  core = state_of app.core;
  definitions = app.registry;
  templates = map partial_of app.templates.items;
  directives = map directive_of app.directives.items;
  functions = map function_of app.functions.items;
  run = program app.run;
  watches = map watch_of app.watches.items;
  listeners = map listener_of app.listeners.items;
}
