use Rattle.std.proofs.Common.{◌≡◌, ◌++◌, map}
use Rattle.ng_app.specs.ProgramsOf.{partial_of}
use Rattle.ng_app.specs.Templates.{all_named}
use Rattle.ng_compose.specs.DirectivesOf.{directives_of}
use Rattle.ng_compose.specs.Kept.{templates_of}
use Rattle.ng_app.proofs.installing.keep_all.Given as goal

abbrev pub invariant-loop-one : goal.invariant-loop-one
invariant-loop-one l = record {
  templates : templates_of l.templates ++ all_named (map partial_of l.one-iterator.rest.items) ≡ templates_of l.initial.templates ++ all_named (map partial_of l.initial.one-iterator.rest.items);
  directives : directives_of l.templates ≡ directives_of l.initial.templates;
}
