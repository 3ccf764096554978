use Rattle.std.proofs.Common.{◌≡◌, ◌++◌, map}
use Rattle.ng_app.specs.Directives.{all_unnamed, all_programs}
use Rattle.ng_app.specs.ProgramsOf.{directive_of}
use Rattle.ng_compose.specs.Kept.{templates_of}
use Rattle.ng_compose.specs.DirectivesOf.{directives_of}
use Rattle.ng_app.proofs.installing.keep_directives.Given as goal

abbrev pub invariant-loop-one : goal.invariant-loop-one
invariant-loop-one l = record {
  templates : templates_of l.templates ++ all_unnamed (map directive_of l.one-iterator.rest.items) ≡ templates_of l.initial.templates ++ all_unnamed (map directive_of l.initial.one-iterator.rest.items);
  programs : directives_of l.templates ++ all_programs (map directive_of l.one-iterator.rest.items) ≡ directives_of l.initial.templates ++ all_programs (map directive_of l.initial.one-iterator.rest.items);
}
