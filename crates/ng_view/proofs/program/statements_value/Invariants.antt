use Rattle.std.proofs.Common.{◌≡◌, map, drop, length}
use Rattle.ng_base.specs.ViewOf.{view_of}
use Rattle.ng_language.specs.Trees.{trees_from}
use Rattle.ng_language.specs.Views.{ViewStands}
use Rattle.ng_parse.specs.TreeOf.{tree}
use Rattle.ng_evaluation.specs.Purity.{FiltersKnown}
use Rattle.ng_evaluation.specs.Evaluation.{evaluated_statements, evaluated_program}
use Rattle.ng_view.proofs.program.statements_value.Given as goal

abbrev pub invariant-loop-statement : goal.invariant-loop-statement
invariant-loop-statement l = record {
  known : FiltersKnown (trees_from (map tree (drop l.statement-index l.statements)));
  stands : ViewStands (length l.store) (view_of l.value);
  same : evaluated_statements l.store l.scope.0 l.locals (view_of l.value) (trees_from (map tree (drop l.statement-index l.statements)))
      ≡ evaluated_program l.store l.scope.0 l.locals (trees_from (map tree l.statements));
}
