use Rattle.std.proofs.Common.{drop}
use Rattle.ng_collect.specs.Definitions.{AreBindings}
use Rattle.ng_collect.proofs.definition.are_bindings.Given as goal

abbrev pub invariant-loop-spec : goal.invariant-loop-spec
invariant-loop-spec l = record {
  whole : AreBindings (drop l.spec-index l.specs) → AreBindings l.specs;
  rest : AreBindings l.specs → AreBindings (drop l.spec-index l.specs);
}
