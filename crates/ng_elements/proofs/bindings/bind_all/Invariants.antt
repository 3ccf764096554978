use Rattle.std.proofs.Common.{◌≡◌, map, true}
use Rattle.ng_parts.specs.ActsOf.{binding_of}
use Rattle.ng_parts.specs.FragmentOf.{sites_of}
use Rattle.ng_elements.specs.ReadOf.{properties_of}
use Rattle.ng_elements.specs.Using.{are_known, all_pure, all_bound}
use Rattle.ng_elements.proofs.bindings.bind_all.Given as goal

abbrev pub invariant-loop-property : goal.invariant-loop-property
invariant-loop-property l = record {
  rest : all_bound (map binding_of l.bindings.items) (properties_of l.property-iterator.rest.items) (sites_of l.now.items)
      ≡ all_bound (map binding_of l.initial.bindings.items) (properties_of l.initial.property-iterator.rest.items) (sites_of l.initial.now.items);
  known : are_known (properties_of l.property-iterator.rest.items) ≡ true;
  pure : all_pure (properties_of l.property-iterator.rest.items) ≡ true;
}
