use Rattle.std.proofs.Common.{◌≡◌, ◌+◌, ◌≤◌, length}
use Rattle.ng_template.specs.Compiles.{nested}
use Rattle.ng_template.specs.AroundOf.{blocks_of}
use Rattle.ng_parts.specs.FragmentOf.{fragments_of}
use Rattle.ng_directives.specs.Limits.{site_limit}
use Rattle.ng_template.proofs.wrapping.nest.Given as goal

abbrev pub invariant-loop-head : goal.invariant-loop-head
invariant-loop-head l = record {
  bodies : nested (blocks_of l.left.items) (fragments_of l.bodies.items) ≡ nested (blocks_of l.initial.left.items) (fragments_of l.initial.bodies.items);
  fits : length l.bodies.items + length l.left.items ≤ site_limit;
}

abbrev pub decreases-loop-head : goal.decreases-loop-head
decreases-loop-head l = length l.left.items
