use Rattle.std.proofs.Common.{◌≡◌, ◌-◌, length}
use Rattle.ng_drawing.specs.Composing.{padded}
use Rattle.ng_compose.proofs.composed.pad.Given as goal

abbrev pub invariant-loop-done : goal.invariant-loop-done
invariant-loop-done l = record {
  place : l.done ≡ length l.moved.items;
  rest : padded l.n l.moved.items ≡ padded l.n l.initial.moved.items;
}

abbrev pub decreases-loop-done : goal.decreases-loop-done
decreases-loop-done l = l.n - l.done
