use Rattle.std.proofs.Common.{◌≡◌, ◌≤◌, length, map}
use Rattle.ng_core.specs.Frames.{state_of, IsSound}
use Rattle.ng_steps.specs.Attending.{registers_all}
use Rattle.ng_parts.specs.ProgramsOf.{listener_of}
use Rattle.ng_steps.proofs.attending.hear_all.Given as goal

abbrev pub invariant-loop-listener : goal.invariant-loop-listener
invariant-loop-listener l = record {
  run : registers_all l.scope.0 (map listener_of l.listener-iterator.rest.items) (state_of l.core) ≡ registers_all l.scope.0 (map listener_of l.initial.listener-iterator.rest.items) (state_of l.initial.core);
  sound : IsSound l.core;
  depth : l.core.depth ≡ l.initial.core.depth;
  count : length l.core.scopes ≡ length l.initial.core.scopes;
  grown : length l.initial.core.store ≤ length l.core.store;
}
