use Rattle.std.proofs.Common.{◌≡◌, ◌≤◌, length, map}
use Rattle.ng_core.specs.Frames.{state_of, IsSound}
use Rattle.ng_steps.specs.Attending.{declares_all}
use Rattle.ng_parts.specs.ProgramsOf.{watch_of}
use Rattle.ng_steps.proofs.attending.declare_all.Given as goal

abbrev pub invariant-loop-watch : goal.invariant-loop-watch
invariant-loop-watch l = record {
  run : declares_all l.scope.0 (map watch_of l.watch-iterator.rest.items) (state_of l.core) ≡ declares_all l.scope.0 (map watch_of l.initial.watch-iterator.rest.items) (state_of l.initial.core);
  sound : IsSound l.core;
  depth : l.core.depth ≡ l.initial.core.depth;
  count : length l.core.scopes ≡ length l.initial.core.scopes;
  grown : length l.initial.core.store ≤ length l.core.store;
}
