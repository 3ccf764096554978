use Rattle.std.proofs.Common.{◌≡◌, ◌≤◌, length, map}
use Rattle.ng_core.specs.Frames.{state_of, IsSound}
use Rattle.ng_steps.specs.Attending.{installs_all}
use Rattle.ng_parts.specs.ProgramsOf.{function_of}
use Rattle.ng_steps.proofs.attending.install_all.Given as goal

abbrev pub invariant-loop-function : goal.invariant-loop-function
invariant-loop-function l = record {
  run : installs_all l.scope.0 (map function_of l.function-iterator.rest.items) (state_of l.core) ≡ installs_all l.scope.0 (map function_of l.initial.function-iterator.rest.items) (state_of l.initial.core);
  sound : IsSound l.core;
  depth : l.core.depth ≡ l.initial.core.depth;
  count : length l.core.scopes ≡ length l.initial.core.scopes;
  grown : length l.initial.core.store ≤ length l.core.store;
}
