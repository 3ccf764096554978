use Rattle.std.proofs.Common.{◌≡◌, map, length}
use Rattle.ng_core.specs.Frames.{state_of, IsSound}
use Rattle.ng_app.specs.Installing.{installs_all}
use Rattle.ng_parts.specs.ProgramsOf.{function_of}
use Rattle.ng_app.proofs.installing.install_all.Given as goal

abbrev pub invariant-loop-function : goal.invariant-loop-function
invariant-loop-function l = record {
  state : installs_all (map function_of l.function-iterator.rest.items) (state_of l.core) ≡ installs_all (map function_of l.initial.function-iterator.rest.items) (state_of l.initial.core);
  sound : IsSound l.core;
  scopes : length l.core.scopes ≡ length l.initial.core.scopes;
  depth : l.core.depth ≡ l.initial.core.depth;
}
