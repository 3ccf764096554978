use Rattle.std.proofs.Common.{◌≡◌, map, length}
use Rattle.ng_core.specs.Frames.{state_of, IsSound}
use Rattle.ng_app.specs.Installing.{declares_all}
use Rattle.ng_parts.specs.ProgramsOf.{watch_of}
use Rattle.ng_app.proofs.installing.declare_all.Given as goal

abbrev pub invariant-loop-watch : goal.invariant-loop-watch
invariant-loop-watch l = record {
  state : declares_all (map watch_of l.watch-iterator.rest.items) (state_of l.core) ≡ declares_all (map watch_of l.initial.watch-iterator.rest.items) (state_of l.initial.core);
  sound : IsSound l.core;
  scopes : length l.core.scopes ≡ length l.initial.core.scopes;
  depth : l.core.depth ≡ l.initial.core.depth;
}
