use Rattle.std.proofs.Common.{◌≡◌, map, length}
use Rattle.ng_core.specs.Frames.{state_of, IsSound}
use Rattle.ng_app.specs.Installing.{registers_all}
use Rattle.ng_parts.specs.ProgramsOf.{listener_of}
use Rattle.ng_app.proofs.installing.register_all.Given as goal

abbrev pub invariant-loop-listener : goal.invariant-loop-listener
invariant-loop-listener l = record {
  state : registers_all (map listener_of l.listener-iterator.rest.items) (state_of l.core) ≡ registers_all (map listener_of l.initial.listener-iterator.rest.items) (state_of l.initial.core);
  sound : IsSound l.core;
  scopes : length l.core.scopes ≡ length l.initial.core.scopes;
  depth : l.core.depth ≡ l.initial.core.depth;
}
