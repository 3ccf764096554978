use Rattle.std.proofs.Common.{◌≡◌, ◌<◌, ◌-◌, length}
use Rattle.ng_core.specs.Burying.{hushes}
use Rattle.ng_core.specs.Frames.{state_of, held, IsSound}
use Rattle.ng_core.proofs.burying.hush.Given as goal

abbrev pub invariant-loop-i : goal.invariant-loop-i
invariant-loop-i l = record {
  sound : IsSound l.core;
  held : held l.core ≡ held l.initial.core;
  depth : l.core.depth ≡ l.initial.core.depth;
  scopes : l.core.scopes ≡ l.initial.core.scopes;
  store : l.core.store ≡ l.initial.core.store;
  within : l.last.0 < length l.core.scopes;
  same : hushes (l._i-end - l._i) l.top.0 l.last.0 (state_of l.core) ≡ hushes l._i-end l.top.0 l.initial.last.0 (state_of l.initial.core);
}
