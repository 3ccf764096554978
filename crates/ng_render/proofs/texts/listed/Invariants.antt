use Rattle.std.proofs.Common.{◌≡◌}
use Rattle.ng_render.proofs.texts.listed.Given as goal

abbrev pub invariant-loop-name : goal.invariant-loop-name
invariant-loop-name l = l.attrs ≡ l.yielded
