use Rattle.std.proofs.Common.{◌≡◌, drop}
use Rattle.ng_drawing.specs.Drawing.{needed}
use Rattle.ng_render.specs.OverOf.{AreKnown, kept_over, now_over}
use Rattle.ng_render.proofs.parts.asked.Given as goal

abbrev pub invariant-loop-n : goal.invariant-loop-n
invariant-loop-n l = record {
  gives : needed (now_over l.over) (drop l.n-index l.own) ≡ needed (now_over l.over) l.own;
  known : AreKnown (kept_over l.over) l.known.items;
}
