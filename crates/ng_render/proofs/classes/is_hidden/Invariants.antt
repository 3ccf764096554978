use Rattle.std.proofs.Common.{◌≡◌, drop, map}
use Rattle.std.specs.Prelude.{◌||◌}
use Rattle.ng_drawing.specs.Drawing.{render_hidings}
use Rattle.ng_parts.specs.AttributeOf.{hiding_of}
use Rattle.ng_render.specs.OverOf.{now_over}
use Rattle.ng_render.proofs.Walks.{behind}
use Rattle.ng_render.proofs.classes.is_hidden.Given as goal

abbrev pub invariant-loop-hiding : goal.invariant-loop-hiding
invariant-loop-hiding l = behind ◌||◌ l.hidden (render_hidings (now_over l.over) (map hiding_of (drop l.hiding-index l.hidings))) ≡ render_hidings (now_over l.over) (map hiding_of l.hidings)
