use Rattle.std.proofs.Common.{◌≡◌, [], drop, map}
use Rattle.ng_drawing.specs.Drawing.{render_attributes}
use Rattle.ng_parts.specs.AttributeOf.{attribute_of}
use Rattle.ng_render.specs.OverOf.{now_over}
use Rattle.ng_render.proofs.texts.set_all.Given as goal

abbrev pub invariant-loop-attribute : goal.invariant-loop-attribute
invariant-loop-attribute l = render_attributes (now_over l.over) (map attribute_of (drop l.attribute-index l.attribute-items)) l.made.entries ≡ render_attributes (now_over l.over) (map attribute_of l.attribute-items) []
