use Rattle.std.proofs.Common.{◌≡◌, drop, map}
use Rattle.ng_html.specs.Attrs.{attr_of}
use Rattle.ng_elements.specs.Elements.{class_in}
use Rattle.ng_elements.proofs.elements.class_in.Given as goal

abbrev pub invariant-loop-attr : goal.invariant-loop-attr
invariant-loop-attr l = class_in (map attr_of (drop l.attr-index l.attr-items)) ≡ class_in (map attr_of l.attr-items)
