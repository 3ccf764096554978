use Rattle.std.proofs.Common.{◌≡◌, drop, map}
use Rattle.ng_html.specs.Attrs.{attr_of}
use Rattle.ng_elements.specs.Using.{attribute_for}
use Rattle.ng_elements.proofs.bindings.attribute_for.Given as goal

abbrev pub invariant-loop-attr : goal.invariant-loop-attr
invariant-loop-attr l = attribute_for l.name (map attr_of (drop l.attr-index l.attr-items)) ≡ attribute_for l.name (map attr_of l.attr-items)
