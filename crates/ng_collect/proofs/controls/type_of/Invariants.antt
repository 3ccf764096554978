use Rattle.std.proofs.Common.{◌≡◌, drop, map}
use Rattle.ng_html.specs.Attrs.{attr_of}
use Rattle.ng_collect.specs.Controls.{type_of}
use Rattle.ng_collect.proofs.controls.type_of.Given as goal

abbrev pub invariant-loop-attr : goal.invariant-loop-attr
invariant-loop-attr l = type_of (map attr_of (drop l.attr-index l.attr-items)) ≡ type_of (map attr_of l.attr-items)
