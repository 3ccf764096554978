use Rattle.std.proofs.Common.{◌≡◌, ◌++◌, drop, map}
use Rattle.ng_html.specs.Attrs.{attr_of}
use Rattle.ng_collect.specs.Cloak.{kept_attributes}
use Rattle.ng_collect.proofs.cloak.kept_attrs.Given as goal

abbrev pub invariant-loop-attr : goal.invariant-loop-attr
invariant-loop-attr l = l.kept ++ kept_attributes (map attr_of (drop l.attr-index l.attr-items)) ≡ kept_attributes (map attr_of l.attr-items)
