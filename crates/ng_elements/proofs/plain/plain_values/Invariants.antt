use Rattle.std.proofs.Common.{◌≡◌, ◌++◌, drop, map}
use Rattle.ng_html.specs.Attrs.{attr_of}
use Rattle.ng_elements.specs.Plain.{plain_values}
use Rattle.ng_elements.proofs.plain.plain_values.Given as goal

abbrev pub invariant-loop-attr : goal.invariant-loop-attr
invariant-loop-attr l = l.values ++ plain_values (map attr_of (drop l.attr-index l.attr-items)) ≡ plain_values (map attr_of l.attr-items)
