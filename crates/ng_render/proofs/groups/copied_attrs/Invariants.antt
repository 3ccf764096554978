use Rattle.std.proofs.Common.{◌≡◌, ◌++◌, map, drop}
use Rattle.ng_html.specs.Attrs.{attr_of}
use Rattle.ng_render.proofs.groups.copied_attrs.Given as goal

abbrev pub invariant-loop-attr : goal.invariant-loop-attr
invariant-loop-attr l = l.copy ++ map attr_of (drop l.attr-index l.attr-items) ≡ map attr_of l.attr-items
