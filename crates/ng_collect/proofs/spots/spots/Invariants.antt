use Rattle.std.proofs.Common.{◌≡◌, ◌++◌, ◌∷◌, drop, map}
use Rattle.ng_html.specs.Attrs.{attr_of}
use Rattle.ng_collect.specs.Spots.{element_spot, attribute_spot}
use Rattle.ng_collect.proofs.spots.spots.Given as goal

abbrev pub invariant-loop-attr : goal.invariant-loop-attr
invariant-loop-attr l =
    l.spots.items ++ map attribute_spot (map attr_of (drop l.attr-index l.attr-items))
    ≡ element_spot l.name ∷ map attribute_spot (map attr_of l.attr-items)
