use Rattle.std.proofs.Common.{◌≡◌, ◌++◌, drop, map}
use Rattle.ng_parts.specs.AttributeOf.{attribute_of}
use Rattle.ng_build.specs.Seen.{drawn_of}
use Rattle.ng_build.specs.Shape.{keys_by, linked_values}
use Rattle.ng_build.proofs.copying.copied_attributes.Given as goal

abbrev pub invariant-loop-attribute : goal.invariant-loop-attribute
invariant-loop-attribute l =
    map drawn_of l.copy.items ++ linked_values (keys_by l.keys) (map attribute_of (drop l.attribute-index l.attributes)) ≡ linked_values (keys_by l.keys) (map attribute_of l.attributes)
