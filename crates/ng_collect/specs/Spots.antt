-- Where directives may stand: on the element itself, and on each of its attributes.
use Rattle.std.specs.Prelude.{ℕ, Bool, false, not, ◌&&◌, ◌||◌, List, ◌∷◌, map, Option, None, Some, is_some}
use Rattle.std.specs.Option.{option_map_or}
use Rattle.ng_markup.specs.Forest.{Attributes}
use Rattle.ng_tags.specs.declared.attrs.Attr.{Attr}
use Rattle.ng_collect.specs.declared.spots.Spot.{Spot}
use Rattle.ng_collect.specs.declared.table.CoreDirective.{CoreDirective}
use Rattle.ng_collect.specs.Holes.{has_hole}
use Rattle.ng_collect.specs.Names.{directive_name, is_core, begins_on}
use Rattle.ng_collect.specs.Table.{named, stands_on_elements, is_plain_name, is_cloak}

abbrev pub element_spot : List ℕ → Spot
element_spot name = record { name = directive_name name; attribute = None }

abbrev pub attribute_spot : List ℕ × List ℕ → Spot
attribute_spot a = record { name = directive_name a.0; attribute = Some (record { name = a.0; value = a.1 }) }

abbrev pub spots : List ℕ → Attributes → List Spot
spots name attributes = element_spot name ∷ map attribute_spot attributes

abbrev pub on_attribute : Spot → Bool
on_attribute s = is_some s.attribute

-- a directive of the core stands on attributes, and some on elements too
abbrev pub stands_at : Spot → CoreDirective → Bool
stands_at s d = on_attribute s || stands_on_elements d

-- a directive of the core has this name, and stands here
abbrev pub has_core_directive : Spot → Bool
has_core_directive s = option_map_or (stands_at s) (named s.name) false

-- a name of the core that this profile does not have here
abbrev pub is_foreign : Spot → Bool
is_foreign s = is_core s.name && not (is_cloak s.name) && not (is_plain_name s.name) && not (has_core_directive s)

abbrev pub value_has_hole : Option Attr → Bool
value_has_hole None = false
value_has_hole (Some a) = has_hole a.value

-- an attribute with a hole, unless its name is one of the core's that has a meaning of its own
abbrev pub is_interpolated : Spot → Bool
is_interpolated s = (not (is_core s.name) || is_plain_name s.name) && value_has_hole s.attribute

-- a browser's event with a hole in its program
abbrev pub is_interpolated_event : Spot → Bool
is_interpolated_event s = begins_on s.name && is_interpolated s

abbrev pub is_left_out_at : Spot → Bool
is_left_out_at s = is_foreign s || is_interpolated_event s
