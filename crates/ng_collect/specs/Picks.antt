-- What is picked where: the directives whose name and place fit.
use Rattle.std.specs.Prelude.{ℕ, ℤ, pos, Bool, ◌&&◌, true, List, [], ◌∷◌, ◌++◌, filter, Option, None, Some, if◌then◌else◌}
use Rattle.std.specs.List.{flat_map, enumerate_from}
use Rattle.std.specs.Ordering.{int_cmp, is_lt}
use Rattle.std.specs.Str.{bytes_eq}
use Rattle.ng_collect.specs.declared.definition.DirectiveDef.{DirectiveDef}
use Rattle.ng_collect.specs.declared.pick.Directive.{Directive}
use Rattle.ng_collect.specs.declared.pick.Directive.TheVariants.{Core, Interpolated, User}
use Rattle.ng_collect.specs.declared.pick.Pick.{Pick}
use Rattle.ng_collect.specs.declared.spots.Spot.{Spot}
use Rattle.ng_collect.specs.declared.table.CoreDirective.{CoreDirective}
use Rattle.ng_collect.specs.Definitions.{allows_elements, allows_attributes}
use Rattle.ng_collect.specs.Spots.{stands_at, on_attribute, is_interpolated}
use Rattle.ng_collect.specs.Table.{named, priority}

abbrev pub pick : Directive → ℤ → Spot → Pick
pick d p s = record { directive = d; name = s.name; priority = p; attribute = s.attribute }

-- the core's directive of this name
abbrev pub core_pick : Option CoreDirective → Spot → List Pick
core_pick None s = []
core_pick (Some d) s = if stands_at s d then pick (Core d) (priority d) s ∷ [] else []

abbrev pub interpolated_priority : ℤ
interpolated_priority = pos 100

abbrev pub interpolated_pick : Spot → List Pick
interpolated_pick s = if is_interpolated s then pick Interpolated interpolated_priority s ∷ [] else []

-- a directive of the application has this name, and stands on what this is
abbrev pub fits : DirectiveDef → Spot → Bool
fits d s = bytes_eq d.name s.name && (if on_attribute s then allows_attributes d.restrict else allows_elements d.restrict)

abbrev pub user_pick : Spot → ℕ × DirectiveDef → List Pick
user_pick s d = if fits d.1 s then pick (User d.0) d.1.priority s ∷ [] else []

abbrev pub picks_at : List DirectiveDef → Spot → List Pick
picks_at defs s = core_pick (named s.name) s ++ interpolated_pick s ++ flat_map (user_pick s) (enumerate_from 0 defs)

-- a block leaves to its body what has a lower priority than itself
abbrev pub is_below : Option ℤ → Pick → Bool
is_below None p = true
is_below (Some limit) p = is_lt (int_cmp p.priority limit)

-- all that fit an element, in the order of its attributes
abbrev pub all_picks : List DirectiveDef → Option ℤ → List Spot → List Pick
all_picks defs limit ss = filter (is_below limit) (flat_map (picks_at defs) ss)
