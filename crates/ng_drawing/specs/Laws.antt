-- What is proved of templates by their definitions alone.
use Rattle.std.specs.Prelude.{◌≡◌, ◌+◌, ℕ, List}
use Rattle.ng_base.specs.Objects.{Object}
use Rattle.ng_behaviour.specs.Scopes.{Scope}
use Rattle.ng_drawing.specs.Template.{Parts}
use Rattle.ng_drawing.specs.Drawing.{Look, Groups, draw, Now, GroupsNow, shown_as, render}
use Rattle.ng_drawing.specs.Instance.{Instance, shown, rendering, IsFresh}
use Rattle.ng_drawing.specs.Nodes.{forest_count, nodes, filled}

-- where each site and each outlet shows now what it showed when it was drawn, the drawing is the rendering
abbrev pub FreshDrawingIsRendering : Type 0
FreshDrawingIsRendering =
    (look : Look) (groups : Groups) (now : Now) (groups_now : GroupsNow) (parts : Parts) → ((n : ℕ) → now n ≡ shown_as (look n)) → ((o : ℕ) → groups_now o ≡ shown_as (groups o))
    → render now groups_now parts ≡ shown_as (draw look groups parts)

-- a fresh instance shows its rendering
abbrev pub FreshInstanceIsRendering : Type 0
FreshInstanceIsRendering = (objects : List Object) (scopes : List Scope) (i : Instance) → IsFresh objects scopes i → rendering objects scopes i ≡ shown_as (shown i)

-- the nodes of a drawing are those of its parts and those that fill its outlets, whatever its sites show
abbrev pub DrawingHasItsNodes : Type 0
DrawingHasItsNodes = (look : Look) (groups : Groups) (parts : Parts) → forest_count (draw look groups parts) ≡ nodes parts + filled (λ o. forest_count (groups o)) parts
