-- The directives of an element (guide: HTML Compiler, "How directives are compiled").
use Rattle.std.specs.Prelude.{ℕ, ℤ, List, [], Option, Result, Ok, Err, if◌then◌else◌}
use Rattle.ng_markup.specs.Forest.{Attributes, Node, element, text, comment}
use Rattle.ng_collect.specs.declared.definition.DirectiveDef.{DirectiveDef}
use Rattle.ng_collect.specs.declared.fault.CollectFault.{CollectFault}
use Rattle.ng_collect.specs.declared.fault.CollectFault.TheVariants.{MultiDir, LeftOut}
use Rattle.ng_collect.specs.declared.pick.Pick.{Pick}
use Rattle.ng_collect.specs.Picks.{all_picks}
use Rattle.ng_collect.specs.Refused.{is_left_out, crowd_blocks, clash}
use Rattle.ng_collect.specs.Sorted.{is_before, in_order, down_to_terminal}
use Rattle.ng_collect.specs.Spots.{spots}

-- directives that exclude each other are refused
abbrev pub if_they_agree : List DirectiveDef → List Pick → Result (List Pick) CollectFault
if_they_agree defs ps = if clash defs ps then Err MultiDir else Ok ps

-- all that fit, in order, down to the priority of the first terminal one, unless one of them crowds a block
unfoldable pub picked : List DirectiveDef → List Pick → Result (List Pick) CollectFault
picked defs ps =
    if crowd_blocks ps then Err MultiDir
    else if_they_agree defs (down_to_terminal defs (in_order is_before ps))

-- the directives of an element, or the refusal of what is left out, which comes before all others
unfoldable pub picked_for : List DirectiveDef → Option ℤ → List ℕ → Attributes → Result (List Pick) CollectFault
picked_for defs limit name attributes =
    if is_left_out name attributes (spots name attributes) then Err LeftOut
    else picked defs (all_picks defs limit (spots name attributes))

-- a text and a comment have none
abbrev pub collected : List DirectiveDef → Option ℤ → Node → Result (List Pick) CollectFault
collected defs limit (element name attributes kids) = picked_for defs limit name attributes
collected defs limit (text t) = Ok []
collected defs limit (comment t) = Ok []
