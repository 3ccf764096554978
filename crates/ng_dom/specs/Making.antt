-- New nodes.
use Rattle.std.specs.Prelude.{ℕ, nat_lt, Bool, true, false, [], Result, Ok, Err, if◌then◌else◌}
use Rattle.ng_base.specs.declared.name.NodeId.{NodeId}
use Rattle.ng_base.specs.declared.fault.Memory.TheVariants.{Refused, Worn}
use Rattle.ng_dom.specs.Nodes.{NamedNode, named_text, named_comment, named_element, named_anchor, nothing_named, no_groups}
use Rattle.ng_dom.specs.declared.fault.DomFault.{DomFault}
use Rattle.ng_dom.specs.declared.fault.DomFault.TheVariants.{NodeLimit, Memory}
use Rattle.ng_dom.specs.declared.record.NewNode.{NewNode}
use Rattle.ng_dom.specs.declared.record.NewNode.TheVariants.{Element, Text, Comment}
use Rattle.ng_dom.specs.declared.record.Part.{Part}
use Rattle.ng_dom.specs.declared.record.Part.TheVariants.{Node, Anchor}

-- the most nodes that may be live
abbrev pub node_limit : ℕ
node_limit = 200000

-- the name of the next node, where so many are live
abbrev pub new_name : ℕ → ℕ → Result NodeId DomFault
new_name live next =
    if nat_lt live node_limit then (if nat_lt next 18446744073709551615 then Ok (record { slot = 0; made = record { 0 = next } }) else Err (Memory Worn))
    else Err NodeLimit

-- want of memory
abbrev pub is_want : DomFault → Bool
is_want (Memory Refused) = true
is_want (Memory Worn) = false
is_want NodeLimit = false

-- a new node of a name: an element has no attribute and no child yet
abbrev pub new_node : ℕ → NewNode → NamedNode
new_node n (Element e) = named_element n e [] nothing_named
new_node n (Text t) = named_text n t
new_node n (Comment t) = named_comment n t

-- a part of a template, made anew: an anchor has no group yet
abbrev pub new_part : ℕ → Part → NamedNode
new_part n (Node x) = new_node n x
new_part n Anchor = named_anchor n no_groups
