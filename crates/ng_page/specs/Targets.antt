-- What commands are aimed at, in the document that is displayed.
use Rattle.std.specs.Prelude.{ℕ, Option, None, Some}
use Rattle.ng_base.specs.declared.path.Target.{Target}
use Rattle.ng_base.specs.declared.path.Target.TheVariants as target
use Rattle.ng_dom.specs.Asked.{first_with_id}
use Rattle.ng_dom.specs.Nodes.{NamedNode, NamedForest, named_element}
use Rattle.ng_dom.specs.Printed.{at_place}

-- the name of a node that is an element
abbrev pub element_name : Option NamedNode → Option ℕ
element_name None = None
element_name (Some (named_element n e ats f)) = Some n
element_name (Some x) = None

-- the first element with an id, in document order; or the node at a path, where that is an element
abbrev pub target_in : Target → NamedForest → Option ℕ
target_in (target.Id id) f = first_with_id id f
target_in (target.Path p) f = element_name (at_place p f)
