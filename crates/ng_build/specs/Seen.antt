-- What the pieces of nodes stand for.
use Rattle.std.specs.Prelude.{ℕ, List, map, Result, Ok, Err}
use Rattle.ng_base.specs.declared.fault.Fault.{Fault}
use Rattle.ng_base.specs.declared.fault.Fault.TheVariants as fault
use Rattle.ng_base.specs.declared.name.NodeId.{NodeId}
use Rattle.ng_dom.specs.Nodes.{NamedForest, named_then, named_element, nothing_named}
use Rattle.ng_dom.specs.declared.fault.DomFault.{DomFault}
use Rattle.ng_dom.specs.declared.fault.DomFault.TheVariants.{NodeLimit, Memory}
use Rattle.ng_dom.specs.Drawing.{DrawnHiding, while_true, while_false, DrawnClass, DrawnValue, always, unless_empty, flag, classes}
use Rattle.ng_dom.specs.declared.record.Hiding as code_hiding
use Rattle.ng_dom.specs.declared.record.Hiding.TheVariants as hidings
use Rattle.ng_dom.specs.declared.record.DrawnClass as code_class
use Rattle.ng_dom.specs.declared.record.Drawn.{Drawn}
use Rattle.ng_dom.specs.declared.record.DrawnValue as code
use Rattle.ng_dom.specs.declared.record.DrawnValue.TheVariants as drawn

-- the fault of a page that a document's fault is
abbrev pub fault_of : DomFault → Fault
fault_of NodeLimit = fault.NodeLimit
fault_of (Memory m) = fault.Memory m

-- an answer of the document, as one of the page
abbrev pub named_as : Result NodeId DomFault → Result NodeId Fault
named_as (Ok n) = Ok n
named_as (Err e) = Err (fault_of e)

abbrev pub hiding_of : code_hiding.Hiding → DrawnHiding
hiding_of (hidings.WhileTrue k) = while_true k
hiding_of (hidings.WhileFalse k) = while_false k

abbrev pub class_of : code_class.DrawnClass → DrawnClass
class_of c = record { written = c.written; pieces = c.pieces.items; words = c.words.items; hidings = map hiding_of c.hidings.items }

abbrev pub drawn_value_of : code.DrawnValue → DrawnValue
drawn_value_of (drawn.Always ps) = always ps.items
drawn_value_of (drawn.UnlessEmpty ps) = unless_empty ps.items
drawn_value_of (drawn.Flag w k) = flag w k
drawn_value_of (drawn.Classes c) = classes (class_of c)

abbrev pub drawn_of : Drawn → List ℕ × DrawnValue
drawn_of a = (a.name, drawn_value_of a.value)

-- an element alone, with these attributes and without children
abbrev pub lone_element : ℕ → List ℕ → List (List ℕ × List ℕ) → NamedForest
lone_element n e ats = named_then (named_element n e ats nothing_named) nothing_named
