-- What an attribute of the code stands for.
use Rattle.std.specs.Prelude.{ℕ, List, map}
use Rattle.ng_drawing.specs.Template.{Hiding, while_true, while_false, PartClass, PartValue, always, unless_empty, flag, classes}
use Rattle.ng_parts.specs.declared.classes.Hiding as code_hiding
use Rattle.ng_parts.specs.declared.classes.Hiding.TheVariants as hidings
use Rattle.ng_parts.specs.declared.classes.ClassValue as code_class
use Rattle.ng_parts.specs.declared.pieces.Attribute.{Attribute}
use Rattle.ng_parts.specs.declared.pieces.AttributeValue.{AttributeValue}
use Rattle.ng_parts.specs.declared.pieces.AttributeValue.TheVariants as code

abbrev pub hiding_of : code_hiding.Hiding → Hiding
hiding_of (hidings.WhileTrue n) = while_true n
hiding_of (hidings.WhileFalse n) = while_false n

abbrev pub class_of : code_class.ClassValue → PartClass
class_of c = record { written = c.written; pieces = c.pieces; words = c.words.items; hidings = map hiding_of c.hidings.items }

abbrev pub value_of : AttributeValue → PartValue
value_of (code.Always ps) = always ps
value_of (code.UnlessEmpty ps) = unless_empty ps
value_of (code.Flag w n) = flag w n
value_of (code.Classes c) = classes (class_of c)

abbrev pub attribute_of : Attribute → List ℕ × PartValue
attribute_of a = (a.name, value_of a.value)
