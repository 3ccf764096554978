-- What a compiled template, one that is being made, and an element that is being made stand for.
use Rattle.ng_drawing.specs.Template as template
use Rattle.ng_parts.specs.FragmentOf.{fragment_of, fragments_of}
use Rattle.ng_parts.specs.declared.tpl.Tpl.{Tpl}

abbrev pub template_of : Tpl → template.Template
template_of t = record { own = fragment_of t.own; bodies = fragments_of t.bodies.items }
