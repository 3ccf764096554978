-- Events in a row.
use Rattle.std.specs.Prelude.{ℕ, List, [], ◌∷◌, Result}
use Rattle.ng_base.specs.Meets.{◌>>=◌}
use Rattle.ng_markup.specs.Forest.{Forest, no_nodes, node}
use Rattle.ng_tags.specs.declared.event.Event.{Event}
use Rattle.ng_tags.specs.declared.fault.HtmlFault.{HtmlFault}
use Rattle.ng_html.specs.Building.{State, take_event, finished}

-- the forest of events, one after the other
abbrev pub run : ℕ → State → List Event → Result Forest HtmlFault
run total s [] = finished total s
run total s (e ∷ es) = take_event s e >>= λ t. run total t es

-- one forest behind another
abbrev pub joined : Forest → Forest → Forest
joined no_nodes f = f
joined (node n d) f = node n (joined d f)
