-- What the reader's types stand for.
use Rattle.std.specs.Prelude.{ℕ, List, map, reverse}
use Rattle.ng_markup.specs.Forest.{Forest}
use Rattle.ng_html.specs.Seen.{forest_of}
use Rattle.ng_html.specs.Building.{Around, State}
use Rattle.ng_html.specs.declared.build.Pending.{Pending}
use Rattle.ng_html.specs.declared.build.Builder.{Builder}
use Rattle.ng_html.specs.declared.source.Source.{Source}

abbrev pub around_of : Pending → Around
around_of p = record { name = p.name; attributes = p.attrs; before = forest_of p.before }

-- the innermost first
abbrev pub arounds : List Pending → List Around
arounds ps = reverse (map around_of ps)

abbrev pub state_of : Builder → State
state_of b = record { stack = arounds b.stack.items; done = forest_of b.done }

abbrev pub source_of : Source → Forest × List ℕ
source_of s = (forest_of s.forest, s.places)
