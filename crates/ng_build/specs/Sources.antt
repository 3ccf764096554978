-- What each node of a document is drawn from, in the words of the drawing.
use Rattle.std.specs.Prelude.{ℕ, map, Option, option_map}
use Rattle.ng_dom.specs.Document.{homes}
use Rattle.ng_dom.specs.Drawing.{Source, of_text, of_comment, of_element}
use Rattle.ng_dom.specs.declared.dom.Dom.{Dom}
use Rattle.ng_dom.specs.declared.record.Home.{Home}
use Rattle.ng_dom.specs.declared.record.Home.TheVariants.{Plain, Text, Attributes}
use Rattle.ng_build.specs.Seen.{drawn_of}

abbrev pub source_of : Home → Source
source_of Plain = of_comment
source_of (Text ps) = of_text ps.items
source_of (Attributes ats) = of_element (map drawn_of ats.items)

abbrev pub sources : Dom → ℕ → Option Source
sources d q = option_map source_of (homes d q)
