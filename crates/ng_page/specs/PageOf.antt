-- What a page of the code stands for.
use Rattle.std.specs.Prelude.{◌≡◌, false}
use Rattle.ng_dom.specs.Document as document
use Rattle.ng_dom.specs.Nodes.{NamedForest}
use Rattle.ng_drawing.specs.InstanceOf.{Fragments}
use Rattle.ng_link.specs.Standing as standing
use Rattle.ng_link.specs.State as link
use Rattle.ng_markup.specs.Forest.{Forest}
use Rattle.ng_drawing.specs.Named.{fragments_in}
use Rattle.ng_commands.specs.BetweenSteps.{PageIs}
use Rattle.ng_page.specs.declared.page.Page.{Page}

abbrev pub state_of : Page → link.State
state_of p = link.state_of p.engine.works

-- the fragments of its templates, by their numbers
abbrev pub fragments_of : Page → Fragments
fragments_of p = fragments_in (link.templates_of p.engine.works)

-- What holds of a page, unless memory ran out: what stands of its template is known, node by node, and each site is watched.
abbrev pub IsPage : Page → Type 0
IsPage p = p.spent ≡ false → PageIs p.engine.works

-- the document that a page shows, without the names of its nodes, is this one
abbrev pub Displays : Page → Forest → Type 0
Displays p f = standing.Displays p.engine.works f

-- the document that a page shows, with the names of its nodes, is this one
abbrev pub Names : Page → NamedForest → Type 0
Names p f = document.Shows p.engine.works.dom f
