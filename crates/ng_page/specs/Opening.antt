-- How a page is opened: what the application installs and registers, its first program, and its template, which is linked on
-- the root scope (guide: HTML Compiler; Scopes, "Integration with the browser event loop").
use Rattle.std.specs.Prelude.{List, [], ◌∷◌, ◌++◌, Option, None, Some}
use Rattle.ng_core.specs.State as act
use Rattle.ng_app.specs.App.{Facts}
use Rattle.ng_app.specs.Directives.{all_unnamed, all_programs}
use Rattle.ng_app.specs.Installing.{installed}
use Rattle.ng_app.specs.Templates.{all_named}
use Rattle.ng_base.specs.declared.fault.Fault.{Fault}
use Rattle.ng_drawing.specs.Origins.{plain_origin, first_home}
use Rattle.ng_drawing.specs.Template.{Template}
use Rattle.ng_drawing.specs.declared.origin.Origin.{Origin}
use Rattle.ng_steps.specs.Links.{Linking, link_at}
use Rattle.ng_changes.specs.Runs.{followed, program_run}
use Rattle.ng_instances.specs.Changing.{at_top}
use Rattle.ng_link.specs.Calls.{blank, with_core}
use Rattle.ng_link.specs.State as link
use Rattle.ng_drawing.specs.Named.{Named, fragments_in}

-- the page's own template, those of directives, and those that may be included
abbrev pub templates_for : Template → Facts → List Named
templates_for t f = (None, t) ∷ (all_unnamed f.directives ++ all_named f.templates)

-- what is installed and registered on the root, and then the first program
abbrev pub prepared : Template → Facts → link.State
prepared t f = followed (program_run 0 f.run (installed f)) (blank (templates_for t f) (all_programs f.directives) (installed f))

-- where the linking meets a fault, that is handed over, and nothing stands
abbrev pub linked_by : Option Fault → link.State → link.State
linked_by None s = s
linked_by (Some f) s = with_core (act.with_fault f s.core) s

-- the page's own template is the first
abbrev pub page_origin : Origin
page_origin = plain_origin (first_home (record { 0 = 0 })) 0

abbrev pub linked_from : Linking → link.State
linked_from l = linked_by l.fault l.state

-- its fragment has the templates of directives in it
abbrev pub linked_on : link.State → link.State
linked_on s = linked_from (link_at at_top page_origin 0 [] (fragments_in s.templates page_origin) s)

-- a page right after its template was linked
abbrev pub opening : Facts → Template → link.State
opening f t = linked_on (prepared t f)
