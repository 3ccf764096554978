-- What stands under the key of a watcher: nothing of what is linked, as under that of a declared watch, or a site. A site is drawn in a node, and it
-- is a binding's, or it fills outlets, mostly none (guide: HTML Compiler, "How directives are compiled").
use Rattle.std.specs.Prelude.{ℕ, ◌≡◌, Bool, true, false, List, map, Option, None, Some}
use Rattle.ng_instances.specs.Bindings.{Bound}
use Rattle.ng_instances.specs.BoundOf.{bound_of}
use Rattle.ng_instances.specs.Due.{Due, due_of, without_rows}
use Rattle.ng_instances.specs.declared.sites.Fills as code
use Rattle.ng_instances.specs.declared.sites.Fills.TheVariants.{Writes, Outlets}
use Rattle.ng_instances.specs.declared.sites.SiteHere.{SiteHere}

-- what the fire of a site writes, or the outlets that it fills
abbrev pub FillsAs : Option Bound → List Due → code.Fills → Type 0
FillsAs bound due (Writes b) = bound ≡ Some (bound_of b)
FillsAs bound due (Outlets os) = (bound ≡ None) × (map due_of os.items ≡ map without_rows due)

-- whether there is a site, the node that it is drawn in, and what it fills
abbrev pub StandsAs : Bool → Option ℕ → Option Bound → List Due → Option SiteHere → Type 0
StandsAs site spot bound due None = (site ≡ false) × (spot ≡ None)
StandsAs site spot bound due (Some h) = (site ≡ true) × ((spot ≡ Some h.node.made.0) × FillsAs bound due h.fills)
