-- What is proved of templates by their definitions alone.
use Rattle.std.specs.Prelude.{◌≡◌, ℕ, List, Bool, Ok, Err, ◌⊎◌}
use Rattle.ng_collect.specs.declared.definition.DirectiveDef.{DirectiveDef}
use Rattle.ng_drawing.specs.Template.{Template}
use Rattle.ng_markup.specs.Forest.{Forest}
use Rattle.ng_template.specs.Compiles.{compiled}
use Rattle.ng_directives.specs.Limits.{worn}
use Rattle.ng_template.specs.Order.{nodes_compiled, nodes_of_fragment, FirstRefusal, NoneRefused, sites_at, holes}
use Rattle.ng_directives.specs.Texts.{counted}
use Rattle.ng_directives.specs.declared.fault.TplFault.{TplFault}

-- The sites of a template's own fragment are those of its directives, blocks and texts in document order, and have the numbers 0, 1, 2 in
-- that order.
abbrev pub SitesFollowTheDocument : Type 0
SitesFollowTheDocument = (source : Forest × List ℕ) (defs : List DirectiveDef) (slots : Bool) (t : Template) → compiled source defs slots ≡ Ok t →
    (t.own.sites ≡ sites_at defs slots (nodes_of_fragment defs slots source)) × (holes t.own.parts ≡ counted 0 t.own.sites)

-- a document compiles only where no node of it that is compiled is refused
abbrev pub CompilesWhatIsNotRefused : Type 0
CompilesWhatIsNotRefused = (source : Forest × List ℕ) (defs : List DirectiveDef) (slots : Bool) (t : Template) → compiled source defs slots ≡ Ok t →
    NoneRefused defs slots (nodes_compiled defs slots source)

-- the refusal is that of the first node in document order that is compiled and refused, at its place, unless there are too many sites
abbrev pub FirstRefusalStands : Type 0
FirstRefusalStands = (source : Forest × List ℕ) (defs : List DirectiveDef) (slots : Bool) (f : TplFault) → compiled source defs slots ≡ Err f →
    FirstRefusal defs slots (nodes_compiled defs slots source) f ⊎ (f ≡ worn)
