-- What the fire of a site does that fills outlets (API: ngIf, ngSwitch, ngInclude, ngRepeat): first bodies go, and then bodies are made.
use Rattle.std.specs.Prelude.{ℕ, ◌&&◌, not, List, [], ◌∷◌, Option, None, Some, if◌then◌else◌}
use Rattle.ng_base.specs.Views.{ViewTree}
use Rattle.ng_base.specs.declared.fault.Fault.TheVariants.{NoTemplate}
use Rattle.ng_base.specs.declared.path.Key.{Key}
use Rattle.ng_drawing.specs.Cases.{Case}
use Rattle.ng_drawing.specs.Origins.{plain_origin}
use Rattle.ng_drawing.specs.Roles.{a_body, a_named}
use Rattle.ng_drawing.specs.Template.{Filling, body_if, on_case, for_each, by_name}
use Rattle.ng_drawing.specs.declared.origin.Home.{Home}
use Rattle.ng_drawing.specs.declared.origin.Origin.{Origin}
use Rattle.ng_language.specs.Texts.{text_of}
use Rattle.ng_instances.specs.Changing.{in_outlet}
use Rattle.ng_instances.specs.Due.{Due, all_due}
use Rattle.ng_instances.specs.Bindings.{Bound}
use Rattle.ng_instances.specs.Instances.{instance_path, linked_for, bound_for}
use Rattle.ng_link.specs.State.{State}
use Rattle.ng_compose.specs.Kept.{named_from}
use Rattle.ng_fire.specs.Bindings.{bound_fired}
use Rattle.ng_rows.specs.Chosen.{cases_due, body_of, comes}
use Rattle.ng_fire.specs.Blocks.{Firing, begins_firing, faulted_with, filled, outlets_emptied}
use Rattle.ng_fire.specs.Repeats.{repeat_fired}

-- the body of an outlet is made where it comes, unless one before it faulted
abbrev pub body_filled : List ℕ → List Case → ViewTree → Due → Firing → Firing
body_filled holder cases v d g = if comes cases v d && not g.faulted then filled (in_outlet holder d.outlet 0 a_body) d.scope d.outsides [] (plain_origin d.home (body_of d.filling)) g else g

-- A body with the template of a name in it, which the application may not have (API: ngInclude)
abbrev pub including_origin : Home → ℕ → ℕ → Origin
including_origin h n t = record { home = h; fragment = n; included = Some (record { 0 = t }) }

abbrev pub template_filled : List ℕ → Due → ℕ → List ℕ → Option ℕ → Firing → Firing
template_filled holder d b name None g = faulted_with NoTemplate g
template_filled holder d b name (Some t) g = filled (in_outlet holder d.outlet 0 (a_named name)) d.scope d.outsides [] (including_origin d.home b t) g

-- that of the name which a value has as its text
abbrev pub named_filled : List ℕ → List Case → ViewTree → Due → ℕ → Firing → Firing
named_filled holder cases v d b g =
    if comes cases v d && not g.faulted then template_filled holder d b (text_of v) (named_from 0 (text_of v) g.state.templates) g else g

-- a repeat has its rows in its place
abbrev pub filled_by : List ℕ → List Case → ViewTree → Due → Filling → Firing → Firing
filled_by holder cases v d (body_if b) g = body_filled holder cases v d g
filled_by holder cases v d (on_case c b) g = body_filled holder cases v d g
filled_by holder cases v d (for_each r b) g = if g.faulted then g else repeat_fired holder d.scope d.outsides v d.outlet (plain_origin d.home b) r g
filled_by holder cases v d (by_name b) g = named_filled holder cases v d b g

abbrev pub outlet_filled : List ℕ → List Case → ViewTree → Due → Firing → Firing
outlet_filled holder cases v d g = filled_by holder cases v d d.filling g

abbrev pub outlets_filled : List ℕ → List Case → ViewTree → List Due → Firing → Firing
outlets_filled holder cases v [] g = g
outlets_filled holder cases v (d ∷ ds) g = outlets_filled holder cases v ds (outlet_filled holder cases v d g)

-- outlets of an instance get what a value of their site calls for
abbrev pub outlets_fired : List ℕ → ViewTree → List Due → Firing → Firing
outlets_fired holder v ds g = outlets_filled holder (cases_due ds) v ds (outlets_emptied holder v ds g)

-- what the site of a binding writes, where its expression has a value
abbrev pub bound_site_fired : Option ViewTree → Bound → Key → Option ViewTree → State → Firing
bound_site_fired None b k former s = begins_firing s
bound_site_fired (Some w) b k former s = bound_fired b k.path w former (begins_firing s)

abbrev pub site_fired_by : Option Bound → Key → ViewTree → Option ViewTree → Option ViewTree → State → Firing
site_fired_by None k v value former s = outlets_fired (instance_path s.inner k.path) v (all_due k (linked_for s.inner k.path s.instances)) (begins_firing s)
site_fired_by (Some b) k v value former s = bound_site_fired value b k former s

-- The site of a key has kept this, where its expression has a value and this was kept before. A site that is no binding's and fills no outlet does
-- nothing more.
abbrev pub site_fired : Key → ViewTree → Option ViewTree → Option ViewTree → State → Firing
site_fired k v value former s = site_fired_by (bound_for s.inner s.instances k) k v value former s
