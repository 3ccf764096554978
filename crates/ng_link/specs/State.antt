-- The state of a page, as contracts see its works.
use Rattle.std.specs.Prelude.{ℕ, List, [], ◌∷◌, Option, Some, None, map, option_map, not, is_some}
use Rattle.std.specs.Map.{lookup}
use Rattle.ng_core.specs.Frames as cores
use Rattle.ng_core.specs.State as act
use Rattle.ng_base.specs.Views.{ViewTree}
use Rattle.ng_base.specs.declared.path.Key.{Key}
use Rattle.ng_dom.specs.Document.{next_name}
use Rattle.ng_dom.specs.Drawing.{Look}
use Rattle.ng_drawing.specs.Drawing.{Rendered}
use Rattle.ng_drawing.specs.Instance as drawn
use Rattle.ng_drawing.specs.Instance.{SiteState, Instance, Group, instance_with, no_outlets, instances_from, outlets_from}
use Rattle.ng_drawing.specs.Roles.{Role}
use Rattle.ng_drawing.specs.Looks.{Seen, seen_by}
use Rattle.ng_drawing.specs.Nodes.{forest_count}
use Rattle.ng_drawing.specs.Template.{no_fragment}
use Rattle.ng_language.specs.Trees.{Trees}
use Rattle.ng_markup.specs.Forest.{Forest}
use Rattle.ng_parse.specs.ProgramOf.{program}
use Rattle.ng_drawing.specs.Named.{Named}
use Rattle.ng_compose.specs.Kept as templates
use Rattle.ng_parts.specs.Directing.{Programs}
use Rattle.ng_compose.specs.DirectivesOf.{directives_of}
use Rattle.ng_value.specs.Snaps.{snap_of}
use Rattle.ng_value.specs.declared.snapshot.Snap.{Snap}
use Rattle.ng_behaviour.specs.Keys.{is_key}
use Rattle.ng_watch.specs.Seen.{Watcher}
use Rattle.ng_watch.specs.Table.{Table, watchers_of, found}
use Rattle.ng_build.specs.Controls.{Controls, state_under}
use Rattle.ng_instances.specs.Instances.{Body, OutletState, Page, Linked, Instances, Inners, Owners, linked_at, scope_number, key_in, read, read_after}
use Rattle.ng_instances.specs.Registering.{mark_in}
use Rattle.ng_instances.specs.declared.instances.Listener.{Listener}
use Rattle.ng_link.specs.declared.works.Works.{Works}
use Rattle.ng_instances.specs.InstanceOf.{instances_of, spot_in}

-- the program that a declared watch runs, and the scope that it runs on
pub record Listening : Type 0 where
  pub scope : ℕ
  pub body : Trees

-- keys of sites that rest, with what they had kept
abbrev pub Resting : Type 0
Resting = List (Key × Option ViewTree)

-- keys of declared watches, with their programs
abbrev pub Declared : Type 0
Declared = List (Key × Listening)

-- The state of a page: the core; the templates, each with the name that it is included by; what directives do; the live watchers, with what they have
-- kept; the sites that rest, with what they had kept; the states of controls, by the keys of their models' sites; the programs of declared
-- watches; what is linked; to which instance a node belongs, and to which an inner scope; and the name of the next node. All lists but that of the
-- templates are in key order.
pub record State : Type 0 where
  pub core : act.State
  pub templates : List Named
  pub directives : List Programs
  pub watchers : Table
  pub resting : Resting
  pub controls : Controls
  pub declared : Declared
  pub instances : Instances
  pub owners : Owners
  pub inner : Inners
  pub next_node : ℕ

-- what a watcher has kept, or else what had been kept at rest
abbrev pub kept_or : Option Watcher → Option (Option ViewTree) → Option ViewTree
kept_or (Some w) r = w.kept
kept_or None (Some s) = s
kept_or None None = None

-- what the site of a key shows: what its watcher has kept, or what it had kept when it came to rest
abbrev pub kept_in : Table → Resting → Key → Option ViewTree
kept_in t r k = kept_or (found k t) (lookup (is_key k) r)

-- what is seen of that, or of the control whose model it is, or nothing
abbrev pub look_of : Seen → Look
look_of e = record { text = e.text; words = e.words; truth = e.truth }

abbrev pub seen_under : Table → Resting → Controls → Key → Seen
seen_under t r cs k = seen_by (state_under k cs) (kept_in t r k)

abbrev pub looks_of : Table → Resting → Controls → Key → Look
looks_of t r cs k = look_of (seen_under t r cs k)

abbrev pub looks_in : State → Key → Look
looks_in s = looks_of s.watchers s.resting s.controls

-- a site with what it shows; it rests where it has no watcher
abbrev pub site_state : Table → Resting → Controls → ℕ → Key → SiteState
site_state t r cs scope k = record { key = k; scope = scope; kept = kept_in t r k; rests = not (is_some (found k t)); control = state_under k cs }

abbrev pub site_states : Table → Resting → Controls → Page → List SiteState
site_states t r cs p = map (λ n. site_state t r cs (scope_number p (mark_in p.marks n).over) (key_in p n)) p.serials

-- what the bodies of an outlet stand for
abbrev pub roles_in : List Body → List Role
roles_in bs = map (λ (b : Body). b.role) bs

-- the bodies in each outlet, with what they stand for
abbrev pub groups_in : List OutletState → List drawn.Instances → List Group
groups_in os [] = []
groups_in [] (is ∷ iss) = ([], is) ∷ groups_in [] iss
groups_in (o ∷ os) (is ∷ iss) = (roles_in o.bodies, is) ∷ groups_in os iss

-- an instance with the bodies in it
abbrev pub instance_join : Table → Resting → Controls → Linked → List (List Instance) → Instance
instance_join t r cs l iss = instance_with l.fragment l.page.scope (site_states t r cs l.page) (outlets_from (groups_in l.page.outlets (map instances_from iss)))

abbrev pub nothing_linked : Instance
nothing_linked = instance_with no_fragment 0 [] no_outlets

abbrev pub instance_at : Table → Resting → Controls → Instances → List ℕ → Instance
instance_at t r cs is p = read nothing_linked (instance_join t r cs) is p

-- a body in an instance, which comes after it
abbrev pub body_at : State → List ℕ → List ℕ → Instance
body_at s holder p = read_after nothing_linked (instance_at s.watchers s.resting s.controls s.instances) holder p

abbrev pub instance_in : Table → Resting → Controls → Instances → Option Instance
instance_in t r cs is = option_map (λ l. instance_at t r cs is []) (linked_at [] is)

-- the page's instance; there is none where the opening link met a fault
abbrev pub instance : State → Option Instance
instance s = instance_in s.watchers s.resting s.controls s.instances

-- the document that a page shows: the drawing with what its sites have kept; without an instance it is empty
abbrev pub shown : State → Forest
shown s = drawn.shown (instance_at s.watchers s.resting s.controls s.instances [])

-- The rendering: the document computed afresh over data and scopes.
abbrev pub rendering : State → Rendered Forest
rendering s = drawn.rendering s.core.objects s.core.scopes (instance_at s.watchers s.resting s.controls s.instances [])

-- how many nodes stand
abbrev pub live_nodes : State → ℕ
live_nodes s = forest_count (shown s)

-- the templates, and the name that each is included by
abbrev pub templates_of : Works → List Named
templates_of w = templates.templates_of w.templates

abbrev pub resting_of : List (Key × Option Snap) → Resting
resting_of r = map (λ e. (e.0, option_map snap_of e.1)) r

abbrev pub listening_of : Listener → Listening
listening_of l = record { scope = l.scope.0; body = program l.program }

abbrev pub declared_of : List (Key × Listener) → Declared
declared_of d = map (λ e. (e.0, listening_of e.1)) d

abbrev pub state_of : Works → State
state_of w = record {
  core = cores.state_of w.core;
  templates = templates_of w;
  directives = directives_of w.templates;
  watchers = watchers_of w.watchers;
  resting = resting_of w.resting.entries;
  controls = w.controls.entries;
  declared = declared_of w.declared.entries;
  instances = instances_of (templates_of w) w.instances.entries;
  owners = w.owners.entries;
  inner = w.inner.entries;
  next_node = next_name w.dom;
}

-- the node that the site of a key is drawn in, among all that stands
abbrev pub places_of : Works → Key → Option ℕ
places_of w k = spot_in w.inner.entries w.instances.entries k
