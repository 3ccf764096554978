-- What the calls on the works of a page come to.
use Rattle.std.specs.Prelude.{ℕ, ◌+◌, Bool, List, [], ◌∷◌, None, not, Some, if◌then◌else◌}
use Rattle.std.specs.BTreeMap.{insert_entry}
use Rattle.std.specs.List.{filter}
use Rattle.std.specs.Ordering.{nat_cmp}
use Rattle.std.specs.Map.{remove_entry}
use Rattle.ng_core.specs.State as act
use Rattle.ng_base.specs.Views.{ViewTree}
use Rattle.ng_base.specs.declared.path.Key.{Key}
use Rattle.ng_behaviour.specs.Scopes.{Scope, path_at}
use Rattle.ng_control.specs.State.{ControlState, with_model}
use Rattle.ng_drawing.specs.Nodes.{nodes}
use Rattle.ng_drawing.specs.Template.{Fragment}
use Rattle.ng_drawing.specs.declared.origin.Origin.{Origin}
use Rattle.ng_parts.specs.Directing.{Programs}
use Rattle.ng_drawing.specs.Named.{Named}
use Rattle.ng_watch.specs.Ended.{over, without_over}
use Rattle.ng_behaviour.specs.Keys.{key_cmp, is_key, begins}
use Rattle.ng_watch.specs.Seen.{Watching}
use Rattle.ng_watch.specs.Table.{Table, with_kept, with_watch, without_watch, under, without_under}
use Rattle.ng_build.specs.Controls.{controlled, controls_begun, control_changed}
use Rattle.ng_build.specs.Handlers.{handled, scoped}
use Rattle.ng_instances.specs.Registering.{Registered, marks_from, keys_on, site_rows}
use Rattle.ng_instances.specs.Rows.{Row, with_sites}
use Rattle.ng_instances.specs.Instances.{Body, Page, Linked, Instances, Inners, linked_for, is_site, with_instance, with_inner, outlets_changed, body_added, bodies_arranged, unlinked, owners_without, inner_without}
use Rattle.ng_build.specs.Shape.{keys_or, anchors}
use Rattle.ng_link.specs.State.{Listening, Resting, State}
use Rattle.ng_instances.specs.Changing.{is_drawn_in, outlets_on, inner_on, Place, at_top, in_outlet}

-- nothing is watched and nothing is linked yet
abbrev pub blank : List Named → List Programs → act.State → State
blank all ds c = record { core = c; templates = all; directives = ds; watchers = []; resting = []; controls = []; declared = []; instances = []; owners = []; inner = []; next_node = 0 }

abbrev pub with_core : act.State → State → State
with_core c s = record s { core = c }

-- the state of the control whose model's site has a key is changed
abbrev pub with_control_at : (ControlState → ControlState) → Key → State → State
with_control_at f k s = record s { controls = control_changed f k s.controls }

-- The watcher of a key keeps a snapshot. A control whose model that is drops what was typed, where that was read as another value.
abbrev pub keeping_at : Key → ViewTree → State → State
keeping_at k v s = record s { watchers = with_kept k (Some v) s.watchers; controls = control_changed (λ c. with_model c v) k s.controls }

abbrev pub is_drawn : State → Key → Bool
is_drawn s k = is_drawn_in (linked_for s.inner k.path s.instances) k

-- A declared watch, or a site that fills outlets or is a binding's, keeps nothing any more. The fire of a site that is drawn never faults.
abbrev pub unset_at : Key → State → State
unset_at k s = if is_drawn s k then s else record s { watchers = with_kept k None s.watchers }

-- a watch is declared, under a key that is no site's
abbrev pub declared_at : Key → Watching → Listening → State → State
declared_at k w l s = if is_site s.inner s.instances k then s else record s { watchers = with_watch k w s.watchers; declared = insert_entry key_cmp s.declared k l }

-- a declared watch is taken out
abbrev pub undeclared_at : Key → State → State
undeclared_at k s = if is_site s.inner s.instances k then s else record s { watchers = without_watch k s.watchers; declared = remove_entry (is_key k) s.declared }

-- sites whose watchers are taken out rest with what they have kept; what is no site's is gone
abbrev pub rested : Inners → Instances → Table → Resting → Resting
rested inner is [] r = r
rested inner is (e ∷ es) r = rested inner is es (if is_site inner is e.0 then insert_entry key_cmp r e.0 e.1.kept else r)

-- the watchers of a scope and of those below it are taken out: its sites rest, and its declared watches are no more
abbrev pub left_at : List ℕ → State → State
left_at p s = record s {
  watchers = without_under p s.watchers;
  resting = rested s.inner s.instances (under p s.watchers) s.resting;
  declared = filter (λ e. not (begins p e.0.path)) s.declared;
}

-- one-time bindings whose value is there have ended: their sites rest
abbrev pub ended_at : State → State
ended_at s = record s {
  watchers = without_over s.core.objects s.watchers;
  resting = rested s.inner s.instances (over s.core.objects s.watchers) s.resting;
}

abbrev pub page_on : List Scope → Origin → ℕ → Fragment → Registered → ℕ → Page
page_on scopes which scope f r node = record {
  origin = which;
  scope = scope;
  path = path_at scopes scope;
  serials = r.serials;
  node = node;
  handlers = handled node f.parts [];
  controls = controlled (keys_or (path_at scopes scope) (keys_on scopes f r.at_hand 0 r.serials)) node f.parts [];
  outlets = outlets_on which r.at_hand r.serials f (anchors node f.parts);
  inner = inner_on scopes r.at_hand.scopes;
  marks = marks_from f 0 r.serials [];
  elements = scoped node f.parts [];
  bounds = r.bounds;
}

abbrev pub linked_on : List Scope → Origin → ℕ → Fragment → Registered → ℕ → Linked
linked_on scopes which scope f r node = record { fragment = f; page = page_on scopes which scope f r node }

abbrev pub taken_in : Place → List ℕ → Instances → Instances
taken_in at_top p is = is
taken_in (in_outlet holder o i role) p is = outlets_changed holder (body_added o i (record { path = p; role = role })) is

-- A fragment whose steps are done stands at a place on a scope: its sites are watched, each under its number of registration, its nodes stand, its
-- controls have taken nothing yet, and its instance is noted, with its inner scopes.
abbrev pub placed_under : Place → List ℕ → Linked → List Row → State → State
placed_under place path l rows s = record s {
  watchers = with_sites rows l.fragment.sites s.watchers;
  controls = controls_begun l.page.controls s.controls;
  instances = taken_in place path (with_instance path l s.instances);
  owners = insert_entry nat_cmp s.owners s.next_node path;
  inner = with_inner path l.page.inner s.inner;
  next_node = s.next_node + nodes l.fragment.parts;
}

abbrev pub placed_on : Place → Origin → ℕ → Fragment → Registered → State → State
placed_on place which scope f r s =
    placed_under place (path_at s.core.scopes scope) (linked_on s.core.scopes which scope f r s.next_node) (site_rows s.core.scopes f r) s

-- an outlet of an instance has these bodies, which are those that it had, in another order or with other roles
abbrev pub arranged_at : List ℕ → ℕ → List Body → State → State
arranged_at holder o bs s = record s { instances = outlets_changed holder (bodies_arranged o bs) s.instances }

-- the instances of a body and of those in it are gone, and nothing of them rests, nor is a control
abbrev pub cut_at : List ℕ → List ℕ → State → State
cut_at holder p s = record s {
  resting = filter (λ e. not (begins p e.0.path)) s.resting;
  controls = filter (λ e. not (begins p e.0.path)) s.controls;
  instances = unlinked holder p s.instances;
  owners = owners_without p s.instances s.owners;
  inner = inner_without p s.inner;
}

-- A body that an instance holds is taken out, with those in it: nothing of them is watched or declared, rests, or stands any more.
abbrev pub unlinked_at : List ℕ → List ℕ → State → State
unlinked_at holder p s = cut_at holder p (left_at p s)
