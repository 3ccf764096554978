-- Linking a fragment on a scope (guide: HTML Compiler, "How directives are compiled"; Directives; API: ngInit). The steps are done in link order, up to
-- the first fault that can't be handed over: a scope is made; properties of an isolate scope are bound; functions are installed; a program runs, its
-- fault is handed over, what it left for the watchers is done, and the linking goes on; a site gets the next number of registration. Nothing is tested
-- meanwhile, so the sites are watched, and the nodes stand, once all else is done.
use Rattle.std.specs.Prelude.{ℕ, ◌-◌, ◌||◌, Bool, true, false, List, [], ◌∷◌, ◌++◌, map, length, take, drop, Option, None, Some, slice_get, Result, Ok, Err, if◌then◌else◌}
use Rattle.std.specs.BTreeMap.{insert_entry}
use Rattle.std.specs.Option.{option_map_or}
use Rattle.std.specs.Ordering.{nat_cmp}
use Rattle.ng_core.specs.Burying.{buried}
use Rattle.ng_core.specs.State as act
use Rattle.ng_core.specs.State.{with_serial, with_fault, Run}
use Rattle.ng_base.specs.Views.{ViewTree}
use Rattle.ng_base.specs.declared.fault.Fault.{Fault}
use Rattle.ng_base.specs.declared.value.Value.TheVariants as value
use Rattle.ng_behaviour.specs.Scopes.{path_at, object_at, live_at}
use Rattle.ng_drawing.specs.Nodes.{node_limit}
use Rattle.ng_drawing.specs.Instance.{text_view}
use Rattle.ng_drawing.specs.Template.{Piece, Source, of_text, of_nothing, one_way, two_way, of_call, Binding, Site, OutletScope, Fragment}
use Rattle.ng_drawing.specs.declared.origin.Origin.{Origin}
use Rattle.ng_language.specs.Trees.{Trees}
use Rattle.ng_instances.specs.Bindings.{Bound, Bounds, bound_text, bound_in, bound_both}
use Rattle.ng_instances.specs.Changing.{Place}
use Rattle.ng_link.specs.Calls.{with_core, left_at, placed_on}
use Rattle.ng_build.specs.Linking.{Opening, a_child, an_isolate, a_slot, LinkStep, makes, stops, opens, binds, installs, starts, starts_at, registers, leaves, piece_steps, steps, steps_within, fault_in}
use Rattle.ng_instances.specs.Registering.{Ground, scope_in_ground, outside_in_ground, Registered, any_lives}
use Rattle.ng_link.specs.State.{State, live_nodes}
use Rattle.ng_steps.specs.Attending.{installed_on, attended}
use Rattle.ng_changes.specs.Changes.{changed, has_additions}
use Rattle.ng_steps.specs.LinkBindings.{set_to_value, set_to_text, set_to_call, set_on, bound_pieces}
use Rattle.ng_changes.specs.Runs.{program_run, followed}
use Rattle.ng_changes.specs.ScopeRuns.{scope_run}

-- how far a linking has come: what its steps have come to so far, whether a watcher was added, and the fault behind which no step is done
pub record Linking : Type 0 where
  pub state : State
  pub made : Registered
  pub added : Bool
  pub fault : Option Fault

abbrev pub begins_linking : ℕ → List ℕ → State → Linking
begins_linking scope outsides s =
    record { state = s; made = record { serials = []; kept = []; at_hand = record { scopes = scope ∷ []; outsides = outsides }; bounds = [] }; added = false; fault = None }

-- a run that leaves this for the watchers has added one
abbrev pub adds : {A : Type 0} → Run A → Bool
adds r = has_additions r.0.changes

abbrev pub scope_of : Linking → ℕ → ℕ
scope_of g n = scope_in_ground g.made.at_hand n

-- a program of `ng-init`
abbrev pub started : ℕ → Trees → Linking → Linking
started scope p g = record g { state = followed (program_run scope p g.state.core) g.state; added = g.added || adds (program_run scope p g.state.core) }

-- a site gets the next number of registration, and has kept this
abbrev pub registered_with : Option ViewTree → Linking → Linking
registered_with k g = record g {
  state = with_core (with_serial g.state.core) g.state;
  made = record g.made { serials = g.made.serials ++ g.state.core.serial ∷ []; kept = g.made.kept ++ k ∷ [] };
}

abbrev pub registered : Linking → Linking
registered g = registered_with None g

abbrev pub opening_run : Ground → Opening → act.State → Run ℕ
opening_run g (a_child n) c = scope_run (scope_in_ground g n) (Some (object_at c.scopes (scope_in_ground g n))) c
opening_run g (an_isolate n) c = scope_run (scope_in_ground g n) None c
opening_run g (a_slot n o) c = scope_run (scope_in_ground g n) (Some (object_at c.scopes (outside_in_ground g o))) c

abbrev pub opened_with : Result ℕ Fault → Linking → Linking
opened_with (Ok n) g = record g { made = record g.made { at_hand = record g.made.at_hand { scopes = g.made.at_hand.scopes ++ n ∷ [] } } }
opened_with (Err e) g = record g { fault = Some e }

abbrev pub opened_by : Run ℕ → Linking → Linking
opened_by r g = opened_with r.1 (record g { state = with_core r.0 g.state })

-- a fault of a binding is handed over
abbrev pub handed_to : Fault → Linking → Linking
handed_to e g = record g { state = with_core (with_fault e g.state.core) g.state }

-- what sites write is noted by their numbers of registration
abbrev pub bounds_noted : List ℕ → Bound → Bounds → Bounds
bounds_noted [] b t = t
bounds_noted (n ∷ ns) b t = bounds_noted ns b (insert_entry nat_cmp t n b)

abbrev pub with_bounds : List ℕ → Bound → Linking → Linking
with_bounds ns b g = record g { made = record g.made { bounds = bounds_noted ns b g.made.bounds } }

-- the sites that were registered last keep these
abbrev pub keep_last : List (Option ViewTree) → List (Option ViewTree) → List (Option ViewTree)
keep_last ks news = take (length ks - length news) ks ++ news

abbrev pub with_last : List (Option ViewTree) → Linking → Linking
with_last news g = record g { made = record g.made { kept = keep_last g.made.kept news } }

-- the site that was registered last keeps this, unless it met a fault
abbrev pub value_kept : Result ViewTree Fault → Linking → Linking
value_kept (Ok v) g = with_last (Some v ∷ []) g
value_kept (Err e) g = handed_to e g

abbrev pub bound_by_value : Run ViewTree → Linking → Linking
bound_by_value r g = value_kept r.1 (record g { state = with_core r.0 g.state })

abbrev pub texts_kept : Result (List (List ℕ)) Fault → Linking → Linking
texts_kept (Ok ts) g = with_last (map (λ t. Some (text_view t)) ts) g
texts_kept (Err e) g = handed_to e g

abbrev pub bound_by_text : Run (List (List ℕ)) → Linking → Linking
bound_by_text r g = texts_kept r.1 (record g { state = with_core r.0 g.state })

-- so many sites more
abbrev pub registered_many : List LinkStep → Linking → Linking
registered_many [] g = g
registered_many (x ∷ xs) g = registered_many xs (registered g)

abbrev pub value_bound_by : Bool → ℕ → List ℕ → ℕ → Option Site → Linking → Linking
value_bound_by both scope name over None g = g
value_bound_by both scope name over (Some x) g = bound_by_value (set_to_value both scope name over x.program g.state.core) g

abbrev pub value_bound : Bool → ℕ → List ℕ → ℕ → Option Site → Bound → Linking → Linking
value_bound both scope name over x b g = value_bound_by both scope name over x (with_bounds (g.state.core.serial ∷ []) b (registered g))

-- the sites behind so many are those of the text
abbrev pub text_bound_by : ℕ → ℕ → List ℕ → ℕ → (ℕ → Option Site) → List Piece → Linking → Linking
text_bound_by count scope name over site ps g = by (drop count g.made.serials)
  where
    by : List ℕ → Linking
    by ns = bound_by_text (set_to_text scope name over site ps g.state.core) (with_bounds ns (bound_text scope name (bound_pieces ps ns)) g)

abbrev pub text_bound : ℕ → List ℕ → ℕ → (ℕ → Option Site) → List Piece → Linking → Linking
text_bound scope name over site ps g = text_bound_by (length g.made.serials) scope name over site ps (registered_many (piece_steps ps) g)

-- a property of an isolate scope is bound to a scope
abbrev pub source_bound : (ℕ → Option Site) → ℕ → List ℕ → ℕ → Source → Linking → Linking
source_bound site scope name over (of_text ps) g = text_bound scope name over site ps g
source_bound site scope name over of_nothing g = record g { state = with_core (set_on scope name value.Undefined g.state.core) g.state }
source_bound site scope name over (one_way n) g = value_bound false scope name over (site n) (bound_in scope name) g
source_bound site scope name over (two_way n w) g = value_bound true scope name over (site n) (bound_both scope name over w) g
source_bound site scope name over (of_call p) g = record g { state = with_core (set_to_call scope name over p g.state.core) g.state }

abbrev pub binding_linked : Fragment → Binding → ℕ → ℕ → Linking → Linking
binding_linked f b isolate over g = source_bound (slice_get f.sites) (scope_of g isolate) b.name (scope_of g over) b.source g

abbrev pub attended_with : State × Bool → Linking → Linking
attended_with r g = record g { state = r.0; added = g.added || r.1 }

abbrev pub installed : Linking → ℕ → ℕ → Linking
installed g directive scope = record g { state = installed_on directive (scope_of g scope) g.state }

abbrev pub left : Linking → ℕ → ℕ → Linking
left g directive scope = attended_with (attended directive (scope_of g scope) g.state) g

abbrev pub outlet_scope : Fragment → ℕ → ℕ
outlet_scope f o = option_map_or (λ (s : OutletScope). s.scope) (slice_get f.spots o) 0

abbrev pub step_linked : Fragment → LinkStep → Linking → Linking
step_linked f makes g = g
step_linked f stops g = g
step_linked f (opens o) g = opened_by (opening_run g.made.at_hand o g.state.core) g
step_linked f (binds b i o) g = binding_linked f b i o g
step_linked f (installs d s) g = installed g d s
step_linked f (starts s p) g = started (scope_of g s) p g
step_linked f (starts_at o p) g = started (scope_of g (outlet_scope f o)) p g
step_linked f registers g = registered g
step_linked f (leaves d s) g = left g d s

abbrev pub unless_faulted : Option Fault → Linking → Linking → Linking
unless_faulted None h g = h
unless_faulted (Some e) h g = g

abbrev pub steps_linked : Fragment → List LinkStep → Linking → Linking
steps_linked f [] g = g
steps_linked f (x ∷ xs) g = unless_faulted g.fault (steps_linked f xs (step_linked f x g)) g

-- on a scope that died meanwhile the sites rest
abbrev pub rested_on : ℕ → State → State
rested_on scope s = if live_at s.core.scopes scope then s else left_at (path_at s.core.scopes scope) s

abbrev pub rested_on_all : List ℕ → State → State
rested_on_all [] s = s
rested_on_all (n ∷ ns) s = rested_on_all ns (rested_on n s)

-- the fragment stands; a site on a scope that lives is a watcher more
abbrev pub placed : Place → Origin → ℕ → Fragment → Linking → Linking
placed place which scope f g = record g {
  state = rested_on_all g.made.at_hand.scopes (placed_on place which scope f g.made g.state);
  added = g.added || any_lives g.state.core.scopes f g.made.at_hand 0 g.made.serials;
}

-- Scopes that were made in vain: they and all below them are dead, and their listeners and watches are gone, without an event.
abbrev pub all_buried : List ℕ → act.State → act.State
all_buried [] c = c
all_buried (n ∷ ns) c = all_buried ns (buried n c)

abbrev pub given_up : Fault → Linking → Linking
given_up e g = record g { state = changed (with_core (all_buried (drop 1 g.made.at_hand.scopes) g.state.core) g.state); fault = Some e }

abbrev pub first_of : Option Fault → Option Fault → Option Fault
first_of None o = o
first_of (Some e) o = Some e

abbrev pub ended_link : Place → Origin → ℕ → Fragment → Option Fault → Linking → Linking
ended_link place which scope f None g = placed place which scope f g
ended_link place which scope f (Some e) g = given_up e g

abbrev pub ended_by : Place → Origin → ℕ → Fragment → Option Fault → Linking → Linking
ended_by place which scope f cut g = ended_link place which scope f (first_of g.fault cut) g

-- A fragment is linked at a place on a scope. Where the nodes don't find room, or a directive is inside too many others, the steps before that are done,
-- and nothing stands.
abbrev pub link_at : Place → Origin → ℕ → List ℕ → Fragment → State → Linking
link_at place which scope outsides f s =
    ended_by place which scope f (fault_in (node_limit - live_nodes s) (steps f.parts))
    (steps_linked f (steps_within (node_limit - live_nodes s) (steps f.parts)) (begins_linking scope outsides s))
