-- What calls come to, of the instances and outlets that stand.
use Rattle.std.specs.Prelude.{ℕ, ◌+◌, ◌&&◌, Bool, false, List, [], ◌∷◌, map, drop, Option, None, not, Some, is_some, slice_get, slice_index_or}
use Rattle.std.specs.List.{list_any}
use Rattle.ng_base.specs.declared.path.Key.{Key}
use Rattle.ng_behaviour.specs.Scopes.{Scope, path_at, live_at}
use Rattle.ng_drawing.specs.Origins.{inner_home}
use Rattle.ng_drawing.specs.Roles.{Role}
use Rattle.ng_drawing.specs.Template.{Outlet, OutletScope, Fragment}
use Rattle.ng_drawing.specs.declared.origin.Origin.{Origin}
use Rattle.ng_instances.specs.Bindings.{bound_in_table}
use Rattle.ng_instances.specs.Registering.{Ground, scope_in_ground, outside_in_ground, Round, mark_in}
use Rattle.ng_instances.specs.Instances.{OutletState, Inner, Page, Linked, scope_number, is_site_of, is_filled_by}

-- whether the site of a key is drawn: one that fills outlets is not, nor one of a binding
abbrev pub fills_any : ℕ → List OutletState → Bool
fills_any serial os = list_any (is_filled_by serial) os

abbrev pub is_drawn_in : Option Linked → Key → Bool
is_drawn_in None k = false
is_drawn_in (Some l) k = is_site_of l.page k.serial.0 && (not (fills_any k.serial.0 l.page.outlets) && not (is_some (bound_in_table k.serial.0 l.page.bounds)))

-- the outlets of a fragment whose sites have these numbers of registration, at anchors of these names; nothing fills them yet
abbrev pub round_by : Origin → Ground → Option OutletScope → Round
round_by which g None = record { home = inner_home which; scope = scope_in_ground g 0; outsides = g.outsides }
round_by which g (Some s) = record { home = s.home; scope = scope_in_ground g s.scope; outsides = map (outside_in_ground g) s.outsides }

abbrev pub outlet_on : Round → List ℕ → Outlet → ℕ → OutletState
outlet_on r serials o a = record { serial = slice_index_or serials o.site 0; home = r.home; scope = r.scope; outsides = r.outsides; filling = o.filling; anchor = a; bodies = [] }

abbrev pub outlets_from : Origin → Ground → List ℕ → Fragment → ℕ → List Outlet → List ℕ → List OutletState
outlets_from which g serials f i [] names = []
outlets_from which g serials f i (o ∷ os) [] = []
outlets_from which g serials f i (o ∷ os) (a ∷ names) = outlet_on (round_by which g (slice_get f.spots i)) serials o a ∷ outlets_from which g serials f (i + 1) os names

abbrev pub outlets_on : Origin → Ground → List ℕ → Fragment → List ℕ → List OutletState
outlets_on which g serials f names = outlets_from which g serials f 0 f.outlets names

-- the instance of a fragment on a scope of a path: its sites have these numbers of registration, its nodes the names
-- from one on, and its handlers, controls and anchors are entered with these
abbrev pub inner_on : List Scope → List ℕ → List Inner
inner_on scopes ns = map (λ n. record { scope = n; path = path_at scopes n }) (drop 1 ns)

-- whether one of an instance's sites is on a scope that lives
abbrev pub any_on : List Scope → Page → List ℕ → Bool
any_on scopes p ns = list_any (λ n. live_at scopes (scope_number p (mark_in p.marks n).under)) ns

-- where an instance stands: it is the page's, or a body in an outlet of another instance, which stands for this, and before the i-th of
-- those that are there, or at the end
pub data Place : Type 0 where
  at_top : Place
  in_outlet : (holder : List ℕ) → (outlet : ℕ) → (i : ℕ) → Role → Place
