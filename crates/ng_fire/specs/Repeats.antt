-- What the fire of a repeat does (API: ngRepeat). Each fresh entry becomes a new object, and each entry gets its track key. Rows whose key
-- is gone are destroyed and taken out; those that are kept are put in the order of their entries. Then, entry by entry, the names of the
-- row's scope are set, and a row that is new is made, up to the first that cannot be made.
use Rattle.std.specs.Prelude.{ℕ, suc, List, [], ◌∷◌, length, Option, None, Some, slice_get, Result, Ok, Err, if◌then◌else◌}
use Rattle.std.specs.List.{flat_map}
use Rattle.ng_core.specs.State.{Run}
use Rattle.ng_base.specs.Views.{ViewTree}
use Rattle.ng_base.specs.declared.fault.Fault.{Fault}
use Rattle.ng_behaviour.specs.Scopes.{object_at}
use Rattle.ng_blocks.specs.Plans.{planned}
use Rattle.ng_blocks.specs.declared.keys.TrackKey.{TrackKey}
use Rattle.ng_blocks.specs.declared.plans.Plan.{Plan}
use Rattle.ng_drawing.specs.Roles.{Role, entries_in}
use Rattle.ng_drawing.specs.Template.{Repeated}
use Rattle.ng_drawing.specs.declared.origin.Origin.{Origin}
use Rattle.ng_rows.specs.Chosen.{told_on}
use Rattle.ng_fire.specs.Blocks.{Firing, ended, faulted_with, filled}
use Rattle.ng_rows.specs.Tracking.{Item, track_keys}
use Rattle.ng_instances.specs.Changing.{in_outlet}
use Rattle.ng_link.specs.Calls.{with_core, unlinked_at, arranged_at}
use Rattle.ng_link.specs.Events.{scope_in}
use Rattle.ng_instances.specs.Instances.{Body, OutletState, Instances, linked_at}
use Rattle.ng_instances.specs.PlaceOf.{outlet_of_linked}
use Rattle.ng_link.specs.State.{State}
use Rattle.ng_members.specs.Leaves.{Local}
use Rattle.ng_rows.specs.RepeatRows.{Row, role_for, row_names, kept_rows, rows_from, keys_of, as_fault, items_made}

-- those that stand at some places
abbrev pub body_at : Option Body → List Body
body_at None = []
body_at (Some b) = b ∷ []

abbrev pub bodies_at : List Body → List ℕ → List Body
bodies_at bs is = flat_map (λ i. body_at (slice_get bs i)) is

-- The scopes of rows are destroyed, in order, and then they are taken out, the last one first.
abbrev pub all_ended : List Body → Firing → Firing
all_ended [] g = g
all_ended (b ∷ bs) g = all_ended bs (ended b.path g)

abbrev pub rows_taken : List ℕ → List Body → State → State
rows_taken holder [] s = s
rows_taken holder (b ∷ bs) s = unlinked_at holder b.path (rows_taken holder bs s)

abbrev pub with_state : State → Firing → Firing
with_state s g = record g { state = s }

abbrev pub rows_gone : List ℕ → List Body → Firing → Firing
rows_gone holder bs g = by (all_ended bs g)
  where
    by : Firing → Firing
    by h = with_state (rows_taken holder bs h.state) h

abbrev pub rows_arranged : List ℕ → ℕ → List Body → Firing → Firing
rows_arranged holder o bs g = with_state (arranged_at holder o bs g.state) g

-- how far the rows have come: the firing, and how many of them stand before the next
pub record Filled : Type 0 where
  pub firing : Firing
  pub count : ℕ

abbrev pub filled_to : ℕ → Firing → Filled
filled_to n g = record { firing = g; count = n }

-- a row that is kept is told its names
abbrev pub row_kept : List ℕ → List Local → Filled → Filled
row_kept p names f = record {
  firing = record f.firing { state = with_core (told_on (scope_in (linked_at p f.firing.state.instances)) names f.firing.state.core) f.firing.state };
  count = suc f.count;
}

-- once a row could not be made, no new one is
abbrev pub counted_row : ℕ → Firing → Filled
counted_row n g = record { firing = g; count = if g.faulted then n else suc n }

abbrev pub row_made : List ℕ → ℕ → List ℕ → ℕ → Origin → Role → List Local → Filled → Filled
row_made holder scope outsides o which role names f =
    if f.firing.faulted then f else counted_row f.count (filled (in_outlet holder o f.count role) scope outsides names which f.firing)

abbrev pub row_fired : List ℕ → ℕ → List ℕ → ℕ → Origin → Row → List Local → Option (List ℕ) → Filled → Filled
row_fired holder scope outsides o which r names (Some p) f = row_kept p names f
row_fired holder scope outsides o which r names None f = row_made holder scope outsides o which (role_for r) names f

-- rows, of which the first has this place, among so many entries
abbrev pub rows_fired : List ℕ → ℕ → List ℕ → ℕ → Origin → Repeated → ℕ → ℕ → List Row → Filled → Filled
rows_fired holder scope outsides o which w count i [] f = f
rows_fired holder scope outsides o which w count i (r ∷ rs) f =
    rows_fired holder scope outsides o which w count (suc i) rs (row_fired holder scope outsides o which r (row_names w count i r.item) r.from f)

-- the rows that go, and those that are called for
abbrev pub rows_changed : List ℕ → ℕ → List ℕ → ℕ → Origin → Repeated → List Body → List Row → Firing → Firing
rows_changed holder scope outsides o which w gone rs g =
    (rows_fired holder scope outsides o which w (length rs) 0 rs (filled_to 0 (rows_arranged holder o (kept_rows rs) (rows_gone holder gone g)))).firing

abbrev pub by_plan : List ℕ → ℕ → List ℕ → ℕ → Origin → Repeated → List Body → List Item → List TrackKey → Result Plan Fault → Firing → Firing
by_plan holder scope outsides o which w bs xs ks (Err e) g = faulted_with e g
by_plan holder scope outsides o which w bs xs ks (Ok p) g = rows_changed holder scope outsides o which w (bodies_at bs p.gone) (rows_from bs xs ks p.from) g

-- two entries of one track key are a fault, and so is what a track expression meets: all stays as it was
abbrev pub by_keys : List ℕ → ℕ → List ℕ → ℕ → Origin → Repeated → List Body → List Item → Result (List TrackKey) Fault → Firing → Firing
by_keys holder scope outsides o which w bs xs (Err e) g = faulted_with e g
by_keys holder scope outsides o which w bs xs (Ok ks) g = by_plan holder scope outsides o which w bs xs ks (as_fault (planned (keys_of bs) ks)) g

-- the rows that stand in an outlet
abbrev pub bodies_or : Option OutletState → List Body
bodies_or None = []
bodies_or (Some x) = x.bodies

abbrev pub rows_at : List ℕ → ℕ → Instances → List Body
rows_at holder o is = bodies_or (outlet_of_linked o (linked_at holder is))

abbrev pub by_items : List ℕ → ℕ → List ℕ → ℕ → Origin → Repeated → Result (List Item) Fault → Firing → Firing
by_items holder scope outsides o which w (Err e) g = faulted_with e g
by_items holder scope outsides o which w (Ok xs) g =
    by_keys holder scope outsides o which w (rows_at holder o g.state.instances) xs (track_keys g.state.core.objects (object_at g.state.core.scopes scope) w 0 [] xs) g

-- The rows of an outlet of an instance on a scope become those that a value calls for. They are made of a fragment.
abbrev pub repeat_fired : List ℕ → ℕ → List ℕ → ViewTree → ℕ → Origin → Repeated → Firing → Firing
repeat_fired holder scope outsides v o which w g = by (items_made (entries_in v) [] g.state.core)
  where
    by : Run (List Item) → Firing
    by r = by_items holder scope outsides o which w r.1 (with_state (with_core r.0 g.state) g)
