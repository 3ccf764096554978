-- What linking has come to before nodes stand.
use Rattle.std.specs.Prelude.{ℕ, ◌+◌, ◌<◌, ◌==◌, ◌&&◌, ◌||◌, Bool, false, List, [], ◌∷◌, Option, None, Some, slice_index_or, slice_get, unwrap_or, if◌then◌else◌}
use Rattle.std.specs.BTreeMap.{insert_entry, is_at}
use Rattle.std.specs.Map.{lookup}
use Rattle.std.specs.Ordering.{nat_cmp}
use Rattle.ng_base.specs.Views.{ViewTree}
use Rattle.ng_base.specs.declared.path.Key.{Key}
use Rattle.ng_behaviour.specs.Scopes.{Scope, path_at, object_at, live_at}
use Rattle.ng_drawing.specs.declared.origin.Home.{Home}
use Rattle.ng_drawing.specs.Template.{Outside, inside, handed, SiteScopes, Fragment}
use Rattle.ng_instances.specs.Bindings.{Bound, bound_text, bound_in, bound_both, Bounds, bound_in_table}
use Rattle.ng_instances.specs.Rows.{Row}
use Rattle.ng_build.specs.Shape.{key_on}

-- the scopes of an instance by their numbers, its own and then the inner ones; and those outside what its slots are given
pub record Ground : Type 0 where
  pub scopes : List ℕ
  pub outsides : List ℕ

-- a scope by its number; the instance's own, where there is none of that number
abbrev pub scope_in_ground : Ground → ℕ → ℕ
scope_in_ground g n = slice_index_or g.scopes n (slice_index_or g.scopes 0 0)

abbrev pub outside_in_ground : Ground → Outside → ℕ
outside_in_ground g (inside n) = scope_in_ground g n
outside_in_ground g (handed i) = slice_index_or g.outsides i 0

-- each of them is one of so many
abbrev pub IsGrounded : ℕ → Ground → Type 0
IsGrounded count g = (n : ℕ) → scope_in_ground g n < count

-- where the bodies of an outlet come from, the scope round them, and the scopes outside what the slots in them are given
pub record Round : Type 0 where
  pub home : Home
  pub scope : ℕ
  pub outsides : List ℕ

-- the numbers of registration of the sites, what those of bindings have kept, the scopes, and what the sites of bindings write
pub record Registered : Type 0 where
  pub serials : List ℕ
  pub kept : List (Option ViewTree)
  pub at_hand : Ground
  pub bounds : Bounds

-- all on the instance's own scope
abbrev pub own_mark : SiteScopes
own_mark = record { under = 0; over = 0 }

abbrev pub mark_at : Fragment → ℕ → SiteScopes
mark_at f n = slice_index_or f.marks n own_mark

-- the scopes of the sites that don't stand on the instance's own alone, by their numbers of registration
abbrev pub Marks : Type 0
Marks = List (ℕ × SiteScopes)

abbrev pub mark_in : Marks → ℕ → SiteScopes
mark_in ms serial = unwrap_or (lookup (is_at (nat_cmp serial)) ms) own_mark

abbrev pub is_own : SiteScopes → Bool
is_own m = (m.under == 0) && (m.over == 0)

abbrev pub with_mark : ℕ → SiteScopes → Marks → Marks
with_mark serial m ms = if is_own m then ms else insert_entry nat_cmp ms serial m

-- those of sites, from the i-th on, are noted
abbrev pub marks_from : Fragment → ℕ → List ℕ → Marks → Marks
marks_from f i [] ms = ms
marks_from f i (n ∷ ns) ms = marks_from f (i + 1) ns (with_mark n (mark_at f i) ms)

abbrev pub way_of : List Scope → Option Bound → Option (ℕ × List ℕ)
way_of scopes None = None
way_of scopes (Some (bound_text s n ps)) = None
way_of scopes (Some (bound_in s n)) = None
way_of scopes (Some (bound_both s n o w)) = Some (object_at scopes s, n)

abbrev pub kept_of : Option (Option ViewTree) → Option ViewTree
kept_of None = None
kept_of (Some k) = k

abbrev pub site_key : List Scope → Ground → SiteScopes → ℕ → Key
site_key scopes g m serial = key_on (path_at scopes (scope_in_ground g m.under)) serial

-- the keys of sites, from the i-th on
abbrev pub keys_on : List Scope → Fragment → Ground → ℕ → List ℕ → List Key
keys_on scopes f g i [] = []
keys_on scopes f g i (n ∷ ns) = site_key scopes g (mark_at f i) n ∷ keys_on scopes f g (i + 1) ns

abbrev pub row_on : List Scope → Ground → SiteScopes → Registered → ℕ → ℕ → Row
row_on scopes g m r i serial = record {
  key = site_key scopes g m serial;
  object = object_at scopes (scope_in_ground g m.over);
  way = way_of scopes (bound_in_table serial r.bounds);
  kept = kept_of (slice_get r.kept i);
}

abbrev pub row_at : List Scope → Fragment → Registered → ℕ → ℕ → Row
row_at scopes f r i serial = row_on scopes r.at_hand (mark_at f i) r i serial

-- whether a site, from the i-th on, is on a scope that lives
abbrev pub any_lives : List Scope → Fragment → Ground → ℕ → List ℕ → Bool
any_lives scopes f g i [] = false
any_lives scopes f g i (n ∷ ns) = live_at scopes (scope_in_ground g (mark_at f i).under) || any_lives scopes f g (i + 1) ns

-- how the sites of a fragment are watched, from the i-th on
abbrev pub rows_from : List Scope → Fragment → Registered → ℕ → List ℕ → List Row
rows_from scopes f r i [] = []
rows_from scopes f r i (s ∷ ss) = row_at scopes f r i s ∷ rows_from scopes f r (i + 1) ss

abbrev pub site_rows : List Scope → Fragment → Registered → List Row
site_rows scopes f r = rows_from scopes f r 0 r.serials
