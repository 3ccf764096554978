-- What the code renders over stands for.
use Rattle.std.specs.Prelude.{ℕ, ◌≡◌, ◌<◌, List, length, map, option_map, Some, None, Ok, Err, slice_get, slice_index_or}
use Rattle.std.specs.List.{AllByRecursion}
use Rattle.ng_base.specs.Objects.{Object}
use Rattle.ng_behaviour.specs.Scopes.{Scope, object_at}
use Rattle.ng_drawing.specs.Drawing.{Now, GroupsNow, Rendered, shown_as}
use Rattle.ng_drawing.specs.Instance.{SiteState, KeptNow, Instance, Instances, Outlets, instance_with, no_instances, instance_then, no_outlets, outlet_then, instance_now, seen_now}
use Rattle.ng_drawing.specs.InstanceOf.{state_of}
use Rattle.ng_html.specs.Seen.{forest_of}
use Rattle.ng_markup.specs.Forest.{Forest, no_nodes}
use Rattle.ng_parts.specs.SiteOf.{site_of}
use Rattle.ng_value.specs.Snaps.{snap_of}
use Rattle.ng_render.specs.declared.over.Known.{Known}
use Rattle.ng_render.specs.declared.over.Group.{Group}
use Rattle.ng_render.specs.declared.over.Group.TheVariants.{Shown, Unfit, Faulted}
use Rattle.ng_render.specs.declared.over.Over.{Over}

-- the scope that a site names is there, and its object is
pub record StateStands (objects : List Object) (scopes : List Scope) (s : SiteState) : Type 0 where
  pub scope : s.scope < length scopes
  pub object : object_at scopes s.scope < length objects

-- the scopes that the sites of an instance name are there, and their objects are
pub record NamesStand (objects : List Object) (scopes : List Scope) (states : List SiteState) : Type 0 where
  pub state : (n : ℕ) (s : SiteState) → slice_get states n ≡ Some s → StateStands objects scopes s

-- and so it is in an instance and in the bodies in it
abbrev mutual
  pub InstanceStands : List Object → List Scope → Instance → Type 0
  InstanceStands objects scopes (instance_with f scope states outlets) = NamesStand objects scopes states × OutletsStand objects scopes outlets

  pub InstancesStand : List Object → List Scope → Instances → Type 0
  InstancesStand objects scopes no_instances = Unit {0}
  InstancesStand objects scopes (instance_then i is) = InstanceStands objects scopes i × InstancesStand objects scopes is

  pub OutletsStand : List Object → List Scope → Outlets → Type 0
  OutletsStand objects scopes no_outlets = Unit {0}
  OutletsStand objects scopes (outlet_then rs is os) = InstancesStand objects scopes is × OutletsStand objects scopes os

-- what fills an outlet
abbrev pub group_of : Group → Rendered Forest
group_of (Shown f) = shown_as (forest_of f)
group_of Unfit = Ok None
group_of (Faulted f) = Err f

abbrev pub groups_over : Over → GroupsNow
groups_over o k = slice_index_or (map group_of o.groups.now) k (shown_as no_nodes)

-- what is known of sites is what they have now
abbrev pub AreKnown : KeptNow → List Known → Type 0
AreKnown now ks = AllByRecursion (λ k. now k.number ≡ shown_as (option_map snap_of k.shown)) ks

-- what each site has now, and what is seen of it then
abbrev pub kept_over : Over → KeptNow
kept_over o = instance_now o.store.now o.scopes.now (map site_of o.sites.now) (map state_of o.states.now)

abbrev pub now_over : Over → Now
now_over o = seen_now (kept_over o) (map state_of o.states.now)

-- what is rendered over is there, and what is known is so
pub record Stands (o : Over) : Type 0 where
  pub names : NamesStand o.store.now o.scopes.now (map state_of o.states.now)
  pub known : AreKnown (kept_over o) o.known.now
