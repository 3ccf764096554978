-- What stands under the key of a watcher, as the works of a page have it.
use Rattle.std.specs.Prelude.{ℕ, Option}
use Rattle.ng_base.specs.declared.path.Key.{Key}
use Rattle.ng_instances.specs.Due.{all_due}
use Rattle.ng_instances.specs.Instances.{bound_for, is_site, linked_for}
use Rattle.ng_instances.specs.InstanceOf.{spot_in}
use Rattle.ng_instances.specs.SiteHere.{StandsAs}
use Rattle.ng_instances.specs.declared.sites.SiteHere.{SiteHere}
use Rattle.ng_link.specs.State.{state_of}
use Rattle.ng_link.specs.declared.works.Works.{Works}

-- the node that the site of a key is drawn in
abbrev pub spot_of : Works → Key → Option ℕ
spot_of w k = spot_in w.inner.entries w.instances.entries k

-- nothing of what is linked, or a site, with the node that it is drawn in and what it fills
abbrev pub StandsAt : Works → Key → Option SiteHere → Type 0
StandsAt w k h = StandsAs (is_site (state_of w).inner (state_of w).instances k) (spot_of w k) (bound_for (state_of w).inner (state_of w).instances k) (all_due k (linked_for (state_of w).inner k.path (state_of w).instances)) h
