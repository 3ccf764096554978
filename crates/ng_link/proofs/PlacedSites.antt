-- Where a site that was placed is drawn.
use Rattle.std.proofs.Common.{◌≡◌, ◌<◌, ℕ, true, List, Option, ap, ◌∙◌}
use Rattle.std.specs.BTreeMap.{is_at}
use Rattle.std.specs.List.{list_any, AllByRecursion}
use Rattle.std.specs.Map.{lookup}
use Rattle.std.specs.Ordering.{nat_cmp}
use Rattle.std.specs.Prelude.{IsSome}
use Rattle.ng_base.specs.declared.path.Key.{Key}
use Rattle.ng_instances.specs.Instances.{Linked, is_path, instance_path, is_site_in, is_site}
use Rattle.ng_link.specs.State.{templates_of, state_of, places_of}
use Rattle.ng_link.specs.declared.works.Works.{Works}
use Rattle.ng_link.proofs.Serials.{number_at, all_at_place}
use Rattle.ng_instances.proofs.Places.{linked_seen, spot_site}

pub placed_site : (w : Works) (k : Key) → IsSome (places_of w k) → is_site (state_of w).inner (state_of w).instances k ≡ true
placed_site w k h =
    let p : List ℕ = instance_path w.inner.entries k.path in
    ap (λ (o : Option Linked). is_site_in o k) (linked_seen (templates_of w) p w.instances.entries)
    ∙ spot_site (templates_of w) p (lookup (is_path p) w.instances.entries) k h

-- the place of a site's number among the numbers of registration
pub number_below : (serials : List ℕ) (top : ℕ) (k : Key) → AllByRecursion (λ n. n < top) serials → list_any (is_at (nat_cmp k.serial.0)) serials ≡ true → k.serial.0 < top
number_below serials top k all e = let there = number_at k.serial.0 serials e in all_at_place (λ n. n < top) serials there.0 k.serial.0 all there.1
