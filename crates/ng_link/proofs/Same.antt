-- What stood stands, where watchers come and go.
use Rattle.std.proofs.Common.{◌≡◌, Bool, true, false, List, Option, Some, None, refl, ap, ◌∙◌, sym, length, arith}
use Rattle.std.specs.BTreeMap.{BTreeMap}
use Rattle.std.specs.List.{filter}
use Rattle.std.specs.List.Sorted.{IsStrictlySortedBy}
use Rattle.std.specs.Map.{lookup, keys_of}
use Rattle.std.specs.Prelude.{IsSome, not}
use Rattle.ng_base.specs.Views.{ViewTree}
use Rattle.ng_base.specs.declared.path.Key.{Key}
use Rattle.ng_dom.specs.Drawing.{Stands}
use Rattle.ng_drawing.specs.Looks.{seen_by}
use Rattle.ng_value.specs.declared.snapshot.Snap.{Snap}
use Rattle.ng_behaviour.specs.Keys.{key_cmp, is_key}
use Rattle.ng_watch.specs.Seen.{Watching, Watcher, WatchStands}
use Rattle.ng_watch.specs.Table.{watchers_of, found, with_watch, without_watch}
use Rattle.ng_watch.specs.declared.watched.Watched.{Watched}
use Rattle.ng_link.specs.Calls.{rested}
use Rattle.ng_build.specs.Controls.{state_under}
use Rattle.ng_instances.specs.Instances.{is_site}
use Rattle.ng_link.specs.Laws.{StandingWithCore}
use Rattle.ng_link.specs.Standing.{WatchersStand, Standing}
use Rattle.ng_link.specs.State.{kept_or, resting_of, state_of, look_of, looks_of, looks_in, places_of}
use Rattle.ng_instances.specs.declared.instances.Listener.{Listener}
use Rattle.ng_link.specs.declared.works.Works.{Works}
use Rattle.ng_link.proofs.BuiltSame.{built_same}
use Rattle.ng_link.proofs.PlacedSites.{placed_site}
use Rattle.ng_link.proofs.Rested.{kept_rested}
use Rattle.ng_build.proofs.Tables.{put-other, removed-other}
use Rattle.ng_link.proofs.Watched.{stand_more, stand_put, stand_removed, stand_filtered}

some_at : {X : Type 0} (o : Option X) (x : X) → o ≡ Some x → IsSome o
some_at None x e = absurd (cc)
some_at (Some y) x e = refl

-- where each site shows what it showed
pub same_stands : (w : Works) (ws : List (Key × Watched)) (rs : BTreeMap Key (Option Snap)) (ds : BTreeMap Key Listener)
    → ((k : Key) → is_site (state_of w).inner (state_of w).instances k ≡ true → looks_of (watchers_of ws) (resting_of rs.entries) (state_of w).controls k ≡ looks_in (state_of w) k)
    → WatchersStand (length (state_of w).core.objects) (watchers_of ws)
    → (ts : Stands) → Standing w ts → Standing (record w { watchers = ws; resting = rs; declared = ds }) ts
same_stands w ws rs ds same watched ts g =
    record {
      built =
          built_same (places_of w) (looks_in (state_of w)) (looks_of (watchers_of ws) (resting_of rs.entries) (state_of w).controls) w.dom (state_of w).instances ts
          (λ k n at. sym (same k (placed_site w k (some_at (places_of w k) n at)))) g.built;
      inner = g.inner;
      below = g.below;
      watched = watched;
    }

-- a site's key is another than that of a declared watch
apart_from : (w : Works) (k q : Key) → is_site (state_of w).inner (state_of w).instances k ≡ false → is_site (state_of w).inner (state_of w).instances q ≡ true → q ≡ k → ⊥
apart_from w k q off site same = let two : true ≡ false = sym site ∙ (ap (is_site (state_of w).inner (state_of w).instances) same ∙ off) in absurd (cc)

-- where the watcher of a declared watch is another, or none
module _ (w : Works) (ws : List (Key × Watched)) (ds : BTreeMap Key Listener) (k : Key) (off : is_site (state_of w).inner (state_of w).instances k ≡ false) where
  found_still : ((q : Key) → (q ≡ k → ⊥) → found q (watchers_of ws) ≡ found q (state_of w).watchers) → (q : Key) → is_site (state_of w).inner (state_of w).instances q ≡ true → looks_of (watchers_of ws) (state_of w).resting (state_of w).controls q ≡ looks_in (state_of w) q
  found_still still q site = ap (λ (o : Option Watcher). look_of (seen_by (state_under q (state_of w).controls) (kept_or o (lookup (is_key q) (state_of w).resting)))) (still q (apart_from w k q off site))

  pub declared_stands : (x : Watching) → WatchStands (length (state_of w).core.objects) x → watchers_of ws ≡ with_watch k x (state_of w).watchers → (ts : Stands) → Standing w ts → Standing (record w { watchers = ws; declared = ds }) ts
  declared_stands x stands is ts g =
      same_stands w ws w.resting ds
      (found_still (λ q ne. ap (found q) is ∙ put-other k q (record { watch = x; kept = None }) (state_of w).watchers ne))
      (rw is (stand_put (length (state_of w).core.objects) k (record { watch = x; kept = None }) (state_of w).watchers stands g.watched)) ts g

  pub undeclared_stands : watchers_of ws ≡ without_watch k (state_of w).watchers → (ts : Stands) → Standing w ts → Standing (record w { watchers = ws; declared = ds }) ts
  undeclared_stands is ts g =
      same_stands w ws w.resting ds
      (found_still (λ q ne. ap (found q) is ∙ removed-other k q (state_of w).watchers ne))
      (rw is (stand_removed (length (state_of w).core.objects) (is_key k) (state_of w).watchers g.watched)) ts g

-- where sites come to rest
pub rested_stands : (w : Works) (ws : List (Key × Watched)) (rs : BTreeMap Key (Option Snap)) (ds : BTreeMap Key Listener) (p : Key × Watcher → Bool)
    → IsStrictlySortedBy key_cmp (keys_of (state_of w).watchers) → watchers_of ws ≡ filter (λ e. not (p e)) (state_of w).watchers
    → resting_of rs.entries ≡ rested (state_of w).inner (state_of w).instances (filter p (state_of w).watchers) (state_of w).resting
    → (ts : Stands) → Standing w ts → Standing (record w { watchers = ws; resting = rs; declared = ds }) ts
rested_stands w ws rs ds p ordered left rest ts g =
    same_stands w ws rs ds
    (λ k site. rw (left, rest) (ap (λ (v : Option ViewTree). look_of (seen_by (state_under k (state_of w).controls) v)) (kept_rested (state_of w).inner (state_of w).instances p (state_of w).watchers (state_of w).resting k ordered site)))
    (rw left (stand_filtered (length (state_of w).core.objects) (λ e. not (p e)) (state_of w).watchers g.watched)) ts g

-- where the core is another
pub core_stands : StandingWithCore
core_stands w core serial objects ts g = record {
  built = g.built;
  inner = g.inner;
  below = λ k h. let lt = g.below k h in omega (arith, lt, serial);
  watched = stand_more (length (state_of w).core.objects) (length core.store) objects (state_of w).watchers g.watched;
}
