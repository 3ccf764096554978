-- The objects that watchers name are there, whatever watchers come and go.
use Rattle.std.proofs.Common.{◌≡◌, ◌≤◌, ◌<◌, ℕ, Bool, true, false, cond, List, [], ◌∷◌, Option, Some, None, subst, arith}
use Rattle.std.specs.BTreeMap.{insert_entry}
use Rattle.std.specs.List.{AllByRecursion, filter}
use Rattle.std.specs.Map.{remove_entry}
use Rattle.std.specs.Option.{ForSome}
use Rattle.std.specs.Ordering.{match_ordering}
use Rattle.std.specs.declared.cmp.Ordering.{Ordering}
use Rattle.std.specs.declared.cmp.Ordering.TheVariants.{Less, Equal, Greater}
use Rattle.ng_base.specs.Views.{ViewTree}
use Rattle.ng_base.specs.declared.path.Key.{Key}
use Rattle.ng_drawing.specs.Template.{Site}
use Rattle.ng_drawing.specs.declared.kind.SiteKind.{SiteKind}
use Rattle.ng_drawing.specs.declared.kind.SiteKind.TheVariants as sites
use Rattle.ng_behaviour.specs.Keys.{key_cmp, is_key}
use Rattle.ng_watch.specs.Seen.{Watcher, DestStands, WatchStands}
use Rattle.ng_watch.specs.Table.{Table, found, keeping, with_kept, with_watch, AllStand}
use Rattle.ng_watch.specs.declared.watch.WatchKind.{WatchKind}
use Rattle.ng_watch.specs.declared.watch.WatchKind.TheVariants as kinds
use Rattle.ng_link.specs.Laws.{WatchersAreFound}
use Rattle.ng_instances.specs.Rows.{Row, watch_kind, kind_against, kind_with, watching_site, with_first, with_row, with_sites}
use Rattle.ng_link.specs.Standing.{WatchersStand}

-- objects only come
dest_more : (m n : ℕ) → m ≤ n → (kind : WatchKind) → DestStands m kind → DestStands n kind
dest_more m n le (kinds.TwoWay dest name) h = omega (arith, le, h)
dest_more m n le kinds.Reference h = tt
dest_more m n le kinds.Collection h = tt
dest_more m n le kinds.Deep h = tt
dest_more m n le kinds.Text h = tt
dest_more m n le kinds.Words h = tt

pub stand_more : (m n : ℕ) → m ≤ n → (t : Table) → WatchersStand m t → WatchersStand n t
stand_more m n le [] h = tt
stand_more m n le (e ∷ es) h = (((omega (arith, le, h.0.0)), dest_more m n le e.1.watch.kind h.0.1), stand_more m n le es h.1)

module _ (count : ℕ) where
  pub stand_found : (t : Table) → WatchersStand count t → AllStand count t
  stand_found [] h k = λ w e. absurd (cc)
  stand_found (e ∷ es) h k = by_test (is_key k e.0) (stand_found es h.1 k)
    where
      by_test : (b : Bool) → ForSome (found k es) (λ w. WatchStands count w.watch) → ForSome (cond b (Some e.1) (found k es)) (λ w. WatchStands count w.watch)
      by_test true more = λ w is. let same : e.1 ≡ w = cc in let F : Watcher → Type 0 = λ x. WatchStands count x.watch in subst F same h.0
      by_test false more = more

  pub stand_kept : (k : Key) (s : Option ViewTree) (t : Table) → WatchersStand count t → WatchersStand count (with_kept k s t)
  stand_kept k s [] h = tt
  stand_kept k s (e ∷ es) h = by_test (is_key k e.0) (stand_kept k s es h.1)
    where
      by_test : (b : Bool) → WatchersStand count (with_kept k s es) → WatchersStand count (cond b ((e.0, keeping s e.1) ∷ es) (e ∷ with_kept k s es))
      by_test true more = h
      by_test false more = (h.0, more)

  pub stand_put : (k : Key) (w : Watcher) (t : Table) → WatchStands count w.watch → WatchersStand count t → WatchersStand count (insert_entry key_cmp t k w)
  stand_put k w [] one h = (one, tt)
  stand_put k w (e ∷ es) one h = by_order (key_cmp k e.0) (stand_put k w es one h.1)
    where
      by_order : (o : Ordering) → WatchersStand count (insert_entry key_cmp es k w) → WatchersStand count (match_ordering o ((k, w) ∷ e ∷ es) ((e.0, w) ∷ es) (e ∷ insert_entry key_cmp es k w))
      by_order Less more = (one, h)
      by_order Equal more = (one, h.1)
      by_order Greater more = (h.0, more)

  pub stand_removed : (test : Key → Bool) (t : Table) → WatchersStand count t → WatchersStand count (remove_entry test t)
  stand_removed test [] h = tt
  stand_removed test (e ∷ es) h = by_test (test e.0) (stand_removed test es h.1)
    where
      by_test : (b : Bool) → WatchersStand count (remove_entry test es) → WatchersStand count (cond b es (e ∷ remove_entry test es))
      by_test true more = h.1
      by_test false more = (h.0, more)

  pub stand_filtered : (p : Key × Watcher → Bool) (t : Table) → WatchersStand count t → WatchersStand count (filter p t)
  stand_filtered p [] h = tt
  stand_filtered p (e ∷ es) h = by_test (p e) (stand_filtered p es h.1)
    where
      by_test : (b : Bool) → WatchersStand count (filter p es) → WatchersStand count (cond b (e ∷ filter p es) (filter p es))
      by_test true more = (h.0, more)
      by_test false more = more

  no_dest : (kind : SiteKind) → DestStands count (watch_kind kind)
  no_dest sites.Text = tt
  no_dest sites.Words = tt
  no_dest sites.Reference = tt
  no_dest sites.Collection = tt
  no_dest sites.Deep = tt
  no_dest sites.TwoWay = tt

  -- what a row is watched over, and compared with, is there
  abbrev pub WayStands : Option (ℕ × List ℕ) → Type 0
  WayStands None = Unit {0}
  WayStands (Some w) = w.0 < count

  abbrev pub RowStands : Row → Type 0
  RowStands r = (r.object < count) × WayStands r.way

  dest_with : (kind : SiteKind) (way : Option (ℕ × List ℕ)) → WayStands way → DestStands count (kind_with kind way)
  dest_with kind None h = no_dest kind
  dest_with kind (Some w) h = against kind w h
    where
      against : (kind : SiteKind) (w : ℕ × List ℕ) → w.0 < count → DestStands count (kind_against kind w)
      against sites.Text w h = tt
      against sites.Words w h = tt
      against sites.Reference w h = tt
      against sites.Collection w h = tt
      against sites.Deep w h = tt
      against sites.TwoWay w h = h

  stand_first : (k : Key) (v : Option ViewTree) (t : Table) → WatchersStand count t → WatchersStand count (with_first k v t)
  stand_first k None t h = h
  stand_first k (Some v) t h = stand_kept k (Some v) t h

  stand_row : (r : Row) (x : Site) (t : Table) → RowStands r → WatchersStand count t → WatchersStand count (with_row r x t)
  stand_row r x t row h =
      stand_first r.key r.kept (with_watch r.key (watching_site r.object r.way x) t)
      (stand_put r.key (record { watch = watching_site r.object r.way x; kept = None }) t (row.0, dest_with x.kind r.way row.1) h)

  pub stand_sites : (rs : List Row) (xs : List Site) (t : Table) → AllByRecursion RowStands rs → WatchersStand count t → WatchersStand count (with_sites rs xs t)
  stand_sites [] xs t all h = h
  stand_sites (r ∷ rs) [] t all h = h
  stand_sites (r ∷ rs) (x ∷ xs) t all h = stand_sites rs xs (with_row r x t) all.1 (stand_row r x t all.0 h)

pub watchers_found : WatchersAreFound
watchers_found count t h = stand_found count t h
