-- The outlets and the watchers of an instance that comes.
use Rattle.std.proofs.Common.{◌≡◌, ◌<◌, ◌+◌, ℕ, zero, suc, Bool, true, false, List, [], ◌∷◌, length, map, drop, Option, Some, None, refl, ap, sym, subst, ◌∙◌, slice_get, slice_index_or, arith}
use Rattle.std.specs.Prelude.{nat_lt}
use Rattle.std.proofs.lemmas.Bool.{ltb-true}
use Rattle.std.specs.List.{AllByRecursion, list_all}
use Rattle.std.specs.List.Sorted.{IsStrictlySortedBy}
use Rattle.std.specs.Ordering.{nat_cmp}
use Rattle.std.proofs.lemmas.Map.Keys.{sorted_tail}
use Rattle.ng_base.specs.Views.{ViewTree}
use Rattle.ng_base.specs.declared.path.Key.{Key}
use Rattle.ng_behaviour.specs.Scopes.{Scope, path_at}
use Rattle.ng_drawing.specs.Template.{Site, Outside, Outlet, OutletScope, Fragment}
use Rattle.ng_drawing.specs.declared.origin.Origin.{Origin}
use Rattle.ng_instances.specs.Changing.{round_by, outlet_on, outlets_from}
use Rattle.ng_instances.specs.Instances.{OutletState}
use Rattle.ng_build.specs.Linking.{is_bound_site, steps}
use Rattle.ng_instances.specs.Registering.{Ground, scope_in_ground, outside_in_ground, Round}
use Rattle.ng_instances.specs.Rows.{Row, watching_site, with_first, with_row, with_sites}
use Rattle.ng_build.specs.Shape.{anchors}
use Rattle.ng_link.specs.Standing.{held_count}
use Rattle.ng_link.proofs.AtBlocks.{counted_anchors}
use Rattle.ng_link.proofs.Numbers.{both_true, whole_outlets}
use Rattle.ng_instances.proofs.Rows.{fresh_watcher, row_numbers, sites_other}
use Rattle.ng_link.proofs.Serials.{first_apart}
use Rattle.ng_link.proofs.Sorted.{insert_sorted}
use Rattle.ng_build.proofs.Tables.{put-same}
use Rattle.ng_drawing.specs.Numbering.{is_outlet, is_body, is_whole}
use Rattle.ng_behaviour.specs.Keys.{key_cmp, key_cmp_total}
use Rattle.ng_watch.specs.Seen.{Watching, Watcher}
use Rattle.ng_watch.specs.Table.{Table, found, with_watch}
use Rattle.ng_commands.specs.Settled.{WatchesAt, AreWatched, AreOutlets, IsInner}
use Rattle.ng_commands.proofs.Sites.{InKeys}
use Rattle.ng_commands.proofs.Watched.{kept_found, kept_keys}

-- ---- outlets that nothing fills yet

pub outlets_are : (which : Origin) (g : Ground) (serials : List ℕ) (f : Fragment) (i : ℕ) (os : List Outlet) (names : List ℕ) → length os ≡ length names → AreOutlets serials os (outlets_from which g serials f i os names)
outlets_are which g serials f i [] names e = tt
outlets_are which g serials f i (o ∷ os) [] e = absurd (omega (arith, e))
outlets_are which g serials f i (o ∷ os) (a ∷ names) e = ((refl, refl), outlets_are which g serials f (i + 1) os names (omega (arith, e)))

-- a whole fragment has an anchor for each outlet, and each has the number of a site
pub as_many_anchors : (bodies : ℕ) (f : Fragment) (n : ℕ) → is_whole bodies f ≡ true → length f.outlets ≡ length (anchors n f.parts)
as_many_anchors bodies f n e = let count = counted_anchors n 0 (length f.outlets) f.parts (whole_outlets bodies f e) in omega (arith, count)

pub sites_of : (sites bodies many : ℕ) (os : List Outlet) → many ≡ sites → list_all (is_outlet sites bodies) os ≡ true → AllByRecursion (λ (o : Outlet). o.site < many) os
sites_of sites bodies many [] same e = tt
sites_of sites bodies many (o ∷ os) same e =
    let two = both_true (is_outlet sites bodies o) (list_all (is_outlet sites bodies) os) e in
    let low : o.site < sites = ltb-true o.site sites (both_true (nat_lt o.site sites) (is_body bodies o.filling) two.0).0 in
    (omega (arith, low, same), sites_of sites bodies many os same two.1)

pub none_held : (q : List ℕ) (which : Origin) (g : Ground) (serials : List ℕ) (f : Fragment) (i : ℕ) (os : List Outlet) (names : List ℕ) → held_count q (outlets_from which g serials f i os names) ≡ 0
none_held q which g serials f i [] names = refl
none_held q which g serials f i (o ∷ os) [] = refl
none_held q which g serials f i (o ∷ os) (a ∷ names) = let more = none_held q which g serials f (i + 1) os names in omega (arith, more)

-- the scope round an outlet is one of the instance's, and those outside what the slots in it are given are there
abbrev pub IsWithin : ℕ → Round → Type 0
IsWithin n r = (r.scope < n) × AllByRecursion (λ (k : ℕ). k < n) r.outsides

pub round_within : (which : Origin) (g : Ground) (n : ℕ) → ((k : ℕ) → scope_in_ground g k < n) → ((o : Outside) → outside_in_ground g o < n) → AllByRecursion (λ (k : ℕ). k < n) g.outsides → (x : Option OutletScope) → IsWithin n (round_by which g x)
round_within which g n scopes outs all None = (scopes 0, all)
round_within which g n scopes outs all (Some x) = (scopes x.scope, each x.outsides)
  where
    each : (os : List Outside) → AllByRecursion (λ (k : ℕ). k < n) (map (outside_in_ground g) os)
    each [] = tt
    each (o ∷ os) = (outs o, each os)

pub index_below : (n : ℕ) (ns : List ℕ) (i : ℕ) → 0 < n → AllByRecursion (λ (k : ℕ). k < n) ns → slice_index_or ns i 0 < n
index_below n [] zero low all = low
index_below n [] (suc i) low all = low
index_below n (k ∷ ns) zero low all = all.0
index_below n (k ∷ ns) (suc i) low all = index_below n ns i low all.1

-- what holds of each, where its site is one of the sites and no binding's
pub outlets_each : (P : OutletState → Type 0) (which : Origin) (g : Ground) (serials : List ℕ) (f : Fragment) (many n i : ℕ) (os : List Outlet) (names : List ℕ)
    → AllByRecursion (λ (o : Outlet). o.site < many) os → AllByRecursion (λ (o : Outlet). is_bound_site (steps f.parts) o.site ≡ false) os → ((x : Option OutletScope) → IsWithin n (round_by which g x))
    → ((r : Round) (o : Outlet) (a : ℕ) → IsWithin n r → o.site < many → is_bound_site (steps f.parts) o.site ≡ false → P (outlet_on r serials o a)) → AllByRecursion P (outlets_from which g serials f i os names)
outlets_each P which g serials f many n i [] names sites plain within each = tt
outlets_each P which g serials f many n i (o ∷ os) [] sites plain within each = tt
outlets_each P which g serials f many n i (o ∷ os) (a ∷ names) sites plain within each = (
  each (round_by which g (slice_get f.spots i)) o a (within (slice_get f.spots i)) sites.0 plain.0,
  outlets_each P which g serials f many n (i + 1) os names sites.1 plain.1 within each,
)

-- ---- the scopes of what comes

pub all_rest : (P : ℕ → Type 0) (ns : List ℕ) → AllByRecursion P ns → AllByRecursion P (drop 1 ns)
all_rest P [] all = tt
all_rest P (n ∷ ns) all = all.1

pub all_inner : (scopes : List Scope) (ns : List ℕ) → AllByRecursion (λ (n : ℕ). n < length scopes) ns → AllByRecursion (IsInner scopes) (map (λ n. record { scope = n; path = path_at scopes n }) ns)
all_inner scopes [] all = tt
all_inner scopes (n ∷ ns) all = ((all.0, refl), all_inner scopes ns all.1)

-- ---- rows of sites

-- each has the number of its site
pub numbered_at : (rs : List Row) (j : ℕ) (r : Row) → slice_get rs j ≡ Some r → slice_get (row_numbers rs) j ≡ Some r.key.serial.0
numbered_at [] j r at = absurd (cc)
numbered_at (z ∷ rs) zero r at = let same : z ≡ r = cc in ap (λ (u : Row). Some u.key.serial.0) same
numbered_at (z ∷ rs) (suc j) r at = numbered_at rs j r at

-- the watcher of a row watches its site, whatever it has kept
row_watch : (r : Row) (x : Site) (t : Table) (w : Watcher) → found r.key (with_row r x t) ≡ Some w → w.watch ≡ watching_site r.object r.way x
row_watch r x t w e = by_kept r.kept e
  where
    put : Table
    put = with_watch r.key (watching_site r.object r.way x) t

    first : (v : Watcher) → found r.key put ≡ Some v → v.watch ≡ watching_site r.object r.way x
    first v e =
        let one : ◌≡◌ {A = Option Watcher} (Some (fresh_watcher r x)) (Some v) = sym (put-same r.key (fresh_watcher r x) t) ∙ e in
        let two : fresh_watcher r x ≡ v = cc in
        ap (λ (u : Watcher). u.watch) (sym two)

    by_kept : (o : Option ViewTree) → found r.key (with_first r.key o put) ≡ Some w → w.watch ≡ watching_site r.object r.way x
    by_kept None e = first w e
    by_kept (Some u) e = let was = kept_found r.key (Some u) r.key put w e in sym was.2 ∙ first was.0 was.1

pub watched_there : (rs : List Row) (xs : List Site) (t : Table) (j : ℕ) (r : Row) (x : Site) → IsStrictlySortedBy nat_cmp (row_numbers rs) → slice_get rs j ≡ Some r → slice_get xs j ≡ Some x
    → (w : Watcher) → found r.key (with_sites rs xs t) ≡ Some w → w.watch ≡ watching_site r.object r.way x
watched_there [] xs t j r x o at is w e = absurd (cc)
watched_there (q ∷ rs) [] t j r x o at is w e = absurd (cc)
watched_there (q ∷ rs) (y ∷ ys) t zero r x o at is w e =
    let one : q ≡ r = cc in
    let two : y ≡ x = cc in
    let here : found q.key (with_sites rs ys (with_row q y t)) ≡ Some w = ap (λ (s : Row). found s.key (with_sites rs ys (with_row q y t))) one ∙ e in
    let there : found q.key (with_row q y t) ≡ Some w =
    sym (sites_other rs ys (with_row q y t) q.key (λ i s at same. first_apart q.key.serial.0 (row_numbers rs) i s.key.serial.0 o (numbered_at rs i s at) (ap (λ (k : Key). k.serial.0) same))) ∙ here in
    row_watch q y t w there ∙ (ap (λ (s : Row). watching_site s.object s.way y) one ∙ ap (watching_site r.object r.way) two)
watched_there (q ∷ rs) (y ∷ ys) t (suc j) r x o at is w e = watched_there rs ys (with_row q y t) j r x (sorted_tail nat_cmp q.key.serial.0 (row_numbers rs) o) at is w e

pub rows_in_keys : (rs : List Row) (xs : List Site) (t : Table) → InKeys t → InKeys (with_sites rs xs t)
rows_in_keys [] xs t h = h
rows_in_keys (r ∷ rs) [] t h = h
rows_in_keys (r ∷ rs) (x ∷ xs) t h = rows_in_keys rs xs (with_row r x t) (by_kept r.kept)
  where
    put : Table
    put = with_watch r.key (watching_site r.object r.way x) t

    ordered : InKeys put
    ordered = insert_sorted key_cmp key_cmp_total r.key (fresh_watcher r x) t h

    by_kept : (o : Option ViewTree) → InKeys (with_first r.key o put)
    by_kept None = ordered
    by_kept (Some v) = subst (IsStrictlySortedBy key_cmp) (sym (kept_keys r.key (Some v) put)) ordered

-- ---- the sites are watched

pub all_watched : (leads : Key → Bool) (t : Table) (keys : ℕ → Key) (watching : ℕ → Site → Watching) (ns : List ℕ) (xs : List Site) → length ns ≡ length xs
    → ((j n : ℕ) (x : Site) → slice_get ns j ≡ Some n → slice_get xs j ≡ Some x → WatchesAt (keys n) (watching n x) t) → AreWatched leads t keys watching ns xs
all_watched leads t keys watching [] [] e each = tt
all_watched leads t keys watching (n ∷ ns) [] e each = tt
all_watched leads t keys watching [] (x ∷ xs) e each = absurd (omega (arith, e))
all_watched leads t keys watching (n ∷ ns) (x ∷ xs) e each = ((λ on. each 0 n x refl refl), all_watched leads t keys watching ns xs (omega (arith, e)) (λ j m y at is. each (suc j) m y at is))

-- each number has a site
pub site_at : (ns : List ℕ) (xs : List Site) (j n : ℕ) → length ns ≡ length xs → slice_get ns j ≡ Some n → (x : Site) × (slice_get xs j ≡ Some x)
site_at [] xs j n e at = absurd (cc)
site_at (m ∷ ns) [] j n e at = absurd (omega (arith, e))
site_at (m ∷ ns) (x ∷ xs) zero n e at = (x, refl)
site_at (m ∷ ns) (x ∷ xs) (suc j) n e at = site_at ns xs j n (omega (arith, e)) at

-- each place has a number
pub index_there : (ns : List ℕ) (j : ℕ) → j < length ns → slice_get ns j ≡ Some (slice_index_or ns j 0)
index_there [] j lt = absurd (omega (arith, lt))
index_there (n ∷ ns) zero lt = refl
index_there (n ∷ ns) (suc j) lt = index_there ns j (omega (arith, lt))
