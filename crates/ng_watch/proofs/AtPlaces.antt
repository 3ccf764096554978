-- What the calls of a table come to at the place of a key's row, and at the gap of a key that has none.
use Rattle.std.proofs.Common.{◌≡◌, ◌≤◌, ◌+◌, ◌-◌, ℕ, suc, true, List, [], ◌∷◌, ◌++◌, Option, Some, None, refl, ap, sym, subst, ◌∙◌, length, arith}
use Rattle.std.specs.Prelude.{find, option_map, slice_get, MatchOption}
use Rattle.std.specs.BTreeMap.{insert_entry}
use Rattle.std.specs.List.Sorted.{IsStrictlySortedBy}
use Rattle.std.specs.Map.{lookup, lookup_key, remove_entry, set_value}
use Rattle.ng_base.specs.declared.path.Key.{Key}
use Rattle.ng_value.specs.declared.snapshot.Snap.{Snap}
use Rattle.ng_watch.specs.Chunks.{Rows, joined, before, after, row_at, has_key, IsCounted, IsGap}
use Rattle.ng_behaviour.specs.Keys.{key_cmp, is_key, is_above}
use Rattle.ng_watch.specs.declared.watched.Watched.{Watched}
use Rattle.ng_watch.proofs.Chunks.{parts, parts_row, row_of}
use Rattle.ng_watch.proofs.Rows.{Sorted, find_gap, find_hit, insert_gap, insert_hit, lookup_gap, lookup_hit, lookup_key_gap, lookup_key_hit, one_more, remove_gap, remove_hit, set_hit, sorted_changed, sorted_with, sorted_without}

abbrev pub Row : Type 0
Row = Key × Watched

-- the key of a row, if there is one
abbrev pub key_in : Option Row → Option Key
key_in o = option_map (λ (e : Row). e.0) o

-- and its watcher
abbrev pub watcher_in : Option Row → Option Watched
watcher_in o = option_map (λ (e : Row). e.1) o

module _ (k : Key) (cs : List Rows) (i j : ℕ) (t : Rows) (all : joined cs ≡ t) where
  -- ---- a key that has no row

  module _ (g : IsGap k (before cs i j) (after cs i j)) where
    pub lookup_none : lookup (is_key k) t ≡ None
    lookup_none = ap (lookup (is_key k)) (sym all ∙ parts cs i j) ∙ lookup_gap k (before cs i j) (after cs i j) g

    pub lookup_key_none : lookup_key (is_key k) t ≡ None
    lookup_key_none = ap (lookup_key (is_key k)) (sym all ∙ parts cs i j) ∙ lookup_key_gap k (before cs i j) (after cs i j) g

    pub remove_none : remove_entry (is_key k) t ≡ t
    remove_none = ap (remove_entry (is_key k)) (sym all ∙ parts cs i j) ∙ remove_gap k (before cs i j) (after cs i j) g ∙ sym (parts cs i j) ∙ all

    pub find_after_gap : find (λ (f : Row). is_above k f.0) t ≡ slice_get (after cs i j) 0
    find_after_gap = ap (find (λ (f : Row). is_above k f.0)) (sym all ∙ parts cs i j) ∙ find_gap k (before cs i j) (after cs i j) g

  -- ---- a key that has one

  module _ (s : Sorted (joined cs)) (h : has_key k (row_at cs i j) ≡ true) where
    abbrev row : Row
    row = (row_of k (row_at cs i j) h).0

    is : row_at cs i j ≡ Some row
    is = (row_of k (row_at cs i j) h).1

    hit : is_key k row.0 ≡ true
    hit = (row_of k (row_at cs i j) h).2

    cut : joined cs ≡ before cs i j ++ row ∷ after cs i (suc j)
    cut = parts_row cs i j row is

    sorted : Sorted (before cs i j ++ row ∷ after cs i (suc j))
    sorted = subst Sorted cut s

    pub lookup_at : lookup (is_key k) t ≡ watcher_in (row_at cs i j)
    lookup_at = ap (lookup (is_key k)) (sym all ∙ cut) ∙ lookup_hit k (before cs i j) (after cs i (suc j)) row sorted hit ∙ sym (ap watcher_in is)

    pub lookup_key_at : lookup_key (is_key k) t ≡ key_in (row_at cs i j)
    lookup_key_at = ap (lookup_key (is_key k)) (sym all ∙ cut) ∙ lookup_key_hit k (before cs i j) (after cs i (suc j)) row sorted hit ∙ sym (ap key_in is)

    pub remove_at : remove_entry (is_key k) t ≡ before cs i j ++ after cs i (suc j)
    remove_at = ap (remove_entry (is_key k)) (sym all ∙ cut) ∙ remove_hit k (before cs i j) (after cs i (suc j)) row sorted hit

    pub find_after_row : find (λ (f : Row). is_above k f.0) t ≡ slice_get (after cs i (suc j)) 0
    find_after_row = ap (find (λ (f : Row). is_above k f.0)) (sym all ∙ cut) ∙ find_hit k (before cs i j) (after cs i (suc j)) row sorted hit

    pub some_row : 1 ≤ length (joined cs)
    some_row = omega (arith, ap (length {A = Row}) cut, one_more (before cs i j) (after cs i (suc j)) row)

    -- the row has another watcher
    pub insert_at : (w : Watched) (new : Rows) → ((e : Row) → row_at cs i j ≡ Some e → new ≡ before cs i j ++ (e.0, w) ∷ after cs i (suc j)) → new ≡ insert_entry key_cmp t k w
    insert_at w new n = n row is ∙ sym (ap (λ (es : Rows). insert_entry key_cmp es k w) (sym all ∙ cut) ∙ insert_hit k w (before cs i j) (after cs i (suc j)) row sorted hit)

    -- the row's watcher keeps something else
    pub former_at : (former kept : Option Snap) → ((e : Row) → row_at cs i j ≡ Some e → former ≡ e.1.kept) → Some former ≡ option_map (λ (w : Watched). w.kept) (lookup (is_key k) t)
    former_at former kept f = ap (λ (o : Option Snap). Some o) (f row is) ∙ sym (ap (option_map (λ (w : Watched). w.kept)) (lookup_at ∙ ap watcher_in is))

    pub kept_at : (kept : Option Snap) (new : Rows) → ((e : Row) → row_at cs i j ≡ Some e → new ≡ before cs i j ++ (e.0, record { watch = e.1.watch; kept = kept }) ∷ after cs i (suc j)) → MatchOption (lookup (is_key k) t) (new ≡ t) (λ w. new ≡ set_value (is_key k) t (record { watch = w.watch; kept = kept }))
    kept_at kept new n =
        let v : Watched = record { watch = row.1.watch; kept = kept } in
        subst (λ (o : Option Watched). MatchOption o (new ≡ t) (λ w. new ≡ set_value (is_key k) t (record { watch = w.watch; kept = kept }))) (sym (lookup_at ∙ ap watcher_in is)) (n row is ∙ sym (ap (λ (es : Rows). set_value (is_key k) es v) (sym all ∙ cut) ∙ set_hit k v (before cs i j) (after cs i (suc j)) row sorted hit))

  -- a row that has the key, at its place
  pub lookup_row : Sorted (joined cs) → (e : Row) → row_at cs i j ≡ Some e → is_key k e.0 ≡ true → lookup (is_key k) t ≡ Some e.1
  lookup_row s e is hit = lookup_at s (ap (has_key k) is ∙ hit) ∙ ap watcher_in is

  pub no_kept : (g : IsGap k (before cs i j) (after cs i j)) (kept : Option Snap) → MatchOption (lookup (is_key k) t) (t ≡ t) (λ w. t ≡ set_value (is_key k) t (record { watch = w.watch; kept = kept }))
  no_kept g kept = subst (λ (o : Option Watched). MatchOption o (t ≡ t) (λ w. t ≡ set_value (is_key k) t (record { watch = w.watch; kept = kept }))) (sym (lookup_none g)) refl

-- ---- the count and the order

module _ (k : Key) (cs : List Rows) (i j n : ℕ) (whole : IsCounted n (joined cs)) where
  module _ (h : has_key k (row_at cs i j) ≡ true) where
    abbrev at : (e : Row) × (row_at cs i j ≡ Some e) × (is_key k e.0 ≡ true)
    at = row_of k (row_at cs i j) h

    apart : joined cs ≡ before cs i j ++ at.0 ∷ after cs i (suc j)
    apart = parts_row cs i j at.0 at.1

    pub counted_changed : (f : Row → Watched) (new : Rows) → ((e : Row) → row_at cs i j ≡ Some e → new ≡ before cs i j ++ (e.0, f e) ∷ after cs i (suc j)) → IsCounted n new
    counted_changed f new m = subst (IsCounted n) (sym (m at.0 at.1)) (record {
      sorted = sorted_changed (before cs i j) (after cs i (suc j)) at.0.0 at.0.1 (f at.0) (subst Sorted apart whole.sorted);
      counted = omega (arith, whole.counted, ap (length {A = Row}) apart, one_more (before cs i j) (after cs i (suc j)) at.0, one_more (before cs i j) (after cs i (suc j)) (at.0.0, f at.0));
    })

    pub counted_less : (new : Rows) → new ≡ before cs i j ++ after cs i (suc j) → IsCounted (n - 1) new
    counted_less new m = subst (IsCounted (n - 1)) (sym m) (record {
      sorted = sorted_without (before cs i j) (after cs i (suc j)) at.0 (subst Sorted apart whole.sorted);
      counted = omega (arith, whole.counted, ap (length {A = Row}) apart, one_more (before cs i j) (after cs i (suc j)) at.0);
    })

  pub counted_more : (w : Watched) (new : Rows) → IsGap k (before cs i j) (after cs i j) → new ≡ insert_entry key_cmp (joined cs) k w → IsCounted (n + 1) new
  counted_more w new g m = subst (IsCounted (n + 1)) (sym (m ∙ ap (λ (es : Rows). insert_entry key_cmp es k w) (parts cs i j) ∙ insert_gap k w (before cs i j) (after cs i j) g)) (record {
    sorted = sorted_with (before cs i j) (after cs i j) (k, w) (subst Sorted (parts cs i j) whole.sorted) g.lower g.upper;
    counted = omega (arith, whole.counted, ap (length {A = Row}) (parts cs i j), one_more (before cs i j) (after cs i j) (k, w));
  })

pub counted_none : (es : Rows) → es ≡ [] → IsCounted 0 es
unfolding IsStrictlySortedBy
counted_none es e = subst (IsCounted 0) (sym e) (record { sorted = tt; counted = refl })
