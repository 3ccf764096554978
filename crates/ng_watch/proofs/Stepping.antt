-- A walk from place to place is one from key to key.
use Rattle.std.proofs.Common.{◌≡◌, ◌+◌, ℕ, suc, true, List, [], ◌∷◌, Option, Some, None, refl, ap, sym, subst, ◌∙◌, arith}
use Rattle.std.specs.Prelude.{slice_get}
use Rattle.std.specs.Ordering.{is_eq}
use Rattle.std.proofs.lemmas.Cmp.{tied_itself}
use Rattle.ng_base.specs.Objects.{Object}
use Rattle.ng_base.specs.declared.path.Key.{Key}
use Rattle.ng_watch.specs.Chunks.{Rows, joined, after, row_at, has_key}
use Rattle.ng_behaviour.specs.Keys.{key_cmp_total, is_key}
use Rattle.ng_watch.specs.Seen.{watcher_of}
use Rattle.ng_watch.specs.Table.{Table, watchers_of, found}
use Rattle.ng_watch.specs.Walks.{Arrival, Walks, next_of}
use Rattle.ng_watch.proofs.AtPlaces.{Row, key_in, find_after_row, lookup_row}
use Rattle.ng_watch.proofs.Rows.{Sorted}
use Rattle.ng_watch.proofs.Tables.{key_first, key_next, there}

itself : (k : Key) → is_key k k ≡ true
itself k = ap is_eq (tied_itself key_cmp_total k)

-- all rows stand from the first place on
all_after : (cs : List Rows) → after cs 0 0 ≡ joined cs
all_after [] = refl
all_after (c ∷ cs) = refl

-- the row at the first place has the least key
pub first_there : (cs : List Rows) (i j : ℕ) → row_at cs i j ≡ slice_get (after cs 0 0) 0 → key_in (row_at cs i j) ≡ next_of None (watchers_of (joined cs))
first_there cs i j s = ap key_in (s ∙ ap (λ (es : Rows). slice_get es 0) (all_after cs)) ∙ key_first (joined cs) (watchers_of (joined cs)) refl

module _ (cs : List Rows) (i j : ℕ) (s : Sorted (joined cs)) (e : Row) (is : row_at cs i j ≡ Some e) where
  -- the watcher of a row's key is that row's
  pub row_found : found e.0 (watchers_of (joined cs)) ≡ Some (watcher_of e.1)
  row_found = there e.0 (joined cs) (watchers_of (joined cs)) (Some e.1) (sym (lookup_row e.0 cs i j (joined cs) refl s e is (itself e.0))) refl

  -- the row after it has the least key above
  pub row_next : (x y : ℕ) → row_at cs x y ≡ slice_get (after cs i (suc j)) 0 → key_in (row_at cs x y) ≡ next_of (Some e.0) (watchers_of (joined cs))
  row_next x y h =
      ap key_in (h ∙ sym (find_after_row e.0 cs i j (joined cs) refl s (ap (has_key e.0) is ∙ itself e.0)))
      ∙ key_next e.0 (joined cs) (watchers_of (joined cs)) refl

module _ (objects : List Object) (t : Table) (last from c : Option Key) (passed : ℕ) (so_far : (n : ℕ) (a : Arrival) → Walks objects t last c n a → Walks objects t last from (passed + n) a) where
  -- a walk ends here
  pub ends_here : (a : Arrival) → Walks objects t last c 0 a → (n : ℕ) (b : Arrival) → n ≡ passed → b ≡ a → Walks objects t last from n b
  ends_here a d n b same is =
      let m : passed + 0 ≡ n = omega (arith, same) in
      subst (λ x. Walks objects t last from n x) (sym is) (subst (λ x. Walks objects t last from x a) m (so_far 0 a d))

  -- or it goes on behind a watcher that it passes
  pub goes_behind : (k : Key) → ((n : ℕ) (a : Arrival) → Walks objects t last (Some k) n a → Walks objects t last c (suc n) a) → (n : ℕ) (a : Arrival) → Walks objects t last (Some k) n a → Walks objects t last from (passed + 1 + n) a
  goes_behind k pass n a d =
      let m : passed + suc n ≡ passed + 1 + n = omega arith in
      subst (λ x. Walks objects t last from x a) m (so_far (suc n) a (pass n a d))
