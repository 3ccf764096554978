-- The key to which a walk comes next is the nearest, and a walk that is to end at a key ends no later.
use Rattle.std.proofs.Common.{◌≡◌, ◌∙◌, ◌&&◌, ℕ, suc, Bool, true, false, true≢false, List, Option, None, Some, refl, ap, sym, subst, inl, inr, ◌⊎◌}
use Rattle.std.specs.Prelude.{IsSome}
use Rattle.std.specs.List.Sorted.{IsStrictlySortedBy}
use Rattle.std.specs.Map.{keys_of}
use Rattle.std.specs.Ordering.{is_lt, ordering_reverse}
use Rattle.std.specs.declared.cmp.Ordering.{Ordering}
use Rattle.std.specs.declared.cmp.Ordering.TheVariants.{Less, Equal, Greater}
use Rattle.ng_base.specs.Objects.{Object}
use Rattle.ng_base.specs.declared.path.Key.{Key}
use Rattle.ng_digest.proofs.Carried.{found_passes, least}
use Rattle.ng_digest.proofs.Keys.{above_both, is_less, not_back, not_below}
use Rattle.ng_digest.specs.Machine.{above}
use Rattle.ng_behaviour.specs.Keys.{key_cmp, key_cmp_total, is_above, is_key}
use Rattle.ng_watch.specs.Seen.{Watcher}
use Rattle.ng_watch.specs.Table.{Table, found}
use Rattle.ng_watch.specs.Walks.{Arrival, Walks, came_to_end, came_to_watcher, passed_watcher, next_of, ends_at}
use Rattle.ng_page.proofs.Ahead.{next_is}
use Rattle.ng_page.proofs.SettledLaws.{live_key}
use Rattle.ng_page.specs.KnownClean.{is_between}
use Rattle.ng_page.specs.PageLaws.{is_itself, key_exact, key_is}
use Rattle.ng_page.specs.PageMachine.{page_machine}

-- a key that is not above another is that one, or below it
pub not_over : (k j : Key) → is_above k j ≡ false → (k ≡ j) ⊎ (is_above j k ≡ true)
not_over k j over = by_order (key_cmp k j) refl
  where
    by_order : (o : Ordering) → key_cmp k j ≡ o → (k ≡ j) ⊎ (is_above j k ≡ true)
    by_order Less e = absurd (true≢false (sym (ap is_lt e) ∙ over))
    by_order Equal e = inl (key_exact k j e)
    by_order Greater e = inr (ap is_lt (key_cmp_total.antisymm j k ∙ ap ordering_reverse e))

-- what is above the cursor is above each key that is not
pub over_bound : (c : Option Key) (f : Key) → above page_machine c f ≡ false → (k : Key) → above page_machine c k ≡ true → is_above f k ≡ true
over_bound None f e k over = absurd (true≢false e)
over_bound (Some c) f e k over = by_place (not_over c f e)
  where
    by_place : (c ≡ f) ⊎ (is_above f c ≡ true) → is_above f k ≡ true
    by_place (inl same) = subst (λ x. is_above x k ≡ true) same over
    by_place (inr under) = ap is_lt (key_cmp_total.trans f c k (is_less (key_cmp f c) under) (is_less (key_cmp c k) over))

-- the next key is above the cursor, and so is what is above it
pub next_over : (t : Table) (c : Option Key) (k : Key) → next_of c t ≡ Some k → above page_machine c k ≡ true
next_over t c k n = found_passes (above page_machine c) k (keys_of t) (next_is t c ∙ n)

pub over_next : (t : Table) (c : Option Key) (k : Key) → next_of c t ≡ Some k → (j : Key) → is_above k j ≡ true → above page_machine c j ≡ true
over_next t c k n j over = above_both page_machine key_cmp_total c k j (next_over t c k n) (is_less (key_cmp k j) over)

-- the next key above one that is above the cursor is so too
pub after_over : (t : Table) (c : Option Key) (b m : Key) → above page_machine c b ≡ true → next_of (Some b) t ≡ Some m → above page_machine c m ≡ true
after_over t c b m over n = above_both page_machine key_cmp_total c b m over (is_less (key_cmp b m) (next_over t (Some b) m n))

module _ (t : Table) (sorted : IsStrictlySortedBy key_cmp (keys_of t)) where
  -- it is the least of those
  pub next_least : (c : Option Key) (k j : Key) (w : Watcher) → next_of c t ≡ Some k → found j t ≡ Some w → above page_machine c j ≡ true → (k ≡ j) ⊎ (key_cmp k j ≡ Less)
  next_least c k j w n f a = least key_cmp (above page_machine c) k j (keys_of t) sorted (next_is t c ∙ n) (live_key j t w f) a

  below_none : (k j : Key) → is_above j k ≡ true → (k ≡ j) ⊎ (key_cmp k j ≡ Less) → ⊥
  below_none k j b (inl same) = true≢false (sym (subst (λ x. is_above j x ≡ true) same b) ∙ not_below page_machine key_cmp_total j)
  below_none k j b (inr less) = true≢false (sym b ∙ not_back page_machine key_cmp_total k j less)

  -- so none between the two has a watcher
  pub none_between : (c : Option Key) (k j : Key) (w : Watcher) → next_of c t ≡ Some k → found j t ≡ Some w → is_above j k ≡ true → above page_machine c j ≡ false
  none_between c k j w n f b = by_above (above page_machine c j) refl
    where
      by_above : (x : Bool) → above page_machine c j ≡ x → x ≡ false
      by_above false e = refl
      by_above true e = absurd (below_none k j b (next_least c k j w n f e))

-- ---- a walk that is to end at the watcher of a key

-- another one that it passes is not one that it comes to first
not_first : (c last : Option Key) (k m : Key) → above page_machine c k ≡ true → key_cmp k m ≡ Less → is_between c last m ≡ false → ends_at last k ≡ false
not_first c None k m over less other = refl
not_first c (Some l) k m over less other = by_key (is_key l k) refl
  where
    yes : l ≡ k → (above page_machine c l && is_above l m) ≡ true
    yes same = subst (λ x. (above page_machine c x && is_above x m) ≡ true) (sym same) (ap (λ b. b && is_above k m) over ∙ ap is_lt less)

    by_key : (b : Bool) → is_key l k ≡ b → b ≡ false
    by_key false e = refl
    by_key true e = absurd (true≢false (sym (yes (key_is l k e)) ∙ other))

-- and it stays so behind the watchers that are passed
still_other : (t : Table) (c last : Option Key) (k m : Key) → next_of c t ≡ Some k → is_between c last m ≡ false → is_between (Some k) last m ≡ false
still_other t c None k m n other = refl
still_other t c (Some l) k m n other = by_above (is_above k l) refl
  where
    by_above : (b : Bool) → is_above k l ≡ b → (b && is_above l m) ≡ false
    by_above false e = refl
    by_above true e = sym (ap (λ b. b && is_above l m) (over_next t c k n l e)) ∙ other

-- so it is a walk that is to end at the other one, where it does not come to that first
ends_by : (objects : List Object) (t : Table) → IsStrictlySortedBy key_cmp (keys_of t) → (last : Option Key) (m : Key) (x : Watcher) → found m t ≡ Some x → {c : Option Key} {n : ℕ} {a : Arrival} → Walks objects t (Some m) c n a
    → above page_machine c m ≡ true → is_between c last m ≡ false → Walks objects t last c n a
ends_by objects t sorted last m x there (came_to_end h) over other = came_to_end h
ends_by objects t sorted last m x there (came_to_watcher h f) over other = came_to_watcher h f
ends_by objects t sorted last m x there (passed_watcher {c = c} {k = k} {n = n} {a = a} h f v o rest) over other = by_place (next_least t sorted c k m x h there over) (ends_by objects t sorted last m x there rest)
  where
    by_place : (k ≡ m) ⊎ (key_cmp k m ≡ Less) → (is_above k m ≡ true → is_between (Some k) last m ≡ false → Walks objects t last (Some k) n a) → Walks objects t last c (suc n) a
    by_place (inl same) more = absurd (true≢false (sym (subst (λ y. is_key y k ≡ true) same (is_itself k)) ∙ o))
    by_place (inr less) more = passed_watcher h f v (not_first c last k m (next_over t c k h) less other) (more (ap is_lt less) (still_other t c last k m h other))

pub ends_first : (objects : List Object) (t : Table) → IsStrictlySortedBy key_cmp (keys_of t) → (last : Option Key) (m : Key) → IsSome (found m t) → (c : Option Key) → above page_machine c m ≡ true → is_between c last m ≡ false
    → (n : ℕ) (a : Arrival) → Walks objects t (Some m) c n a → Walks objects t last c n a
ends_first objects t sorted last m there c over other n a d = by_watcher (found m t) refl there
  where
    by_watcher : (o : Option Watcher) → found m t ≡ o → IsSome o → Walks objects t last c n a
    by_watcher None f i = absurd (cc)
    by_watcher (Some x) f i = ends_by objects t sorted last m x f d over other
