-- Tables stand in the order of their keys, whatever is done to them.
use Rattle.std.proofs.Common.{◌≡◌, Bool, true, false, List, [], ◌∷◌, cond, refl, ap, ◌∙◌}
use Rattle.std.specs.BTreeMap.{insert_entry}
use Rattle.std.specs.Cmp.{IsTotalOrder}
use Rattle.std.specs.List.{AllByRecursion, filter}
use Rattle.std.specs.List.Sorted.{IsStrictlySortedBy}
use Rattle.std.specs.Map.{keys_of, remove_entry}
use Rattle.std.specs.Ordering.{match_ordering, ordering_reverse}
use Rattle.std.specs.declared.cmp.Ordering.{Ordering}
use Rattle.std.specs.declared.cmp.Ordering.TheVariants.{Less, Equal, Greater}

pub none_in_order : {K : Type 0} (cmp : K → K → Ordering) → IsStrictlySortedBy cmp []
unfolding IsStrictlySortedBy
none_in_order cmp = tt

turned : {K : Type 0} (cmp : K → K → Ordering) → IsTotalOrder cmp → (j k : K) → cmp k j ≡ Greater → cmp j k ≡ Less
turned cmp total j k g = total.antisymm j k ∙ ap ordering_reverse g

module _ {K X : Type 0} (cmp : K → K → Ordering) (total : IsTotalOrder cmp) where
  abbrev Above : K → List (K × X) → Type 0
  Above k es = AllByRecursion (λ y. cmp k y ≡ Less) (keys_of es)

  abbrev pub InKeyOrder : List (K × X) → Type 0
  InKeyOrder es = IsStrictlySortedBy cmp (keys_of es)

  head_above : (e : K × X) (es : List (K × X)) → InKeyOrder (e ∷ es) → Above e.0 es
  unfolding IsStrictlySortedBy
  head_above e es h = h.0

  tail_sorted : (e : K × X) (es : List (K × X)) → InKeyOrder (e ∷ es) → InKeyOrder es
  unfolding IsStrictlySortedBy
  tail_sorted e es h = h.1

  sorted_cons : (e : K × X) (es : List (K × X)) → Above e.0 es → InKeyOrder es → InKeyOrder (e ∷ es)
  unfolding IsStrictlySortedBy
  sorted_cons e es h k = (h, k)

  above_less : (k j : K) (es : List (K × X)) → cmp k j ≡ Less → Above j es → Above k es
  above_less k j [] l h = tt
  above_less k j (e ∷ es) l h = (total.trans k j e.0 l h.0, above_less k j es l h.1)

  above_inserted : (j k : K) (v : X) (es : List (K × X)) → cmp j k ≡ Less → Above j es → Above j (insert_entry cmp es k v)
  above_inserted j k v [] l h = (l, tt)
  above_inserted j k v (e ∷ es) l h = by (cmp k e.0) (above_inserted j k v es l h.1)
    where
      by : (o : Ordering) → Above j (insert_entry cmp es k v) → Above j (match_ordering o ((k, v) ∷ e ∷ es) ((e.0, v) ∷ es) (e ∷ insert_entry cmp es k v))
      by Less more = (l, h)
      by Equal more = h
      by Greater more = (h.0, more)

  pub insert_sorted : (k : K) (v : X) (es : List (K × X)) → InKeyOrder es → InKeyOrder (insert_entry cmp es k v)
  insert_sorted k v [] h = sorted_cons (k, v) [] tt (none_in_order cmp)
  insert_sorted k v (e ∷ es) h = by (cmp k e.0) refl (insert_sorted k v es (tail_sorted e es h))
    where
      by : (o : Ordering) → cmp k e.0 ≡ o → InKeyOrder (insert_entry cmp es k v) → InKeyOrder (match_ordering o ((k, v) ∷ e ∷ es) ((e.0, v) ∷ es) (e ∷ insert_entry cmp es k v))
      by Less l more = sorted_cons (k, v) (e ∷ es) (l, above_less k e.0 es l (head_above e es h)) h
      by Equal l more = sorted_cons (e.0, v) es (head_above e es h) (tail_sorted e es h)
      by Greater l more = sorted_cons e (insert_entry cmp es k v) (above_inserted e.0 k v es (turned cmp total e.0 k l) (head_above e es h)) more

  above_filtered : (p : K × X → Bool) (k : K) (es : List (K × X)) → Above k es → Above k (filter p es)
  above_filtered p k [] h = tt
  above_filtered p k (e ∷ es) h = by (p e) (above_filtered p k es h.1)
    where
      by : (b : Bool) → Above k (filter p es) → Above k (cond b (e ∷ filter p es) (filter p es))
      by true more = (h.0, more)
      by false more = more

  pub filter_sorted : (p : K × X → Bool) (es : List (K × X)) → InKeyOrder es → InKeyOrder (filter p es)
  filter_sorted p [] h = h
  filter_sorted p (e ∷ es) h = by (p e) (filter_sorted p es (tail_sorted e es h))
    where
      by : (b : Bool) → InKeyOrder (filter p es) → InKeyOrder (cond b (e ∷ filter p es) (filter p es))
      by true more = sorted_cons e (filter p es) (above_filtered p e.0 es (head_above e es h)) more
      by false more = more

  above_removed : (test : K → Bool) (k : K) (es : List (K × X)) → Above k es → Above k (remove_entry test es)
  above_removed test k [] h = tt
  above_removed test k (e ∷ es) h = by (test e.0) (above_removed test k es h.1)
    where
      by : (b : Bool) → Above k (remove_entry test es) → Above k (cond b es (e ∷ remove_entry test es))
      by true more = h.1
      by false more = (h.0, more)

  pub remove_sorted : (test : K → Bool) (es : List (K × X)) → InKeyOrder es → InKeyOrder (remove_entry test es)
  remove_sorted test [] h = h
  remove_sorted test (e ∷ es) h = by (test e.0) (remove_sorted test es (tail_sorted e es h))
    where
      by : (b : Bool) → InKeyOrder (remove_entry test es) → InKeyOrder (cond b es (e ∷ remove_entry test es))
      by true more = tail_sorted e es h
      by false more = sorted_cons e (remove_entry test es) (above_removed test e.0 es (head_above e es h)) more
