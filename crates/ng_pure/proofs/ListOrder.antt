-- The own values of an array that was made for a list stand under the indices of the list's items, while there are fewer than 2^32.
use Rattle.std.proofs.Common.{◌≡◌, ◌∙◌, ◌<◌, ◌+◌, ◌^◌, ℕ, suc, List, [], ◌∷◌, length, map, refl, sym, ap, subst, arith, Some, slice_get, decimal}
use Rattle.std.specs.Prelude.{option_and_then}
use Rattle.std.specs.List.{range_with_len}
use Rattle.ng_base.specs.Objects.{Object, own_of}
use Rattle.ng_base.specs.Views.{ViewTree, ViewTrees, views_list}
use Rattle.ng_base.specs.declared.value.Value.{Value}
use Rattle.ng_filters.specs.Parts.{indexed}
use Rattle.ng_language.specs.Unfolding.{prims, with_entry, entries_of, own_entries}
use Rattle.ng_members.proofs.Indices.{decimal_index}
use Rattle.ng_write.specs.Storing.{array_with}
use Rattle.ng_pure.specs.Showing.{ItemsShow}
use Rattle.ng_pure.proofs.Shown.{AllSeen, FieldsSeen, items_seen}
use Rattle.ng_pure.proofs.Members.{values_length}

-- the items from a place on
entries_from : (n from : ℕ) (now : List Object) (all : List Value) (k : ℕ) (vs : List Value) (ts : List ViewTree) → ((j : ℕ) → slice_get vs j ≡ slice_get all (k + j)) → k + length vs < 2 ^ 32 → AllSeen n from now (prims vs) ts
    → FieldsSeen n from now (entries_of (array_with all) (map decimal (range_with_len k (length vs)))) (indexed k ts)
entries_from n from now all k [] [] is l s = tt
entries_from n from now all k [] (t ∷ ts) is l s = absurd s
entries_from n from now all k (v ∷ vs) [] is l s = absurd s
entries_from n from now all k (v ∷ vs) (t ∷ ts) is l s =
    let here : own_of (array_with all) (decimal k) ≡ Some v =
    ap (option_and_then (λ i. slice_get all i)) (decimal_index k (omega arith)) ∙ (ap (slice_get all) (let e : k ≡ k + 0 = omega arith in e) ∙ sym (is 0)) in
    subst (λ o. FieldsSeen n from now (with_entry (decimal k) o (entries_of (array_with all) (map decimal (range_with_len (k + 1) (length vs))))) ((decimal k, t) ∷ indexed (k + 1) ts)) (sym here)
    ((refl, s.0), entries_from n from now all (k + 1) vs ts (λ j. is (suc j) ∙ ap (slice_get all) (omega arith)) (omega arith) s.1)

-- the own values of an array that was made, in order
pub array_entries : (n from : ℕ) (now : List Object) (vs : List Value) (ts : ViewTrees) → length (views_list ts) < 2 ^ 32 → ItemsShow n from now vs ts → FieldsSeen n from now (own_entries (array_with vs)) (indexed 0 (views_list ts))
array_entries n from now vs ts l s =
    let all = items_seen n from now ts vs s in
    entries_from n from now vs 0 vs (views_list ts) (λ j. ap (slice_get vs) (omega arith)) (omega (arith, values_length n from now vs (views_list ts) all)) all
