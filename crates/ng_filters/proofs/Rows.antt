-- The rows of `orderBy`: items beside what they are ordered by.
use Rattle.std.proofs.Common.{◌≡◌, ◌∙◌, Bool, List, [], ◌∷◌, map, refl, sym, ap, is_lt}
use Rattle.std.proofs.Math.Path.{fun_ext}
use Rattle.ng_base.specs.Objects.{Object}
use Rattle.ng_base.specs.Views.{ViewTree}
use Rattle.ng_base.specs.ViewOf.{view_of}
use Rattle.ng_filters.specs.declared.keys.Key.{Key}
use Rattle.ng_filters.specs.declared.ordering.Row.{Row}
use Rattle.ng_filters.specs.declared.predicates.Predicate.{Predicate}
use Rattle.ng_filters.specs.Ordering.{keys_at, keys_cmp, in_order, is_before}
use Rattle.ng_filters.specs.Seen.{row_seen, with_keys}
use Rattle.ng_filters.proofs.Ranks.{keys_decide}
use Rattle.ng_filters.proofs.Sorts.{in_order_map}

abbrev Keyed : Type 0
Keyed = ViewTree × List Key

items_of_rows : (rows : List Row) → map (λ (r : Row). view_of r.item) rows ≡ map (λ (k : Keyed). k.0) (map row_seen rows)
items_of_rows [] = refl
items_of_rows (r ∷ rs) = ap (λ ts. view_of r.item ∷ ts) (items_of_rows rs)

items_with_keys : (objects : List Object) (ps : List Predicate) (ts : List ViewTree) → map (λ (k : Keyed). k.0) (map (with_keys objects ps) ts) ≡ ts
items_with_keys objects ps [] = refl
items_with_keys objects ps (t ∷ ts) = ap (λ us. t ∷ us) (items_with_keys objects ps ts)

pub rows_in_order : (objects : List Object) (reversed : Bool) (ps : List Predicate) (rows sorted : List Row) (ts : List ViewTree) → map row_seen rows ≡ map (with_keys objects ps) ts
    → sorted ≡ in_order (λ r s. is_lt (keys_cmp reversed ps r.keys.items s.keys.items)) rows → map (λ (r : Row). view_of r.item) sorted ≡ in_order (is_before objects reversed ps) ts
rows_in_order objects reversed ps rows sorted ts e h =
    let before : Keyed → Keyed → Bool = λ k l. is_lt (keys_cmp reversed ps k.1 l.1) in
    let by_keys : ViewTree → ViewTree → Bool = λ t u. is_lt (keys_cmp reversed ps (keys_at objects ps t) (keys_at objects ps u)) in
    let same : by_keys ≡ is_before objects reversed ps = fun_ext (λ t. fun_ext (λ u. ap is_lt (keys_decide objects reversed ps t u))) in
    items_of_rows sorted
    ∙ (ap (λ rs. map (λ (k : Keyed). k.0) (map row_seen rs)) h
    ∙ (ap (map (λ (k : Keyed). k.0)) (sym (in_order_map row_seen before rows) ∙ (ap (in_order before) e ∙ in_order_map (with_keys objects ps) before ts))
    ∙ (items_with_keys objects ps (in_order by_keys ts) ∙ ap (λ f. in_order f ts) same)))
