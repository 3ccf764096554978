-- Properties in the order of keys, seen as the definition has them.
use Rattle.std.proofs.Common.{◌≡◌, ◌∙◌, ◌+◌, ◌<◌, ℕ, List, [], ◌∷◌, ◌++◌, map, refl, ap, Ordering, Less, Equal, Greater}
use Rattle.std.specs.BTreeMap.{insert_entry}
use Rattle.std.specs.Map.{values_of}
use Rattle.std.specs.Ordering.{match_ordering, nat_cmp}
use Rattle.ng_filters.specs.declared.properties.Property.{Property}
use Rattle.ng_filters.specs.Seen.{field_seen, indexed_seen}

ordered-map : {A B : Type 0} (g : A → B) (o : Ordering) (xs ys zs : List A) → map g (match_ordering o xs ys zs) ≡ match_ordering o (map g xs) (map g ys) (map g zs)
ordered-map g Less xs ys zs = refl
ordered-map g Equal xs ys zs = refl
ordered-map g Greater xs ys zs = refl

pub map-insert_indexed : (es : List (ℕ × Property)) (i : ℕ) (p : Property) → map indexed_seen (insert_entry nat_cmp es i p) ≡ insert_entry nat_cmp (map indexed_seen es) i (field_seen p)
map-insert_indexed [] i p = refl
map-insert_indexed (e ∷ es) i p =
    ordered-map indexed_seen (nat_cmp i e.0) _ _ _
    ∙ ap (λ xs. match_ordering (nat_cmp i e.0) ((i, field_seen p) ∷ indexed_seen e ∷ map indexed_seen es) ((e.0, field_seen p) ∷ map indexed_seen es) (indexed_seen e ∷ xs)) (map-insert_indexed es i p)

pub values-seen : (es : List (ℕ × Property)) → map field_seen (values_of es) ≡ values_of (map indexed_seen es)
values-seen [] = refl
values-seen (e ∷ es) = ap (λ xs. field_seen e.1 ∷ xs) (values-seen es)
