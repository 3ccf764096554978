-- Fields in the order of their names, seen as the tree has them.
use Rattle.std.proofs.Common.{◌≡◌, ◌∙◌, ℕ, List, [], ◌∷◌, ◌++◌, map, refl, ap, Option, Some, None, Ordering, Less, Equal, Greater}
use Rattle.std.specs.BTreeMap.{insert_entry}
use Rattle.std.specs.Map.{values_of}
use Rattle.std.specs.Ordering.{match_ordering, nat_cmp}
use Rattle.ng_base.specs.Objects.{index_of}
use Rattle.ng_base.specs.Order.{txt_cmp}
use Rattle.ng_base.specs.ViewOf.{view_of, field_of}
use Rattle.ng_base.specs.declared.view.View.{View}
use Rattle.ng_language.specs.Unfolding.{Field, sorted_from, with_indexed, indexed_from, with_other, others_of}
use Rattle.ng_value.specs.Seen.{indexed_field}

abbrev pub Named : Type 0
Named = List ℕ × View

ordered-map : {A B : Type 0} (g : A → B) (o : Ordering) (xs ys zs : List A) → map g (match_ordering o xs ys zs) ≡ match_ordering o (map g xs) (map g ys) (map g zs)
ordered-map g Less xs ys zs = refl
ordered-map g Equal xs ys zs = refl
ordered-map g Greater xs ys zs = refl

pub map-insert_field : (es : List Named) (name : List ℕ) (v : View) → map field_of (insert_entry txt_cmp es name v) ≡ insert_entry txt_cmp (map field_of es) name (view_of v)
map-insert_field [] name v = refl
map-insert_field (e ∷ es) name v =
    ordered-map field_of (txt_cmp name e.0) _ _ _
    ∙ ap (λ xs. match_ordering (txt_cmp name e.0) ((name, view_of v) ∷ field_of e ∷ map field_of es) ((e.0, view_of v) ∷ map field_of es) (field_of e ∷ xs)) (map-insert_field es name v)

pub map-insert_indexed : (es : List (ℕ × Named)) (i : ℕ) (f : Named) → map indexed_field (insert_entry nat_cmp es i f) ≡ insert_entry nat_cmp (map indexed_field es) i (field_of f)
map-insert_indexed [] i f = refl
map-insert_indexed (e ∷ es) i f =
    ordered-map indexed_field (nat_cmp i e.0) _ _ _
    ∙ ap (λ xs. match_ordering (nat_cmp i e.0) ((i, field_of f) ∷ indexed_field e ∷ map indexed_field es) ((e.0, field_of f) ∷ map indexed_field es) (indexed_field e ∷ xs)) (map-insert_indexed es i f)

pub sorted_from-more : (done fs : List Field) (f : Field) → sorted_from done (fs ++ f ∷ []) ≡ insert_entry txt_cmp (sorted_from done fs) f.0 f.1
sorted_from-more done [] f = refl
sorted_from-more done (g ∷ gs) f = sorted_from-more (insert_entry txt_cmp done g.0 g.1) gs f

pub indexed_from-more : (done : List (ℕ × Field)) (fs : List Field) (f : Field) → indexed_from done (fs ++ f ∷ []) ≡ with_indexed (indexed_from done fs) (index_of f.0) f
indexed_from-more done [] f = refl
indexed_from-more done (g ∷ gs) f = indexed_from-more (with_indexed done (index_of g.0) g) gs f

other-more : (o p : Option ℕ) (g f : Field) (fs : List Field) → with_other o g (fs ++ with_other p f []) ≡ with_other o g fs ++ with_other p f []
other-more None p g f fs = refl
other-more (Some i) p g f fs = refl

pub others_of-more : (fs : List Field) (f : Field) → others_of (fs ++ f ∷ []) ≡ others_of fs ++ with_other (index_of f.0) f []
others_of-more [] f = refl
others_of-more (g ∷ gs) f = ap (with_other (index_of g.0) g) (others_of-more gs f) ∙ other-more (index_of g.0) (index_of f.0) g f (others_of gs)

pub values-indexed : (es : List (ℕ × Named)) → map field_of (values_of es) ≡ values_of (map indexed_field es)
values-indexed [] = refl
values-indexed (e ∷ es) = ap (λ xs. field_of e.1 ∷ xs) (values-indexed es)

pub map-field_more : (fs : List Named) (f : Named) → map field_of (fs ++ f ∷ []) ≡ map field_of fs ++ field_of f ∷ []
map-field_more [] f = refl
map-field_more (g ∷ gs) f = ap (λ xs. field_of g ∷ xs) (map-field_more gs f)

pub ruleset orders = (map-insert_field, map-insert_indexed, sorted_from-more, indexed_from-more, others_of-more, map-field_more)
