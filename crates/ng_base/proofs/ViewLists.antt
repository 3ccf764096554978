-- The lists that views hold.
use Rattle.std.proofs.Common.{◌≡◌, ℕ, List, [], ◌∷◌, map, refl, ap}
use Rattle.std.proofs.lemmas.List.{length-map, map-append}
use Rattle.ng_base.specs.Views.{ViewTree, ViewTrees, ViewFields, views_from, fields_from, views_list, fields_list}
use Rattle.ng_base.specs.ViewOf.{view_step, views_step, fields_step, view_of, views_of, fields_of, field_of}
use Rattle.ng_base.specs.declared.view.Views.{Views}
use Rattle.ng_base.specs.declared.view.Fields.{Fields}
use Rattle.ng_base.specs.declared.view.View.TheFolds.{fold_out-Views, fold_out-Fields}

pub views_of-items : (v : Views) → views_of v ≡ views_from (map view_of v.items.items)
views_of-items = fold_out-Views ViewTree ViewFields ViewTrees view_step fields_step views_step

pub fields_of-items : (v : Fields) → fields_of v ≡ fields_from (map field_of v.items.items)
fields_of-items = fold_out-Fields ViewTree ViewFields ViewTrees view_step fields_step views_step

pub views_list-from : (ts : List ViewTree) → views_list (views_from ts) ≡ ts
views_list-from [] = refl
views_list-from (t ∷ ts) = ap (λ us. t ∷ us) (views_list-from ts)

pub fields_list-from : (fs : List (List ℕ × ViewTree)) → fields_list (fields_from fs) ≡ fs
fields_list-from [] = refl
fields_list-from (f ∷ fs) = ap (λ us. f ∷ us) (fields_list-from fs)

pub ruleset view_steps = (views_of-items, fields_of-items, views_list-from, fields_list-from, length-map, map-append)
