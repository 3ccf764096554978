-- Views as contracts see them: a value, a fresh list of views, or a fresh record of named views.
use Rattle.std.specs.Prelude.{ℕ, List, [], ◌∷◌}
use Rattle.ng_base.specs.declared.value.Value.{Value}

mutual
  pub data ViewTree : Type 0 where
    prim : Value → ViewTree
    list : ViewTrees → ViewTree
    rec : ViewFields → ViewTree

  pub data ViewTrees : Type 0 where
    no_views : ViewTrees
    view_then : ViewTree → ViewTrees → ViewTrees

  pub data ViewFields : Type 0 where
    no_fields : ViewFields
    field_then : List ℕ → ViewTree → ViewFields → ViewFields

abbrev pub views_from : List ViewTree → ViewTrees
views_from [] = no_views
views_from (t ∷ ts) = view_then t (views_from ts)

abbrev pub fields_from : List (List ℕ × ViewTree) → ViewFields
fields_from [] = no_fields
fields_from (f ∷ fs) = field_then f.0 f.1 (fields_from fs)

-- the views of a list in order
abbrev pub views_list : ViewTrees → List ViewTree
views_list no_views = []
views_list (view_then t ts) = t ∷ views_list ts

-- the names and views of a record in order
abbrev pub fields_list : ViewFields → List (List ℕ × ViewTree)
fields_list no_fields = []
fields_list (field_then n t fs) = (n, t) ∷ fields_list fs
