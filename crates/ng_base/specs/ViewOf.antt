-- What a view of the code stands for.
use Rattle.std.specs.Prelude.{ℕ, List}
use Rattle.ng_base.specs.Views.{ViewTree, ViewTrees, ViewFields, prim, list, rec, views_from, fields_from}
use Rattle.ng_base.specs.declared.view.View.{View, fold-View}
use Rattle.ng_base.specs.declared.view.Views.{Views, fold-Views}
use Rattle.ng_base.specs.declared.view.Fields.{Fields, fold-Fields}
use Rattle.ng_base.specs.declared.view.View.TheOpen.{View-F, Views-F, Fields-F}

-- one level, with each view inside seen already
abbrev pub view_step : View-F ViewTree ViewFields ViewTrees → ViewTree
view_step (View-F.Prim v) = prim v
view_step (View-F.List ts) = list ts
view_step (View-F.Rec fs) = rec fs

abbrev pub views_step : Views-F ViewTree ViewFields ViewTrees → ViewTrees
views_step v = views_from v.items.items

abbrev pub fields_step : Fields-F ViewTree ViewFields ViewTrees → ViewFields
fields_step v = fields_from v.items.items

abbrev pub view_of : View → ViewTree
view_of = fold-View ViewTree ViewFields ViewTrees view_step fields_step views_step

abbrev pub views_of : Views → ViewTrees
views_of = fold-Views ViewTree ViewFields ViewTrees view_step fields_step views_step

abbrev pub fields_of : Fields → ViewFields
fields_of = fold-Fields ViewTree ViewFields ViewTrees view_step fields_step views_step

-- a name with its view
abbrev pub field_of : List ℕ × View → List ℕ × ViewTree
field_of f = (f.0, view_of f.1)
