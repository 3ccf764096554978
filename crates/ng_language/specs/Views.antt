-- Views whose objects stand.
use Rattle.std.specs.Prelude.{ℕ, suc, ◌+◌, List}
use Rattle.ng_base.specs.Objects.{StandsAmong}
use Rattle.ng_base.specs.Views.{ViewTree, ViewTrees, ViewFields, prim, list, rec, no_views, view_then, no_fields, field_then}

-- each object that a view names is one of so many
abbrev mutual
  pub ViewStands : ℕ → ViewTree → Type 0
  ViewStands count (prim v) = StandsAmong count v
  ViewStands count (list ts) = ViewsStand count ts
  ViewStands count (rec fs) = FieldsStand count fs

  pub ViewsStand : ℕ → ViewTrees → Type 0
  ViewsStand count no_views = Unit {0}
  ViewsStand count (view_then t ts) = ViewStands count t × ViewsStand count ts

  pub FieldsStand : ℕ → ViewFields → Type 0
  FieldsStand count no_fields = Unit {0}
  FieldsStand count (field_then name t fs) = ViewStands count t × FieldsStand count fs

-- how many views, lists and fields stand in a view, itself counted
abbrev mutual
  pub view_size : ViewTree → ℕ
  view_size (prim v) = 1
  view_size (list ts) = suc (views_size ts)
  view_size (rec fs) = suc (fields_size fs)

  pub views_size : ViewTrees → ℕ
  views_size no_views = 0
  views_size (view_then t ts) = suc (view_size t + views_size ts)

  pub fields_size : ViewFields → ℕ
  fields_size no_fields = 0
  fields_size (field_then name t fs) = suc (view_size t + fields_size fs)
