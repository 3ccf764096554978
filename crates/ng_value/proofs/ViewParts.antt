-- The parts of views.
use Rattle.std.proofs.Common.{◌≡◌, ℕ, List, refl, ap, rules}
use Rattle.std.specs.List.{AllByRecursion}
use Rattle.ng_base.specs.Views.{ViewTree, ViewTrees, ViewFields, no_views, view_then, no_fields, field_then, views_from, views_list, fields_from, fields_list}
use Rattle.ng_base.specs.Views.{list, rec}
use Rattle.ng_base.specs.ViewOf.{view_of, views_of, fields_of}
use Rattle.ng_base.specs.declared.view.View.{List as List_of, Rec, the_lemmas}
use Rattle.ng_base.specs.declared.view.Views.{Views}
use Rattle.ng_base.specs.declared.view.Fields.{Fields}
use Rattle.ng_language.specs.Views.{ViewStands, ViewsStand, FieldsStand}

pub views_from-list : (ts : ViewTrees) → views_from (views_list ts) ≡ ts
views_from-list no_views = refl
views_from-list (view_then t ts) = ap (view_then t) (views_from-list ts)

pub fields_from-list : (fs : ViewFields) → fields_from (fields_list fs) ≡ fs
fields_from-list no_fields = refl
fields_from-list (field_then name t fs) = ap (field_then name t) (fields_from-list fs)

pub views_stand : (n : ℕ) (ts : ViewTrees) → ViewsStand n ts → AllByRecursion (ViewStands n) (views_list ts)
views_stand n no_views s = tt
views_stand n (view_then t ts) s = (s.0, views_stand n ts s.1)

pub fields_stand : (n : ℕ) (fs : ViewFields) → FieldsStand n fs → AllByRecursion (λ (f : List ℕ × ViewTree). ViewStands n f.1) (fields_list fs)
fields_stand n no_fields s = tt
fields_stand n (field_then name t fs) s = (s.0, fields_stand n fs s.1)

pub view_of-List : (v : Views) → view_of (List_of v) ≡ list (views_of v)
view_of-List v = search (rules, the_lemmas)

pub view_of-Rec : (v : Fields) → view_of (Rec v) ≡ rec (fields_of v)
view_of-Rec v = search (rules, the_lemmas)

pub ruleset view_parts = (views_from-list, fields_from-list)
