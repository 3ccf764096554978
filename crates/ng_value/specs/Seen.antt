-- What the results of the traversal stand for.
use Rattle.std.specs.Prelude.{ℕ, List, map, Vec}
use Rattle.std.specs.declared.alloc.Global.{Global}
use Rattle.ng_base.specs.Views.{ViewTree, views_list}
use Rattle.ng_base.specs.ViewOf.{view_of, views_of, field_of}
use Rattle.ng_base.specs.declared.view.View.{View}
use Rattle.ng_base.specs.declared.view.Views.{Views}
use Rattle.ng_language.specs.Unfolding.{Field}

abbrev pub view_spent : View × ℕ → ViewTree × ℕ
view_spent r = (view_of r.0, r.1)

abbrev pub views_spent : Views × ℕ → List ViewTree × ℕ
views_spent r = (views_list (views_of r.0), r.1)

abbrev pub fields_spent : Vec (List ℕ × View) Global × ℕ → List Field × ℕ
fields_spent r = (map field_of r.0.items, r.1)

abbrev pub indexed_field : ℕ × (List ℕ × View) → ℕ × Field
indexed_field e = (e.0, field_of e.1)
