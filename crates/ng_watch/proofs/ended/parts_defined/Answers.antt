use Rattle.std.proofs.Common.{ℕ, List, ◌∙◌, sym, ap}
use Rattle.std.specs.Prelude.{not}
use Rattle.std.specs.List.{list_all}
use Rattle.ng_base.specs.Views.{ViewTree, fields_list}
use Rattle.ng_base.specs.ViewOf.{view_of, field_of, fields_of}
use Rattle.ng_language.specs.Sums.{is_undefined as counts_undefined}
use Rattle.ng_value.proofs.ViewParts.{view_of-List, view_of-Rec}
use Rattle.ng_watch.proofs.Literals.{all_map}
use Rattle.ng_watch.proofs.ended.parts_defined.Goals as goal

pub returns-in-List : goal.returns-in-List
returns-in-List c = rw (c.in-List.is, view_of-List c.in-List.views) (c.views_defined.ensures ∙ sym (all_map (λ part. not (counts_undefined part)) view_of c.as_slice.result.now) ∙ ap (list_all (λ part. not (counts_undefined part))) c.as_slice.ensures)

pub returns-in-Rec : goal.returns-in-Rec
returns-in-Rec c = rw (c.in-Rec.is, view_of-Rec c.in-Rec.fields) (c.fields_defined.ensures ∙ sym (all_map (λ (f : List ℕ × ViewTree). not (counts_undefined f.1)) field_of c.as_slice-in-Rec.result.now) ∙ ap (list_all (λ (f : List ℕ × ViewTree). not (counts_undefined f.1))) c.as_slice-in-Rec.ensures ∙ sym (all_map (λ part. not (counts_undefined part)) (λ (f : List ℕ × ViewTree). f.1) (fields_list (fields_of c.in-Rec.fields))))
