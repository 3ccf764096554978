use Rattle.std.proofs.Common.{◌≡◌, ◌∙◌, ap, rules, length, map}
use Rattle.std.specs.List.{AllByRecursion}
use Rattle.ng_base.specs.Faults.{is_memory}
use Rattle.ng_base.specs.Meets.{Gives}
use Rattle.ng_base.specs.Views.{list, rec}
use Rattle.ng_base.specs.ViewOf.{view_of, views_of, fields_of, field_of}
use Rattle.ng_language.specs.Unfolding.{Field}
use Rattle.ng_language.specs.Views.{ViewStands}
use Rattle.ng_value.specs.Seen.{view_spent}
use Rattle.ng_value.proofs.Unfolds.{view_step}
use Rattle.ng_value.proofs.ViewParts.{views_stand, fields_stand, view_of-List, view_of-Rec}
use Rattle.ng_value.proofs.unfolding.+unfold_view.Goals as goal

pub unfold_list-unfold_views-requires : goal.unfold_list-unfold_views-requires
unfold_list-unfold_views-requires g t c κs =
    let n = length (g.H.Heap.objects c.args.h.now) in
    let s : AllByRecursion (ViewStands n) (map view_of c.as_slice.result.now) = rw c.as_slice.ensures (views_stand n (views_of c.args.views.now) c.requires) in
    search rules

pub unfold_record-unfold_fields-requires : goal.unfold_record-unfold_fields-requires
unfold_record-unfold_fields-requires g t c κs =
    let n = length (g.H.Heap.objects c.args.h.now) in
    let s : AllByRecursion (λ (f : Field). ViewStands n f.1) (map field_of c.as_slice.result.now) = rw c.as_slice.ensures (fields_stand n (fields_of c.args.fields.now) c.requires) in
    search rules

pub unfold_view-returns-else-left-eq0 : goal.unfold_view-returns-else-left-eq0
unfold_view-returns-else-left-eq0 g t c =
    let e : view_of c.args.v.now ≡ list (views_of c.in-List.views) = ap view_of c.in-List.is ∙ view_of-List c.in-List.views in
    rw e (view_step c.args.levels c.args.left (g.H.Heap.objects c.args.h.now) c.args.mode _ (λ asked. Gives is_memory view_spent asked c.unfold_list.result) c.if-levels-eq0.false c.if-left-eq0.false c.unfold_list.ensures)

pub unfold_view-returns-else-left-eq0-2 : goal.unfold_view-returns-else-left-eq0-2
unfold_view-returns-else-left-eq0-2 g t c =
    let e : view_of c.args.v.now ≡ rec (fields_of c.in-Rec.fields) = ap view_of c.in-Rec.is ∙ view_of-Rec c.in-Rec.fields in
    rw e (view_step c.args.levels c.args.left (g.H.Heap.objects c.args.h.now) c.args.mode _ (λ asked. Gives is_memory view_spent asked c.unfold_record.result) c.if-levels-eq0-2.false c.if-left-eq0-2.false c.unfold_record.ensures)
