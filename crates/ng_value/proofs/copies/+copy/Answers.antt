use Rattle.std.proofs.Common.{◌≡◌, ◌∙◌, ◌++◌, [], map, sym, ap, rules, append-nil}
use Rattle.ng_base.specs.Views.{views_from, fields_from, views_list, fields_list}
use Rattle.ng_base.specs.ViewOf.{view_of, views_of, fields_of, field_of}
use Rattle.ng_value.proofs.ViewParts.{views_from-list, fields_from-list}
use Rattle.ng_value.proofs.copies.+copy.Goals as goal

pub copied_views-returns-clause-copy : goal.copied_views-returns-clause-copy
copied_views-returns-clause-copy t c =
    let done = views_list (views_of c.loop-v.done) in
    let empty : c.loop-v.left.now ≡ [] = search rules in
    let all : done ≡ map view_of c.args.views.now = sym (append-nil done) ∙ (ap (λ xs. done ++ map view_of xs) (sym empty) ∙ c.loop-v.invariant.same) in
    sym (views_from-list (views_of c.loop-v.done)) ∙ ap views_from all

pub copied_fields-returns-clause-copy : goal.copied_fields-returns-clause-copy
copied_fields-returns-clause-copy t c =
    let done = fields_list (fields_of c.loop-f.done) in
    let empty : c.loop-f.left.now ≡ [] = search rules in
    let all : done ≡ map field_of c.args.fields.now = sym (append-nil done) ∙ (ap (λ xs. done ++ map field_of xs) (sym empty) ∙ c.loop-f.invariant.same) in
    sym (fields_from-list (fields_of c.loop-f.done)) ∙ ap fields_from all
