use Rattle.std.proofs.Common.{rules, ◌≡◌, ◌∙◌, ◌≤◌, ◌+◌, suc, ◌++◌, ◌∷◌, [], ap, sym, subst, arith, List, map, length}
use Rattle.std.specs.Prelude.{Ok}
use Rattle.std.specs.List.{AllByRecursion}
use Rattle.ng_base.specs.Objects.{StandsAmong}
use Rattle.ng_base.specs.Views.{views_from, fields_from}
use Rattle.ng_base.specs.ViewOf.{view_of, field_of}
use Rattle.ng_base.specs.declared.value.Value.{Value}
use Rattle.ng_language.specs.Views.{ViewStands, ViewsStand, FieldsStand, view_size, views_size, fields_size}
use Rattle.ng_write.specs.Storing.{stored, stored_views, stored_fields, PropertiesStand}
use Rattle.ng_write.proofs.More.{views_more, fields_more, values_and, properties_and}
use Rattle.ng_write.proofs.Steps.{next_view, next_field}
use Rattle.ng_write.proofs.storing.+stored.Goals as goal

pub stored_views-loop-view-preserved : goal.stored_views-loop-view-preserved
stored_views-loop-view-preserved t c =
    let before = c.loop-view.store in
    let now = c.stored.new.store in
    let v = c.in_ok-stored.field-0 in
    let done = c.loop-view.done in
    let is : c.loop-view.left.now ≡ c.in-Some.view.now ∷ c.in-Some.rest.now = search rules in
    let one : stored before (view_of c.in-Some.view.now) ≡ (now, Ok v) = search rules in
    let put : c.push.new.self ≡ done ++ v ∷ [] = search rules in
    let more : length before ≤ length now = search rules in
    let stands : StandsAmong (length now) v = search rules in
    let sizes : views_size (views_from (map view_of c.loop-view.left.now)) ≡ suc (view_size (view_of c.in-Some.view.now) + views_size (views_from (map view_of c.in-Some.rest.now))) = ap (λ xs. views_size (views_from (map view_of xs))) is in
    let all : ViewStands (length before) (view_of c.in-Some.view.now) × ViewsStand (length before) (views_from (map view_of c.in-Some.rest.now)) = subst (λ xs. ViewsStand (length before) (views_from (map view_of xs))) is c.loop-view.invariant.stands in
    record {
      size = omega arith;
      same =
          ap (λ vs. stored_views now vs (views_from (map view_of c.in-Some.rest.now))) put
          ∙ (sym (next_view before now done (view_of c.in-Some.view.now) (views_from (map view_of c.in-Some.rest.now)) v one)
          ∙ (ap (λ xs. stored_views before done (views_from (map view_of xs))) (sym is) ∙ c.loop-view.invariant.same));
      grown = omega arith;
      stands = views_more (length before) (length now) more (views_from (map view_of c.in-Some.rest.now)) all.1;
      done = subst (λ (vs : List Value). AllByRecursion (StandsAmong (length now)) vs) (sym put) (values_and (length before) (length now) more done v c.loop-view.invariant.done stands);
    }

pub stored_fields-loop-field-preserved : goal.stored_fields-loop-field-preserved
stored_fields-loop-field-preserved t c =
    let before = c.loop-field.store in
    let now = c.stored.new.store in
    let v = c.in_ok-stored.field-0 in
    let name = c.in-Some.field.now.0 in
    let view = c.in-Some.field.now.1 in
    let done = c.loop-field.done.items in
    let is : c.loop-field.left.now ≡ c.in-Some.field.now ∷ c.in-Some.rest.now = search rules in
    let copy : c.in_ok-name.name ≡ name = search rules in
    let one : stored before (view_of view) ≡ (now, Ok v) = search rules in
    let put : c.push-in-Some.new.self.items ≡ done ++ (c.in_ok-name.name, v) ∷ [] = search rules in
    let more : length before ≤ length now = search rules in
    let stands : StandsAmong (length now) v = search rules in
    let sizes : fields_size (fields_from (map field_of c.loop-field.left.now)) ≡ suc (view_size (view_of view) + fields_size (fields_from (map field_of c.in-Some.rest.now))) = ap (λ xs. fields_size (fields_from (map field_of xs))) is in
    let all : ViewStands (length before) (view_of view) × FieldsStand (length before) (fields_from (map field_of c.in-Some.rest.now)) = subst (λ xs. FieldsStand (length before) (fields_from (map field_of xs))) is c.loop-field.invariant.stands in
    record {
      size = omega arith;
      same =
          ap (λ ps. stored_fields now ps (fields_from (map field_of c.in-Some.rest.now))) (put ∙ ap (λ n. done ++ (n, v) ∷ []) copy)
          ∙ (sym (next_field before now done name (view_of view) (fields_from (map field_of c.in-Some.rest.now)) v one)
          ∙ (ap (λ xs. stored_fields before done (fields_from (map field_of xs))) (sym is) ∙ c.loop-field.invariant.same));
      grown = omega arith;
      stands = fields_more (length before) (length now) more (fields_from (map field_of c.in-Some.rest.now)) all.1;
      done = subst (PropertiesStand (length now)) (sym put) (properties_and (length before) (length now) more done c.in_ok-name.name v c.loop-field.invariant.done stands);
    }
