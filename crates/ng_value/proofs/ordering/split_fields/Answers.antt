use Rattle.std.proofs.Common.{◌∙◌, ◌++◌, [], ap}
use Rattle.ng_base.specs.Objects.{index_of}
use Rattle.ng_base.specs.ViewOf.{view_of}
use Rattle.ng_language.specs.Unfolding.{with_indexed, with_other}
use Rattle.ng_value.proofs.Orders.{map-field_more, indexed_from-more, others_of-more}
use Rattle.ng_value.proofs.ordering.split_fields.Goals as goal

pub loop-name-preserved : goal.loop-name-preserved
loop-name-preserved c = record {
  indexed = c.in_ok-put_field.ensures.indexed
      ∙ rw (map-field_more, indexed_from-more) (ap (λ es. with_indexed es (index_of c.in-Some.name) (c.in-Some.name, view_of c.in-Some.view)) c.loop-name.invariant.indexed);
  others = c.in_ok-put_field.ensures.others
      ∙ rw (map-field_more, others_of-more) (ap (λ fs. fs ++ with_other (index_of c.in-Some.name) (c.in-Some.name, view_of c.in-Some.view) []) c.loop-name.invariant.others);
}
