use Rattle.std.proofs.Common.{◌≡◌, ◌++◌, map}
use Rattle.ng_base.specs.Views.{fields_list}
use Rattle.ng_base.specs.ViewOf.{fields_of, field_of}
use Rattle.ng_value.proofs.ordering.add_fields.Given as goal

abbrev pub invariant-loop-name : goal.invariant-loop-name
invariant-loop-name l = fields_list (fields_of l.done) ≡ fields_list (fields_of l.initial.done) ++ map field_of l.yielded
