use Rattle.std.proofs.Common.{◌≡◌, ◌++◌, map, length}
use Rattle.ng_base.specs.Views.{fields_list}
use Rattle.ng_base.specs.ViewOf.{fields_of, field_of}
use Rattle.ng_members.proofs.fields.record_of.Given as goal

abbrev pub invariant-loop-name : goal.invariant-loop-name
invariant-loop-name l = fields_list (fields_of l.done) ++ map field_of l.left ≡ map field_of l.fn.fields.entries

abbrev pub decreases-loop-name : goal.decreases-loop-name
decreases-loop-name l = length l.left
