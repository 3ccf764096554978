use Rattle.std.proofs.Common.{◌≡◌}
use Rattle.ng_dom.specs.Asked.{has_id}
use Rattle.ng_dom.proofs.finding.has_id.Given as goal

abbrev pub invariant-loop-name : goal.invariant-loop-name
invariant-loop-name l = has_id l.id l.name-iterator ≡ has_id l.id l.attributes.entries
