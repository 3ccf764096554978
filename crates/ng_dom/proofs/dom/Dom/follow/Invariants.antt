use Rattle.std.proofs.Common.{◌≡◌, drop, None}
use Rattle.ng_dom.specs.Printed.{followed}
use Rattle.ng_dom.specs.Document.{child_in}
use Rattle.ng_dom.proofs.dom.Dom.follow.Given as goal

abbrev pub invariant-loop-i : goal.invariant-loop-i
invariant-loop-i l = followed (child_in l.self) l.parent (drop l.i-index l.numbers) ≡ followed (child_in l.self) None l.numbers
