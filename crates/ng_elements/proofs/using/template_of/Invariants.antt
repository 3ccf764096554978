use Rattle.std.proofs.Common.{◌≡◌, ◌+◌, length, take}
use Rattle.std.specs.Prelude.{filter}
use Rattle.ng_elements.specs.Using.{asks_template}
use Rattle.ng_elements.proofs.using.template_of.Given as goal

abbrev pub invariant-loop-i : goal.invariant-loop-i
invariant-loop-i l = l.id ≡ length (filter asks_template (take l.i l.defs)) + 1
