use Rattle.std.proofs.Common.{◌≡◌, drop}
use Rattle.std.specs.Prelude.{is_some}
use Rattle.ng_elements.specs.Using.{numbers_in, first_with, asks_template}
use Rattle.ng_elements.proofs.using.any_has_template.Given as goal

abbrev pub invariant-loop-pick : goal.invariant-loop-pick
invariant-loop-pick l = is_some (first_with l.defs asks_template (numbers_in (drop l.pick-index l.picks))) ≡ is_some (first_with l.defs asks_template (numbers_in l.picks))
