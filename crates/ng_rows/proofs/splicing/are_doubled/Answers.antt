use Rattle.std.proofs.Common.{◌∙◌, ap, sym}
use Rattle.ng_blocks.specs.Plans.{has_double}
use Rattle.ng_rows.proofs.KeysRise.{differ}
use Rattle.ng_rows.proofs.splicing.are_doubled.Goals as goal

pub returns-then-are_rising : goal.returns-then-are_rising
returns-then-are_rising c = sym (ap has_double (sym c.as_slice.ensures) ∙ differ 0 c.as_slice.result.now (sym c.are_rising.ensures ∙ c.if-are_rising.true))
