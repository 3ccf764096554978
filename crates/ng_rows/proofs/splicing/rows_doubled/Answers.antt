use Rattle.std.proofs.Common.{◌∙◌, sym}
use Rattle.ng_rows.proofs.KeysRise.{differ}
use Rattle.ng_rows.proofs.RowKeys.{row_keys}
use Rattle.ng_rows.proofs.splicing.rows_doubled.Goals as goal

pub returns-then-rows_rise : goal.returns-then-rows_rise
returns-then-rows_rise c = sym (differ 0 (row_keys c.args.bodies.now) (sym c.rows_rise.ensures ∙ c.if-rows_rise.true))
