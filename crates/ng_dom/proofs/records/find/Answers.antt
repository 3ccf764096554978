use Rattle.std.proofs.Common.{refl, ◌/◌}
use Rattle.ng_dom.proofs.Runs.{node_missed, place_found}
use Rattle.ng_dom.proofs.records.find.Goals as goal

pub returns-in_err-row-clause-none : goal.returns-in_err-row-clause-none
returns-in_err-row-clause-none c _ = node_missed c.args.runs.now c.in_ok-run.run' c.args.n c.index-runs-run.result c.rows.result.now c.requires.rises c.in_ok-run.ensures.there c.index-runs-run.is c.rows.ensures (c.in_err-row.ensures.none refl)

pub returns-clause-there : goal.returns-clause-there
returns-clause-there c = place_found c.args.runs.now c.in_ok-run.run' c.in_ok-row.row c.args.n (c.args.n / 64) c.index-runs-run.result c.rows.result.now c.in_ok-run.ensures.there c.index-runs-run.is c.rows.ensures c.in_ok-row.ensures.there
