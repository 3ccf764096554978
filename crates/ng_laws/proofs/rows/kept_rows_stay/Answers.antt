use Rattle.ng_laws.proofs.KeptRows.{kept_rows_stay}
use Rattle.ng_laws.proofs.rows.kept_rows_stay.Goals as goal

pub returns : goal.returns
returns c = kept_rows_stay
