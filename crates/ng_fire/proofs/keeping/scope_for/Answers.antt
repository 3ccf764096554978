use Rattle.std.proofs.Common.{ap, map}
use Rattle.ng_rows.specs.RepeatsOf.{path_of, row_of}
use Rattle.ng_fire.proofs.KeptScopes.{none_taken}
use Rattle.ng_fire.proofs.keeping.scope_for.Goals as goal

pub returns-in-None : goal.returns-in-None
returns-in-None c = none_taken (row_of c.args.row.now) (map (λ s. s.0) c.args.scopes.now) 0 (ap path_of c.in-None.is)
