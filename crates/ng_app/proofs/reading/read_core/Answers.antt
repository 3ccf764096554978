use Rattle.std.proofs.Common.{rules}
use Rattle.serde_json.proofs.Views.{view-Object}
use Rattle.ng_app.proofs.reading.read_core.Goals as goal

pub returns-in-None-clause-state : goal.returns-in-None-clause-state
returns-in-None-clause-state c = search (rules, view-Object)
