use Rattle.std.proofs.Common.{sym, ◌∙◌}
use Rattle.ng_store.proofs.SharedNames.{found_same}
use Rattle.ng_store.proofs.placing.added_name.Goals as goal

pub returns-in-Some-clause-name : goal.returns-in-Some-clause-name
returns-in-Some-clause-name c = c.in_ok-copied.ensures ∙ (found_same c.in_ok-name.name c.in-Some.known.now c.args.names.now.keys (sym c.in-Some.ensures.key) ∙ c.in_ok-name.ensures)
