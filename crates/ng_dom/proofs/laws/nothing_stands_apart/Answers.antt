use Rattle.ng_dom.proofs.Keeping.{holds_same, holds_emptied, holds_cut, holds_inserted}
use Rattle.ng_dom.proofs.laws.nothing_stands_apart.Goals as goal

pub returns-clause-same : goal.returns-clause-same
returns-clause-same c = holds_same

pub returns-clause-emptied : goal.returns-clause-emptied
returns-clause-emptied c = holds_emptied

pub returns-clause-cut : goal.returns-clause-cut
returns-clause-cut c = holds_cut

pub returns-clause-inserted : goal.returns-clause-inserted
returns-clause-inserted c = holds_inserted
