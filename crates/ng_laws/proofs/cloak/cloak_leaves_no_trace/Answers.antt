use Rattle.ng_laws.proofs.Cloaks.{words_stay, class_stays}
use Rattle.ng_laws.proofs.Cuts.{each_class}
use Rattle.ng_laws.proofs.cloak.cloak_leaves_no_trace.Goals as goal

pub returns-clause-words : goal.returns-clause-words
returns-clause-words c = words_stay

pub returns-clause-without : goal.returns-clause-without
returns-clause-without c = class_stays

pub returns-clause-each : goal.returns-clause-each
returns-clause-each c = each_class
