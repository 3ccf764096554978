use Rattle.ng_laws.proofs.Cases.{words_are_cased, front_goes, front_stays}
use Rattle.ng_laws.proofs.Cuts.{each_name}
use Rattle.ng_laws.proofs.names.words_are_cased.Goals as goal

pub returns-clause-words : goal.returns-clause-words
returns-clause-words c = words_are_cased

pub returns-clause-front : goal.returns-clause-front
returns-clause-front c = front_goes

pub returns-clause-stays : goal.returns-clause-stays
returns-clause-stays c = front_stays

pub returns-clause-each : goal.returns-clause-each
returns-clause-each c = each_name
