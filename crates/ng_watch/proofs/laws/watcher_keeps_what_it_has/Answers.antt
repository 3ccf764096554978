use Rattle.ng_watch.proofs.Judging.{clean_has_kept, faults_are_of_now, kept_is_clean}
use Rattle.ng_watch.proofs.laws.watcher_keeps_what_it_has.Goals as goal

pub returns-clause-clean : goal.returns-clause-clean
returns-clause-clean c = clean_has_kept

pub returns-clause-faults : goal.returns-clause-faults
returns-clause-faults c = faults_are_of_now

pub returns-clause-kept : goal.returns-clause-kept
returns-clause-kept c = kept_is_clean
