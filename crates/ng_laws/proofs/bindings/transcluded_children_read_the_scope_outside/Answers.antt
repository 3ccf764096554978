use Rattle.ng_laws.proofs.Transcluded.{transcluded_reads_outside}
use Rattle.ng_laws.proofs.bindings.transcluded_children_read_the_scope_outside.Goals as goal

pub returns : goal.returns
returns c = transcluded_reads_outside
