use Rattle.ng_tags.proofs.FaultySound.{faulty_sound}
use Rattle.ng_tags.proofs.laws.fault_has_a_reason.Goals as goal

pub returns : goal.returns
returns c = faulty_sound
