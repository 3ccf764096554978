use Rattle.ng_tags.proofs.EventSound.{lexed_sound}
use Rattle.ng_tags.proofs.laws.read_is_spelled.Goals as goal

pub returns : goal.returns
returns c = lexed_sound
