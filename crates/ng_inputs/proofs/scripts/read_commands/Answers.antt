use Rattle.ng_inputs.proofs.Sound.{given_sound}
use Rattle.ng_inputs.proofs.scripts.read_commands.Goals as goal

pub returns-clause-sound : goal.returns-clause-sound
returns-clause-sound c = given_sound c.args.bytes.now c.read.result c.read.ensures.exact
