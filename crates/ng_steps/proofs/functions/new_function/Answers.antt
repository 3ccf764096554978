use Rattle.std.proofs.Common.{refl}
use Rattle.ng_steps.proofs.FunctionSound.{function_sound}
use Rattle.ng_steps.proofs.functions.new_function.Goals as goal

pub returns-clause-sound : goal.returns-clause-sound
returns-clause-sound c = function_sound c.args.core.now _ c.args.function c.requires.sound c.in_ok-push.ensures.items c.requires.stands refl refl refl refl refl refl refl
