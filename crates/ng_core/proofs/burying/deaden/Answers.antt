use Rattle.std.proofs.Common.{refl}
use Rattle.ng_core.proofs.DeadScopes.{sound_dead}
use Rattle.ng_core.proofs.burying.deaden.Goals as goal

pub returns-clause-sound : goal.returns-clause-sound
returns-clause-sound c = sound_dead c.args.core.now _ c.args.scope.0 c.requires.sound c.mark_dead.ensures refl refl refl refl refl refl refl
