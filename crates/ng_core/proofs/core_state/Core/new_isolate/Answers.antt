use Rattle.std.proofs.Common.{refl, length, None}
use Rattle.ng_core.proofs.MoreScopes.{sound_grown, object_grown, ok_and}
use Rattle.ng_core.proofs.core_state.Core.new_isolate.Goals as goal

pub returns-clause-sound : goal.returns-clause-sound
returns-clause-sound c =
    ok_and c.new_isolate.result c.new_isolate.ensures.tree c.new_isolate.ensures.store
    (λ t s. sound_grown c.args.self.now _ c.args.parent.0 (length c.args.self.now.store) c.requires.sound c.requires.parent t c.new_isolate.ensures.objects
    (rw s (object_grown c.args.self.now.store c.args.self.now.scopes None c.args.parent.0)) refl refl refl refl refl refl)
