use Rattle.std.proofs.Common.{refl, length, Some}
use Rattle.ng_behaviour.specs.Scopes.{object_at}
use Rattle.ng_core.proofs.MoreScopes.{sound_grown, object_grown, ok_and}
use Rattle.ng_core.proofs.core_state.Core.new_transcluded.Goals as goal

pub returns-clause-sound : goal.returns-clause-sound
returns-clause-sound c =
    ok_and c.new_transcluded.result c.new_transcluded.ensures.tree c.new_transcluded.ensures.store
    (λ t s. sound_grown c.args.self.now _ c.args.containing.0 (length c.args.self.now.store) c.requires.sound c.requires.containing t c.new_transcluded.ensures.objects
    (rw s (object_grown c.args.self.now.store c.args.self.now.scopes (Some (object_at c.args.self.now.scopes c.args.outer.0)) c.args.containing.0)) refl refl refl refl refl refl)
