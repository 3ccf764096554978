use Rattle.std.proofs.Common.{◌∙◌, ℕ, List, ap}
use Rattle.ng_base.specs.Objects.{Object}
use Rattle.ng_core.specs.Frames as cores
use Rattle.ng_core.specs.State.{with_objects}
use Rattle.ng_changes.proofs.Answered.{ok_then}
use Rattle.ng_rows.proofs.Told.{sound_told}
use Rattle.ng_language.specs.Objects.{set_name}
use Rattle.ng_steps.proofs.binding.tell_name.Goals as goal

pub returns-clause-told : goal.returns-clause-told
returns-clause-told c =
    let core = c.args.core.now in
    ok_then c.tell.result c.tell.ensures.told
    (λ told. ap (λ (s : List Object). with_objects s (cores.state_of core)) (told ∙ ap (λ (o : ℕ). set_name core.store o c.args.name.now c.args.value) c.object-object.ensures))

pub returns-clause-sound : goal.returns-clause-sound
returns-clause-sound c = ok_then c.tell.result c.tell.ensures.told (λ told. sound_told c.args.core.now c.tell.new.store c.requires.sound c.tell.ensures.count)
