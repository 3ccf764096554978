use Rattle.std.proofs.Common.{[], ◌∷◌, ap}
use Rattle.ng_core.proofs.MoreScopes.{ok_and}
use Rattle.ng_core.specs.State as act
use Rattle.ng_changes.proofs.Answered.{ok_then}
use Rattle.ng_steps.proofs.WholeTold.{whole_told}
use Rattle.ng_link.specs.Calls.{with_core}
use Rattle.ng_link.specs.State.{state_of}
use Rattle.ng_steps.proofs.binding.set_name.Goals as goal

pub returns-clause-state : goal.returns-clause-state
returns-clause-state c = ok_then c.tell_name.result c.tell_name.ensures.told (λ told. ap (λ (k : act.State). with_core k (state_of c.args.works.now)) told)

pub returns-clause-whole : goal.returns-clause-whole
returns-clause-whole c =
    ok_and c.tell_name.result c.tell_name.ensures.told c.tell_name.ensures.sound
    (λ told sound. whole_told c.args.works.now c.tell_name.new.core c.args.scope.0 ((c.args.name.now, c.args.value) ∷ []) c.requires.whole told sound c.tell_name.ensures.scopes c.tell_name.ensures.depth c.tell_name.ensures.store)
