use Rattle.std.proofs.Common.{length, sym, subst}
use Rattle.ng_members.specs.Leaves.{LocalsStand}
use Rattle.ng_write.proofs.More.{locals_after_stand}
use Rattle.ng_write.proofs.assigning.assign_name.Goals as goal

pub returns-in-None-clause-stand : goal.returns-in-None-clause-stand
returns-in-None-clause-stand c =
    λ h. subst (LocalsStand (length c.args.store.now)) (sym c.assign_local.ensures.locals)
    (locals_after_stand (length c.args.store.now) c.args.locals.now c.args.name.now c.args.v h c.requires.value)
