use Rattle.std.proofs.Common.{◌∙◌, List, ap, arith, length}
use Rattle.ng_base.specs.Objects.{Object}
use Rattle.ng_core.specs.Frames as cores
use Rattle.ng_changes.proofs.Rising.{mark, rises-refl}
use Rattle.ng_changes.proofs.Wholes.{whole_left}
use Rattle.ng_changes.proofs.following.hand_over.Goals as goal

-- a fault that is handed over changes no scope and no number
pub returns-clause-whole : goal.returns-clause-whole
returns-clause-whole c =
    let w = c.args.works.now in
    let same = ap (λ (os : List Object). length os) c.hand_over.ensures.store in
    whole_left w c.hand_over.new.self _ c.requires c.hand_over.ensures.run (rises-refl (mark (cores.state_of w.core))) (c.hand_over.ensures.sound c.requires.sound) (c.hand_over.ensures.depth ∙ c.requires.idle) (omega (arith, same))
