use Rattle.std.proofs.Common.{ap, ◌∙◌, subst, sym}
use Rattle.ng_link.specs.Calls.{cut_at}
use Rattle.ng_link.specs.Standing.{IsHeldIn}
use Rattle.ng_link.specs.State.{State}
use Rattle.ng_link.proofs.works.Works.take_out.Goals as goal

pub cut-requires-clause-stands : goal.cut-requires-clause-stands
cut-requires-clause-stands c = (c.requires.stands.0, c.in_ok-leave.ensures.stands c.requires.stands.0 c.requires.stands.1)

pub cut-requires-clause-held : goal.cut-requires-clause-held
cut-requires-clause-held c = subst (λ (s : State). IsHeldIn c.args.holder.now c.args.p.now s.instances) (sym c.in_ok-leave.ensures.state) c.requires.held

pub returns-clause-state : goal.returns-clause-state
returns-clause-state c = c.in_ok-cut.ensures.state ∙ ap (cut_at c.args.holder.now c.args.p.now) c.in_ok-leave.ensures.state
