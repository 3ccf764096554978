use Rattle.std.proofs.Common.{◌∙◌, ap}
use Rattle.ng_link.specs.State.{State}
use Rattle.ng_settling.proofs.settling.settle.Goals as goal

pub returns-clause-linked : goal.returns-clause-linked
returns-clause-linked c =
    ap (λ (s : State). s.instances) c.clear_probes.ensures.state
    ∙ (ap (λ (s : State). s.instances) c.in_ok-end_bindings.ensures.state ∙ c.give_up.ensures.linked)
