use Rattle.std.proofs.Common.{ap, ◌∙◌}
use Rattle.ng_instances.specs.InstanceOf.{spot_in}
use Rattle.ng_link.proofs.works.Works.note.Goals as goal

pub returns-in_ok-take_in-in-Outlet-clause-spots : goal.returns-in_ok-take_in-in-Outlet-clause-spots
returns-in_ok-take_in-in-Outlet-clause-spots c = λ inner k.
    c.in_ok-take_in-in-Outlet.ensures.spots inner k ∙ ap (λ es. spot_in inner es k) c.in_ok-insert-2.ensures.entries
