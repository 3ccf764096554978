use Rattle.std.proofs.Common.{◌≡◌, [], ap, sym, ◌∙◌}
use Rattle.std.specs.Option.{option_copied}
use Rattle.ng_link.specs.Events.{handled_in, instance_of_node}
use Rattle.ng_build.specs.Handlers.{Handled, is_entered}
use Rattle.ng_instances.specs.Instances.{owner_of}
use Rattle.ng_build.specs.HandledOf.{handled_of}
use Rattle.ng_link.specs.State.{state_of, templates_of}
use Rattle.ng_link.proofs.Owners.{handled_or, node_handled}
use Rattle.ng_link.proofs.works.Works.handles.Goals as goal

pub returns-in-None : goal.returns-in-None
returns-in-None c =
    let w = c.args.self.now in
    let handled : handled_in (instance_of_node (state_of w) c.args.n) ≡ [] =
    node_handled (templates_of w) w.instances.entries (owner_of c.args.n w.owners.entries) ∙ ap handled_or (sym c.instance_of_node.ensures ∙ ap option_copied c.in-None.is) in
    sym (ap (λ (h : Handled). is_entered c.args.n h) handled)

pub returns-in-Some : goal.returns-in-Some
returns-in-Some c =
    let w = c.args.self.now in
    let handled : handled_in (instance_of_node (state_of w) c.args.n) ≡ handled_of c.in-Some.one.now.handlers.entries =
    node_handled (templates_of w) w.instances.entries (owner_of c.args.n w.owners.entries) ∙ ap handled_or (sym c.instance_of_node.ensures ∙ ap option_copied c.in-Some.is) in
    c.handles.ensures ∙ sym (ap (λ (h : Handled). is_entered c.args.n h) handled)
