use Rattle.std.proofs.Common.{◌≡◌, [], ap, sym, ◌∙◌}
use Rattle.std.specs.Option.{option_copied}
use Rattle.ng_build.specs.Controls.{Controlled, controlled_at}
use Rattle.ng_link.specs.Events.{controlled_in, instance_of_node}
use Rattle.ng_instances.specs.Instances.{owner_of}
use Rattle.ng_build.specs.HandledOf.{control_of, controlled_of}
use Rattle.ng_link.specs.State.{state_of, templates_of}
use Rattle.ng_link.proofs.ControlStates.{entered-seen}
use Rattle.ng_link.proofs.Owners.{controlled_or, node_controlled}
use Rattle.ng_build.proofs.Tables.{seen_through}
use Rattle.ng_link.proofs.works.Works.entered_control.Goals as goal

pub returns-in-None : goal.returns-in-None
returns-in-None c =
    let w = c.args.self.now in
    let controls : controlled_in (instance_of_node (state_of w) c.args.n) ≡ [] =
    node_controlled (templates_of w) w.instances.entries (owner_of c.args.n w.owners.entries) ∙ ap controlled_or (sym c.instance_of_node.ensures ∙ ap option_copied c.in-None.is) in
    sym (ap (λ (t : Controlled). controlled_at c.args.n t) controls)

pub returns-in-Some : goal.returns-in-Some
returns-in-Some c =
    let w = c.args.self.now in
    let controls : controlled_in (instance_of_node (state_of w) c.args.n) ≡ controlled_of c.in-Some.one.now.controls.entries =
    node_controlled (templates_of w) w.instances.entries (owner_of c.args.n w.owners.entries) ∙ ap controlled_or (sym c.instance_of_node.ensures ∙ ap option_copied c.in-Some.is) in
    seen_through control_of c.get.result _ c.get.ensures.value
    ∙ (entered-seen c.args.n c.in-Some.one.now.controls.entries ∙ sym (ap (λ (t : Controlled). controlled_at c.args.n t) controls))
