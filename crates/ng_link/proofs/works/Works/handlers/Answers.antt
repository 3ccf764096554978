use Rattle.std.proofs.Common.{◌≡◌, [], ap, sym, subst, ◌∙◌, map}
use Rattle.std.specs.Option.{option_copied}
use Rattle.std.specs.Prelude.{IfOk}
use Rattle.ng_parse.specs.ProgramOf.{program}
use Rattle.ng_link.specs.Events.{handled_in, instance_of_node}
use Rattle.ng_build.specs.Handlers.{Handled, programs_at}
use Rattle.ng_instances.specs.Instances.{owner_of}
use Rattle.ng_build.specs.HandledOf.{handled_of}
use Rattle.ng_link.specs.State.{state_of, templates_of}
use Rattle.ng_link.proofs.Owners.{handled_or, node_handled}
use Rattle.ng_link.proofs.works.Works.handlers.Goals as goal

pub returns-in-None : goal.returns-in-None
returns-in-None c =
    let w = c.args.self.now in
    let handled : handled_in (instance_of_node (state_of w) c.args.n) ≡ [] =
    node_handled (templates_of w) w.instances.entries (owner_of c.args.n w.owners.entries) ∙ ap handled_or (sym c.instance_of_node.ensures ∙ ap option_copied c.in-None.is) in
    ap (map program) c.new.ensures.items ∙ sym (ap (λ (h : Handled). programs_at c.args.n c.args.event.now h) handled)

pub returns-in-Some : goal.returns-in-Some
returns-in-Some c =
    let w = c.args.self.now in
    let handled : handled_in (instance_of_node (state_of w) c.args.n) ≡ handled_of c.in-Some.one.now.handlers.entries =
    node_handled (templates_of w) w.instances.entries (owner_of c.args.n w.owners.entries) ∙ ap handled_or (sym c.instance_of_node.ensures ∙ ap option_copied c.in-Some.is) in
    let F : Handled → Type 0 = λ h. IfOk c.handlers.result (λ ps. map program ps.items ≡ programs_at c.args.n c.args.event.now h) in
    subst F (sym handled) c.handlers.ensures
