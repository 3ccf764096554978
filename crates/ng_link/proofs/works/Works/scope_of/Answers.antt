use Rattle.std.proofs.Common.{ap, sym, ◌∙◌}
use Rattle.std.specs.Option.{option_copied}
use Rattle.ng_instances.specs.Instances.{owner_of, scope_number}
use Rattle.ng_instances.specs.InstanceOf.{page_of}
use Rattle.ng_link.specs.State.{templates_of}
use Rattle.ng_link.proofs.Owners.{element_none, element_some}
use Rattle.ng_link.proofs.works.Works.scope_of.Goals as goal

pub returns-in-None : goal.returns-in-None
returns-in-None c =
    let w = c.args.self.now in
    sym (element_none (templates_of w) w.instances.entries c.args.n (owner_of c.args.n w.owners.entries) (sym c.instance_of_node.ensures ∙ ap option_copied c.in-None.is))

pub returns-in-Some : goal.returns-in-Some
returns-in-Some c =
    let w = c.args.self.now in
    let one = c.in-Some.one.now in
    sym (element_some (templates_of w) w.instances.entries c.args.n (owner_of c.args.n w.owners.entries) one c.scope_at.result.0 (sym c.instance_of_node.ensures ∙ ap option_copied c.in-Some.is)
    (λ path. c.scope_at.ensures path ∙ ap (scope_number (page_of path one)) c.element_at.ensures))
