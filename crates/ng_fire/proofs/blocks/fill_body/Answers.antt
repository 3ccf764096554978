use Rattle.std.proofs.Common.{◌∙◌, ap, subst, sym}
use Rattle.std.specs.Prelude.{IsSome}
use Rattle.ng_drawing.specs.Origins.{plain_origin}
use Rattle.ng_drawing.specs.declared.origin.Home.{Home}
use Rattle.ng_drawing.specs.declared.origin.Origin.{Origin}
use Rattle.ng_instances.specs.Due.{Due, due_of}
use Rattle.ng_link.specs.State.{templates_of}
use Rattle.ng_drawing.specs.Named.{fragment_for}
use Rattle.ng_fire.proofs.Named.{body_there, plain_there}
use Rattle.ng_rows.specs.Chosen.{body_of}
use Rattle.ng_fire.proofs.blocks.fill_body.Goals as goal

pub make_body-requires-clause-template : goal.make_body-requires-clause-template
make_body-requires-clause-template c =
    let all = templates_of c.args.works.now in
    let d : Due = due_of c.args.due.now in
    subst (λ (o : Origin). IsSome (fragment_for all o)) (sym (c.plain-origin.ensures ∙ (ap (λ (h : Home). plain_origin h c.body_of.result) c.in_ok-copied.ensures ∙ ap (plain_origin d.home) c.body_of.ensures)))
    (plain_there all d.home (body_of d.filling) (body_there all d.home.template.0 d.filling c.requires.there.body))
