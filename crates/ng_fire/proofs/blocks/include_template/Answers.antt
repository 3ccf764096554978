use Rattle.std.proofs.Common.{◌≡◌, ◌∙◌, ◌<◌, ℕ, List, Option, None, Some, option_map, ap, length, subst, sym}
use Rattle.std.specs.Prelude.{IsSome}
use Rattle.ng_base.specs.declared.name.TplId.{TplId}
use Rattle.ng_drawing.specs.declared.origin.Home.{Home}
use Rattle.ng_changes.proofs.Answered.{ok_then, some_is}
use Rattle.ng_fire.proofs.Named.{named_there}
use Rattle.ng_fire.specs.FireOf.{firing}
use Rattle.ng_fire.specs.SiteFires.{including_origin, template_filled}
use Rattle.ng_instances.specs.Due.{Due, due_of}
use Rattle.ng_link.specs.State.{templates_of}
use Rattle.ng_compose.specs.Kept as kept
use Rattle.ng_drawing.specs.Named.{Named, fragment_for}
use Rattle.ng_compose.specs.Kept.{named_from}
use Rattle.ng_fire.proofs.blocks.include_template.Goals as goal

pub make_body-requires-clause-template : goal.make_body-requires-clause-template
make_body-requires-clause-template c =
    let t = c.in-Some.template in
    let all : List Named = templates_of c.args.works.now in
    subst (λ (h : Home). IsSome (fragment_for all (including_origin h c.args.body t.0))) (sym c.in_ok-copied.ensures)
    (named_there all c.args.due.now.home c.args.body t.0 c.requires.body
    (subst (λ (ts : List Named). t.0 < length ts) c.templates.ensures
    (some_is (λ (x : TplId). x.0 < length (kept.templates_of c.templates.result.now)) c.named.result t c.named.ensures.there c.in-Some.is)))

pub returns-in_default-clause-fired : goal.returns-in_default-clause-fired
returns-in_default-clause-fired c =
    let w = c.args.works.now in
    let holder : List ℕ = c.args.holder.now in
    let name : List ℕ = c.args.name in
    let asked : named_from 0 name (templates_of w) ≡ None =
    ap (named_from 0 name) (sym c.templates.ensures) ∙ (sym c.named.ensures.first ∙ ap (option_map (λ (t : TplId). t.0)) c.in_default.is) in
    c.fault.ensures.fired
    ∙ sym (ap (λ (o : Option ℕ). template_filled holder (due_of c.args.due.now) c.args.body name o (firing w c.args.told.now)) asked)

pub returns-clause-fired : goal.returns-clause-fired
returns-clause-fired c =
    let w = c.args.works.now in
    let holder : List ℕ = c.args.holder.now in
    let name : List ℕ = c.args.name in
    let d : Due = due_of c.args.due.now in
    let asked : named_from 0 name (templates_of w) ≡ Some c.in-Some.template.0 =
    ap (named_from 0 name) (sym c.templates.ensures) ∙ (sym c.named.ensures.first ∙ ap (option_map (λ (t : TplId). t.0)) c.in-Some.is) in
    ok_then c.make_body.result c.make_body.ensures.fired
    (λ fired. fired
    ∙ (ap (λ (h : Home). template_filled holder (record d { home = h }) c.args.body name (Some c.in-Some.template.0) (firing w c.args.told.now)) c.in_ok-copied.ensures
    ∙ sym (ap (λ (o : Option ℕ). template_filled holder d c.args.body name o (firing w c.args.told.now)) asked)))
