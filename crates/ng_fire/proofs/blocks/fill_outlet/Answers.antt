use Rattle.std.proofs.Common.{◌≡◌, ◌∙◌, ℕ, List, ap, map, subst, sym}
use Rattle.std.specs.Prelude.{IsSome}
use Rattle.ng_base.specs.declared.name.ScopeId.{ScopeId}
use Rattle.ng_drawing.specs.Origins.{plain_origin}
use Rattle.ng_drawing.specs.declared.origin.Home.{Home}
use Rattle.ng_drawing.specs.declared.origin.Origin.{Origin}
use Rattle.ng_instances.specs.Due.{Due, due_of}
use Rattle.ng_fire.specs.Serving.{IsAt}
use Rattle.ng_link.specs.State.{state_of, templates_of}
use Rattle.ng_parts.specs.FragmentOf.{filling_of}
use Rattle.ng_drawing.specs.Named.{fragment_in, fragment_for}
use Rattle.ng_fire.proofs.Named.{body_there, plain_there}
use Rattle.ng_rows.specs.Chosen.{body_of}
use Rattle.ng_fire.proofs.blocks.fill_outlet.Goals as goal

pub fire_repeat-requires-clause-spot : goal.fire_repeat-requires-clause-spot
fire_repeat-requires-clause-spot c =
    let all = templates_of c.args.works.now in
    let is = (state_of c.args.works.now).instances in
    let d : Due = due_of c.args.due.now in
    let body = subst (λ (n : ℕ). IsSome (fragment_in all d.home.template.0 n)) (ap (λ f. body_of (filling_of f)) c.in-ForEach.is) (body_there all d.home.template.0 d.filling c.requires.there.body) in
    let origin : c.plain.result ≡ plain_origin d.home c.in-ForEach.body = c.plain.ensures ∙ ap (λ (h : Home). plain_origin h c.in-ForEach.body) c.in_ok-copied-in-ForEach.ensures in
    record {
      outlet = subst (λ (xs : List ScopeId). IsAt c.args.holder.now is d.outlet d.scope (map (λ (n : ScopeId). n.0) xs)) (sym c.as_slice.ensures.value) c.requires.there.outlet;
      body = subst (λ (o : Origin). IsSome (fragment_for all o)) (sym origin) (plain_there all d.home c.in-ForEach.body body);
    }

pub fill_named-requires-clause-body : goal.fill_named-requires-clause-body
fill_named-requires-clause-body c =
    let all = templates_of c.args.works.now in
    let d : Due = due_of c.args.due.now in
    subst (λ (n : ℕ). IsSome (fragment_in all d.home.template.0 n)) (ap (λ f. body_of (filling_of f)) c.in-ByName.is) (body_there all d.home.template.0 d.filling c.requires.there.body)
