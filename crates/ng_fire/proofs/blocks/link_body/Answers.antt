use Rattle.std.proofs.Common.{◌≡◌, ◌∙◌, true, false, ap, map, sym}
use Rattle.ng_base.specs.declared.fault.Fault.TheVariants.{Depth}
use Rattle.ng_base.specs.declared.name.ScopeId.{ScopeId}
use Rattle.ng_drawing.specs.Origins.{is_too_deep}
use Rattle.ng_fire.specs.Blocks.{faulted_with}
use Rattle.ng_fire.specs.FireOf.{firing}
use Rattle.ng_instances.specs.PlaceOf.{place_of}
use Rattle.ng_link.specs.State.{State, state_of}
use Rattle.ng_changes.proofs.Answered.{ok_then}
use Rattle.ng_fire.proofs.BlockBodies.{too_deep, not_deep}
use Rattle.ng_fire.proofs.blocks.link_body.Goals as goal

pub returns-then-is_too_deep-clause-fired : goal.returns-then-is_too_deep-clause-fired
returns-then-is_too_deep-clause-fired c = λ f known.
    let w = c.args.works.now in
    let told = c.args.told.now in
    let deep : is_too_deep c.args.origin.now ≡ true = sym c.if-is_too_deep.ensures in
    c.fault.ensures.fired
    ∙ (ap (λ (t : State). faulted_with Depth (record { state = t; faulted = told.faulted; added = told.added })) c.in_ok-discard.ensures.state
    ∙ too_deep (place_of c.args.place.now) c.args.origin.now f c.args.child.0 (map (λ (n : ScopeId). n.0) c.args.outsides.now) (state_of w) (firing w told) deep)

pub returns-clause-fired : goal.returns-clause-fired
returns-clause-fired c =
    let w = c.args.works.now in
    let shallow : is_too_deep c.args.origin.now ≡ false = sym c.if-is_too_deep.ensures in
    ok_then c.link_within.result c.link_within.ensures.fired
    (λ fired f known. fired f known ∙ not_deep (place_of c.args.place.now) c.args.origin.now f c.args.child.0 (map (λ (n : ScopeId). n.0) c.args.outsides.now) (state_of w) (firing w c.args.told.now) shallow)
