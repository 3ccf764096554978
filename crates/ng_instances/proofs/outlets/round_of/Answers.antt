use Rattle.std.proofs.Common.{◌≡◌, Option, ap, sym, subst, ◌∙◌}
use Rattle.std.specs.Prelude.{IfOk, option_map}
use Rattle.ng_drawing.specs.Template.{OutletScope}
use Rattle.ng_parts.specs.FragmentOf.{spot_of}
use Rattle.ng_instances.specs.BoundOf.{ground_of, round_of}
use Rattle.ng_instances.specs.Changing.{round_by}
use Rattle.ng_instances.proofs.outlets.round_of.Goals as goal

pub returns-in-None : goal.returns-in-None
returns-in-None c =
    subst (λ (o : Option OutletScope). IfOk c.round_inside.result (λ r. round_of r ≡ round_by c.args.origin.now (ground_of c.args.ground.now) o)) (sym (ap (option_map (λ s. spot_of s.now)) c.in-None.is) ∙ c.spot.ensures) c.round_inside.ensures

pub returns-in-Some : goal.returns-in-Some
returns-in-Some c =
    subst (λ (o : Option OutletScope). IfOk c.round_at.result (λ r. round_of r ≡ round_by c.args.origin.now (ground_of c.args.ground.now) o)) (sym (ap (option_map (λ s. spot_of s.now)) c.in-Some.is) ∙ c.spot.ensures) c.round_at.ensures
