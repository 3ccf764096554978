use Rattle.std.proofs.Common.{◌∙◌, ap, sym}
use Rattle.std.specs.Prelude.{option_map}
use Rattle.ng_compose.specs.ComposedOf.{region_of, composed_of}
use Rattle.ng_parts.specs.FragmentOf.{outlet_of}
use Rattle.ng_compose.proofs.ComposingTurns.{outlet_none, outlet_there}
use Rattle.ng_compose.proofs.composed.Composed.add_outlet.Goals as goal

pub returns-in-None : goal.returns-in-None
returns-in-None c = outlet_none (region_of c.args.region.now) _ (composed_of c.args.self.now) (sym c.outlet_at.ensures ∙ ap (option_map (λ o. outlet_of o.now)) c.in-None.is)

pub returns-in-Some : goal.returns-in-Some
returns-in-Some c =
    let there = sym c.outlet_at.ensures ∙ ap (option_map (λ o. outlet_of o.now)) c.in-Some.is in
    outlet_there (region_of c.args.region.now) _ (outlet_of c.in-Some.outlet.now) (composed_of c.args.self.now) (composed_of c.push_outlet.new.self) c.push_outlet.result there c.push_outlet.ensures.number c.push_outlet.ensures.outlet
