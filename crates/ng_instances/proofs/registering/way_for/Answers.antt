use Rattle.std.proofs.Common.{◌≡◌, Some, None, ap, sym, subst, ◌∙◌, length}
use Rattle.std.specs.Option.{option_copied}
use Rattle.std.specs.Prelude.{Option, IfOk, option_map}
use Rattle.ng_instances.specs.Bindings.{Bound}
use Rattle.ng_instances.specs.BoundOf.{bounds_of}
use Rattle.ng_instances.specs.Registering.{way_of}
use Rattle.ng_instances.proofs.NotedStands.{noted_stands}
use Rattle.ng_instances.proofs.Noted.{bound_found}
use Rattle.ng_instances.proofs.registering.way_for.Goals as goal

pub way_by-requires : goal.way_by-requires
way_by-requires c =
    let bs = c.args.bounds.now.entries in
    noted_stands (length c.args.core.now.scopes) c.args.serial (bounds_of bs) _ c.requires (bound_found c.args.serial bs (Some c.in-Some.bound.now) (sym c.get.ensures.value ∙ ap option_copied c.in-Some.is))

pub returns-in-None : goal.returns-in-None
returns-in-None c = sym (ap (way_of c.args.core.now.scopes) (bound_found c.args.serial c.args.bounds.now.entries None (sym c.get.ensures.value ∙ ap option_copied c.in-None.is)))

pub returns-in-Some : goal.returns-in-Some
returns-in-Some c =
    let found = bound_found c.args.serial c.args.bounds.now.entries (Some c.in-Some.bound.now) (sym c.get.ensures.value ∙ ap option_copied c.in-Some.is) in
    subst (λ (b : Option Bound). IfOk c.way_by.result (λ w. option_map (λ o. (o.0.0, o.1)) w ≡ way_of c.args.core.now.scopes b)) (sym found) c.way_by.ensures
