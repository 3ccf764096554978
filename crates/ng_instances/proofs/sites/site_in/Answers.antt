use Rattle.std.proofs.Common.{◌≡◌, ◌∙◌, Some, ap, sym}
use Rattle.std.specs.Option.{option_copied}
use Rattle.std.specs.Prelude.{is_some}
use Rattle.ng_instances.specs.InstanceOf.{spot_at}
use Rattle.ng_instances.proofs.sites.site_in.Goals as goal

pub returns-in_ok-fills-in-Some : goal.returns-in_ok-fills-in-Some
returns-in_ok-fills-in-Some c =
    let spot : spot_at c.args.one.now c.args.key.now ≡ Some c.in-Some.n.now = sym c.get.ensures.value ∙ ap option_copied c.in-Some.is in
    λ all. (ap is_some spot, (spot, c.in_ok-fills-in-Some.ensures all))
