use Rattle.std.proofs.Common.{◌≡◌, ◌-◌, List, Option, ap, arith, length}
use Rattle.ng_base.specs.Views.{ViewTree}
use Rattle.ng_steps.proofs.SetRuns.{kept_one}
use Rattle.ng_instances.specs.BoundOf.{registered_of}
use Rattle.ng_instances.specs.Registering.{Registered}
use Rattle.ng_steps.proofs.binding.keep_one.Goals as goal

pub returns-clause-kept : goal.returns-clause-kept
returns-clause-kept c =
    let r : Registered = registered_of c.args.made.now in
    let few : c.saturating_sub-others.result ≡ length c.args.made.now.kept.items - 1 = omega (arith, c.saturating_sub-others.ensures, c.len.ensures, c.args.made.now.kept.ok.0) in
    ap (λ (ks : List (Option ViewTree)). record r { kept = ks })
    (kept_one c.args.made.now.kept.items c.truncate.new.self.items c.push.new.self.items c.args.now c.saturating_sub-others.result few c.truncate.ensures.items c.in_ok-push.ensures.items)
