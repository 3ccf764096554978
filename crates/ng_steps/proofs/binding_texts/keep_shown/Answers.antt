use Rattle.std.proofs.Common.{◌≡◌, ◌-◌, List, Option, ap, arith, length}
use Rattle.ng_base.specs.Views.{ViewTree}
use Rattle.ng_changes.proofs.Answered.{ok_then}
use Rattle.ng_steps.proofs.BoundTexts.{kept_many}
use Rattle.ng_instances.specs.BoundOf.{registered_of}
use Rattle.ng_instances.specs.Registering.{Registered}
use Rattle.ng_steps.proofs.binding_texts.keep_shown.Goals as goal

pub returns-clause-kept : goal.returns-clause-kept
returns-clause-kept c =
    let r : Registered = registered_of c.args.made.now in
    let few : c.saturating_sub-others.result ≡ length c.args.made.now.kept.items - length c.args.shown.items =
    omega (arith, c.saturating_sub-others.ensures, c.len.ensures, c.len-2.ensures, c.args.made.now.kept.ok.0, c.args.shown.ok.0) in
    ok_then c.keep_texts.result c.keep_texts.ensures
    (λ behind. ap (λ (ks : List (Option ViewTree)). record r { kept = ks })
    (kept_many c.args.made.now.kept.items c.truncate.new.self.items c.keep_texts.new.kept.items c.args.shown.items c.saturating_sub-others.result few c.truncate.ensures.items behind))
