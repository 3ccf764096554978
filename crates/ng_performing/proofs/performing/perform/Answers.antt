use Rattle.std.proofs.Common.{subst, sym}
use Rattle.ng_script.specs.Acts.{act_of}
use Rattle.ng_performing.specs.Fired.{fired_by}
use Rattle.ng_performing.specs.Performed.{PerformedAct}
use Rattle.ng_performing.proofs.performing.perform.Goals as goal

pub returns-in-Broadcast : goal.returns-in-Broadcast
returns-in-Broadcast c =
    subst (λ w. PerformedAct (fired_by (act_of w)) (act_of w) c.args.page.now c.broadcast.result c.broadcast.new.page) (sym c.in-Broadcast.is) c.broadcast.ensures
