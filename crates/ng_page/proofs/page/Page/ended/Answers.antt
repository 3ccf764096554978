use Rattle.std.proofs.Common.{Ok, subst, sym}
use Rattle.ng_page.specs.Commanded.{Ended}
use Rattle.ng_page.specs.PageOf.{state_of}
use Rattle.ng_page.specs.declared.page.Page.{Page}
use Rattle.ng_page.proofs.Ending.{ended_well}
use Rattle.ng_page.proofs.page.Page.ended.Goals as goal

pub returns-in-Ok-conclude : goal.returns-in-Ok-conclude
returns-in-Ok-conclude c =
    let s = state_of c.args.self.now in
    let o = c.in-Ok-conclude.outcome in
    let new : Page = record { engine = c.conclude.new.engine; spent = c.args.self.now.spent } in
    subst (λ r. Ended r s (Ok o) new) (sym c.in-Ok.is) (ended_well s o new c.requires.unspent c.in-Ok-conclude.ensures.step c.in-Ok-conclude.ensures.report c.in-Ok-conclude.ensures.settled c.in-Ok-conclude.ensures.page)
