use Rattle.std.proofs.Common.{Ok}
use Rattle.ng_commands.specs.Commands.{Asked, digests, is_idle}
use Rattle.ng_link.specs.State as link
use Rattle.ng_page.specs.Commanded.{refusal}
use Rattle.ng_page.specs.PageOf.{state_of}
use Rattle.ng_page.proofs.Commanding.{commanded_refused, commanded_ended, not_refused}
use Rattle.ng_page.proofs.page.Page.digest.Goals as goal

pub returns-in-Some : goal.returns-in-Some
returns-in-Some c = commanded_refused (digests) c.args.self.now c.in-Some.fault c.in-Some.ensures c.requires.page

pub returns : goal.returns
returns c =
    let old = c.args.self.now in
    let a : Asked = digests in
    commanded_ended a old c.ended.new.self (link.state_of c.begin.new.works) (Ok tt) c.ended.result (not_refused c.refused.result (refusal old.spent (is_idle a (state_of old))) c.refused.ensures c.in_default.not-Some)
    (λ i. c.begin.ensures.state) c.ended.ensures
