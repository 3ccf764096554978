use Rattle.std.proofs.Common.{◌≡◌, ◌∙◌, ap}
use Rattle.ng_parse.specs.ProgramOf.{program}
use Rattle.ng_commands.specs.Commands.{Asked, probes, is_idle, asked_run}
use Rattle.ng_link.specs.State as link
use Rattle.ng_page.specs.Commanded.{refusal}
use Rattle.ng_page.specs.PageOf.{state_of}
use Rattle.ng_page.proofs.Commanding.{commanded_refused, commanded_ended, not_refused, where_ran}
use Rattle.ng_page.proofs.page.Page.probe.Goals as goal

pub returns-in-Some : goal.returns-in-Some
returns-in-Some c = commanded_refused (probes (program c.args.p.now)) c.args.self.now c.in-Some.fault c.in-Some.ensures c.requires.page

pub returns : goal.returns
returns c =
    let old = c.args.self.now in
    let a : Asked = probes (program c.args.p.now) in
    let s = link.state_of c.probe-ran.new.works in
    commanded_ended a old c.ended.new.self s c.probe-ran.result c.ended.result (not_refused c.refused.result (refusal old.spent (is_idle a (state_of old))) c.refused.ensures c.in_default.not-Some)
    (λ i. where_ran (s ≡ asked_run a (link.state_of c.begin.new.works)) c.probe-ran.result c.probe-ran.ensures.state i ∙ ap (asked_run a) c.begin.ensures.state) c.ended.ensures
