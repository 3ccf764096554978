use Rattle.std.proofs.Common.{◌≡◌, ◌∙◌, ap}
use Rattle.serde_json.specs.View.{view}
use Rattle.ng_commands.specs.Commands.{Asked, broadcasts, is_idle, asked_run}
use Rattle.ng_link.specs.State as link
use Rattle.ng_page.specs.Commanded.{refusal}
use Rattle.ng_page.specs.PageOf.{state_of}
use Rattle.ng_page.proofs.Commanding.{commanded_refused, commanded_ended, not_refused, where_ran}
use Rattle.ng_page.proofs.page.Page.broadcast.Goals as goal

pub returns-in-Some : goal.returns-in-Some
returns-in-Some c = commanded_refused (broadcasts c.args.scope.0 c.args.name.now (view c.args.args.now)) c.args.self.now c.in-Some.fault c.in-Some.ensures c.requires.page

pub returns : goal.returns
returns c =
    let old = c.args.self.now in
    let a : Asked = broadcasts c.args.scope.0 c.args.name.now (view c.args.args.now) in
    let s = link.state_of c.broadcast_from-ran.new.works in
    commanded_ended a old c.ended.new.self s c.broadcast_from-ran.result c.ended.result (not_refused c.refused_on.result (refusal old.spent (is_idle a (state_of old))) c.refused_on.ensures c.in_default.not-Some)
    (λ i. where_ran (s ≡ asked_run a (link.state_of c.begin.new.works)) c.broadcast_from-ran.result c.broadcast_from-ran.ensures.state i ∙ ap (asked_run a) c.begin.ensures.state) c.ended.ensures
