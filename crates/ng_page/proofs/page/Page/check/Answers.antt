use Rattle.std.proofs.Common.{◌≡◌, ◌∙◌, ℕ, ap, subst, sym}
use Rattle.std.specs.Prelude.{◌||◌}
use Rattle.ng_control.specs.Typed.{IsCheckbox}
use Rattle.ng_build.specs.Controls.{IsOfKind}
use Rattle.ng_link.specs.Events.{control_at, state_by}
use Rattle.ng_link.specs.State as link
use Rattle.ng_commands.specs.Commands.{Asked, checks, is_dead, is_idle, asked_run}
use Rattle.ng_page.specs.Commanded.{refusal}
use Rattle.ng_page.specs.PageOf.{state_of}
use Rattle.ng_page.proofs.Commanding.{commanded_refused, commanded_ended, not_refused, not_spent, where_ran}
use Rattle.ng_commands.proofs.Inputs.{begun_kind}
use Rattle.ng_page.proofs.page.Page.check.Goals as goal

pub refused_on-requires-clause-scope : goal.refused_on-requires-clause-scope
refused_on-requires-clause-scope c = c.scope_of-scope.ensures.there c.requires.page

pub returns-in-Some : goal.returns-in-Some
returns-in-Some c =
    let old = c.args.self.now in
    commanded_refused (checks c.args.n.made.0 c.args.on) old c.in-Some.fault
    (c.in-Some.ensures ∙ ap (λ (q : ℕ). refusal old.spent (is_dead (state_of old) 0 || is_dead (state_of old) q)) c.scope_of-scope.ensures.scope) c.requires.page

pub check_in-ran-requires-clause-control : goal.check_in-ran-requires-clause-control
check_in-ran-requires-clause-control c =
    let old = c.args.self.now in
    let idle = is_dead (state_of old) 0 || is_dead (state_of old) c.scope_of-scope.result.0 in
    subst (λ (s : link.State). IsOfKind IsCheckbox (state_by (control_at s c.args.n.made.0) s)) (sym c.begin.ensures.state)
    (begun_kind IsCheckbox (state_of old) c.args.n.made.0 (c.requires.control (not_spent old.spent idle (not_refused c.refused_on.result (refusal old.spent idle) c.refused_on.ensures c.in_default.not-Some))))

pub returns : goal.returns
returns c =
    let old = c.args.self.now in
    let a : Asked = checks c.args.n.made.0 c.args.on in
    let s = link.state_of c.check_in-ran.new.works in
    commanded_ended a old c.ended.new.self s c.check_in-ran.result c.ended.result
    (not_refused c.refused_on.result (refusal old.spent (is_idle a (state_of old)))
    (c.refused_on.ensures ∙ ap (λ (q : ℕ). refusal old.spent (is_dead (state_of old) 0 || is_dead (state_of old) q)) c.scope_of-scope.ensures.scope) c.in_default.not-Some)
    (λ i. where_ran (s ≡ asked_run a (link.state_of c.begin.new.works)) c.check_in-ran.result c.check_in-ran.ensures.state i ∙ ap (asked_run a) c.begin.ensures.state) c.ended.ensures
