use Rattle.std.proofs.Common.{◌≡◌, ◌∙◌, ◌<◌, ◌++◌, List, ap, sym, subst, length, length-append, arith}
use Rattle.ng_core.specs.Frames as cores
use Rattle.ng_core.specs.Frames.{IsSound}
use Rattle.ng_core.specs.declared.core_state.Core.{Core}
use Rattle.ng_app.specs.AppOf.{facts}
use Rattle.ng_app.specs.Directives.{all_unnamed, all_programs}
use Rattle.ng_app.specs.Templates.{all_named}
use Rattle.ng_changes.specs.Runs.{program_run}
use Rattle.ng_changes.specs.Whole.{IsWhole}
use Rattle.ng_link.specs.State.{State}
use Rattle.ng_link.specs.declared.works.Works.{Works}
use Rattle.ng_parse.specs.ProgramOf.{program}
use Rattle.ng_parts.specs.Directing.{Programs}
use Rattle.ng_compose.specs.DirectivesOf.{directives_of}
use Rattle.ng_drawing.specs.Named.{Named}
use Rattle.ng_compose.specs.Kept.{templates_of as kept_templates}
use Rattle.ng_page.specs.Opening.{templates_for}
use Rattle.ng_page.proofs.Prepared.{whole_new, prepared_by}
use Rattle.ng_commands.proofs.Ran.{whole_ran}
use Rattle.ng_commands.proofs.StepsStay.{program_stays}
use Rattle.ng_page.proofs.opening.prepare.Goals as goal

pub follow-requires : goal.follow-requires
follow-requires c =
    let v : Works = c.new-works.result in
    let k : Core = c.in_ok-core.core in
    let same : v.core ≡ k = c.new-works.ensures.core in
    let one = c.in_ok-core.ensures.root in
    let sound : IsSound v.core = subst (λ (x : Core). IsSound x) (sym same) c.in_ok-core.ensures.sound in
    let idle : v.core.depth ≡ 0 = ap (λ (x : Core). x.depth) same ∙ c.in_ok-core.ensures.depth in
    let root : 0 < length v.core.scopes = subst (λ (x : Core). 0 < length x.scopes) (sym same) (omega (arith, one)) in
    let whole : IsWhole v = whole_new v (kept_templates c.begin.new.templates) (directives_of c.begin.new.templates) (cores.state_of k) c.new-works.ensures.state sound idle root c.new-works.ensures.stands in
    let s = cores.state_of v.core in
    let p = program c.in_ok-core.run' in
    let e = c.run_program-end.ensures in
    whole_ran v c.run_program-end.new.core c.run_program-end.result (program_run 0 p s) e.run (program_stays 0 p s) e.sound e.idle e.count e.grown whole

pub returns-clause-state : goal.returns-clause-state
returns-clause-state c = λ u only.
    let v : Works = c.new-works.result in
    let p = program c.in_ok-core.run' in
    let all : kept_templates c.begin.new.templates ≡ templates_for u (facts c.args.app) =
    c.in_ok-core.ensures.templates ∙ ap (λ (ts : List Named). ts ++ (all_unnamed (facts c.args.app).directives ++ all_named (facts c.args.app).templates)) only in
    let programs : directives_of c.begin.new.templates ≡ all_programs (facts c.args.app).directives =
    c.in_ok-core.ensures.directives ∙ ap (λ (ds : List Programs). ds ++ all_programs (facts c.args.app).directives) c.requires.plain in
    prepared_by u (facts c.args.app) v c.follow.new.works (kept_templates c.begin.new.templates) (directives_of c.begin.new.templates) p (cores.state_of c.in_ok-core.core) c.new-works.ensures.state all programs c.in_ok-core.ensures.state c.in_ok-core.ensures.run
    (c.in_ok-follow.ensures.state (program_run 0 p (cores.state_of v.core)) c.run_program-end.ensures.run).0

pub returns-clause-works : goal.returns-clause-works
returns-clause-works c =
    let old = kept_templates c.args.templates in
    let more = all_unnamed (facts c.args.app).directives ++ all_named (facts c.args.app).templates in
    let some : 0 < length (old ++ more) = let first = c.requires.some in omega (arith, first, length-append old more) in
    record {
      whole = c.in_ok-follow.ensures.whole;
      templates = subst (λ ts. 0 < length ts) (sym (c.follow.ensures.templates ∙ (c.new-works.ensures.templates ∙ c.in_ok-core.ensures.templates))) some;
    }

pub returns-clause-bare : goal.returns-clause-bare
returns-clause-bare c = c.in_ok-follow.ensures.linked ∙ ap (λ (s : State). s.instances) c.new-works.ensures.state

pub returns-clause-templates : goal.returns-clause-templates
returns-clause-templates c = c.follow.ensures.templates ∙ (c.new-works.ensures.templates ∙ c.in_ok-core.ensures.templates)
