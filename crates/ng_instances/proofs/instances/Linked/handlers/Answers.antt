use Rattle.std.proofs.Common.{◌≡◌, List, [], Option, Some, None, ap, sym, subst, ◌∙◌, map}
use Rattle.std.specs.Option.{option_copied}
use Rattle.std.specs.Prelude.{IfOk, unwrap_or}
use Rattle.ng_language.specs.Trees.{Trees}
use Rattle.ng_parse.specs.ProgramOf.{program}
use Rattle.ng_parts.specs.Seen.{handler_of}
use Rattle.ng_parts.specs.declared.acts.Handler.{Handler}
use Rattle.ng_build.specs.Handlers.{Handlers, for_event, programs_at, entered_at}
use Rattle.ng_build.specs.HandledOf.{handled_of}
use Rattle.ng_build.proofs.Entered.{entered_seen}
use Rattle.ng_instances.proofs.instances.Linked.handlers.Goals as goal

pub returns-in-None : goal.returns-in-None
returns-in-None c =
    let es = c.args.self.now.handlers.entries in
    let none : entered_at c.args.n (handled_of es) ≡ None = entered_seen c.args.n es None (sym c.get.ensures.value ∙ ap option_copied c.in-None.is) in
    ap (map program) c.new.ensures.items ∙ sym (ap (λ (o : Option Handlers). for_event c.args.event.now (unwrap_or o [])) none)

pub returns-in-Some : goal.returns-in-Some
returns-in-Some c =
    let es = c.args.self.now.handlers.entries in
    let e = c.args.event.now in
    let F : List Trees → Type 0 = λ x. IfOk c.for_event.result (λ ps. map program ps.items ≡ x) in
    let found = entered_seen c.args.n es (Some c.in-Some.handlers.now) (sym c.get.ensures.value ∙ ap option_copied c.in-Some.is) in
    let same : for_event e (map handler_of c.as_slice.result.now) ≡ programs_at c.args.n e (handled_of es) =
    ap (λ (hs : List Handler). for_event e (map handler_of hs)) c.as_slice.ensures.value ∙ sym (ap (λ (o : Option Handlers). for_event e (unwrap_or o [])) found) in
    subst F same c.for_event.ensures
