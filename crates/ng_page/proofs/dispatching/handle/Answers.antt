use Rattle.std.proofs.Common.{◌++◌, ◌∙◌, List, map, refl, ap, subst, append_assoc}
use Rattle.std.proofs.lemmas.Result.{on_ok_weaker}
use Rattle.ng_language.specs.Trees.{Trees}
use Rattle.ng_parse.specs.ProgramOf.{program}
use Rattle.ng_page.specs.Dispatch.{Told, Handles}
use Rattle.ng_page.specs.Dispatched.{told_all}
use Rattle.ng_commands.specs.HandlingOf.{going, happening_seen}
use Rattle.ng_page.proofs.Bubbling.{still_more}
use Rattle.ng_page.proofs.dispatching.handle.Goals as goal

pub returns-clause-handled : goal.returns-clause-handled
returns-clause-handled c =
    let x = happening_seen c.args.happening in
    let first = c.in_ok-may_touch.ensures.turn in
    let mid = going c.may_touch.new.engine.works c.may_touch.new.dispatch.event in
    let end = going c.handle_all.new.engine.works c.handle_all.new.dispatch.event in
    let old = told_all c.args.dispatch.now.outcomes in
    on_ok_weaker c.handle_all.result
    (λ rest. (
      first.0 ++ rest.0,
      (mid, first.0, rest.0, first.1, subst (λ (ps : List Trees). Handles x c.args.n ps mid rest.0 end) (ap (map program) c.as_slice.ensures.value ∙ c.in_ok-programs.ensures) rest.1, refl),
      rest.2 ∙ (ap (λ (os : List Told). os ++ rest.0) first.2 ∙ append_assoc old first.0 rest.0),
    ))
    c.handle_all.ensures.handled

pub returns-clause-still : goal.returns-clause-still
returns-clause-still c =
    on_ok_weaker c.handle_all.result
    (λ rest. still_more c.args.dispatch.now c.may_touch.new.dispatch c.handle_all.new.dispatch c.args.engine.now c.may_touch.new.engine c.handle_all.new.engine c.in_ok-may_touch.ensures.still rest)
    c.handle_all.ensures.still
