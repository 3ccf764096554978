use Rattle.std.proofs.Common.{◌∷◌, ◌+◌, ◌∙◌, drop, map, refl, ap, sym, subst}
use Rattle.std.proofs.lemmas.List.{drop_more, drop_all}
use Rattle.ng_parse.specs.ProgramOf.{program}
use Rattle.ng_page.specs.Dispatched.{told_all}
use Rattle.ng_commands.specs.HandlingOf.{going, happening_seen}
use Rattle.ng_page.proofs.Bubbling.{HandledSoFar, still_more, none_handled, one_handled, all_handled}
use Rattle.ng_page.proofs.dispatching.handle_all.Goals as goal

pub loop-p-init : goal.loop-p-init
loop-p-init c = record {
  page = c.requires.page;
  below = c.requires.below;
  settled = c.requires.settled;
  still = λ none. (refl, refl);
  handled = none_handled (happening_seen c.args.happening) c.args.n (map program c.args.list.now) (going c.args.engine.now.works c.args.dispatch.now.event) (told_all c.args.dispatch.now.outcomes);
}

pub loop-p-preserved : goal.loop-p-preserved
loop-p-preserved c =
    let before = c.loop-p.invariant in
    let t = c.in_ok-may_turn.ensures in
    let x = happening_seen c.args.happening in
    let list = c.args.list.now in
    let i = c.loop-p.p-index in
    let start = going c.args.engine.now.works c.args.dispatch.now.event in
    let now = going c.loop-p.engine.works c.loop-p.dispatch.event in
    let mid = going c.may_turn.new.engine.works c.may_turn.new.dispatch.event in
    let p = program c.p-item.result in
    let first = t.turn.0 in
    record {
      page = t.page;
      below = t.below;
      settled = t.settled;
      still = still_more c.args.dispatch.now c.loop-p.dispatch c.may_turn.new.dispatch c.args.engine.now c.loop-p.engine c.may_turn.new.engine before.still t.still;
      handled = one_handled x c.args.n (map program list) (map program (drop (i + 1) list)) p start now mid (told_all c.args.dispatch.now.outcomes) (told_all c.loop-p.dispatch.outcomes) (told_all c.may_turn.new.dispatch.outcomes) first t.turn.1 t.turn.2
          (subst (λ ps. HandledSoFar x c.args.n (map program list) ps start now (told_all c.args.dispatch.now.outcomes) (told_all c.loop-p.dispatch.outcomes))
          (ap (map program) (drop_more list i c.p-item.result c.loop-p-test.true) ∙ ap (λ q. program q ∷ map program (drop (i + 1) list)) (sym c.p-item.is)) before.handled);
    }

pub returns-clause-handled : goal.returns-clause-handled
returns-clause-handled c =
    let before = c.loop-p.invariant in
    let x = happening_seen c.args.happening in
    let list = c.args.list.now in
    let start = going c.args.engine.now.works c.args.dispatch.now.event in
    let now = going c.loop-p.engine.works c.loop-p.dispatch.event in
    let old = told_all c.args.dispatch.now.outcomes in
    let new = told_all c.loop-p.dispatch.outcomes in
    all_handled x c.args.n (map program list) start now old new (subst (λ ps. HandledSoFar x c.args.n (map program list) (map program ps) start now old new) (drop_all c.loop-p.p-index list c.loop-p-test.false) before.handled)
