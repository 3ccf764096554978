use Rattle.std.proofs.Common.{◌∷◌, ◌+◌, [], ◌∙◌, drop, get_or, refl, ap, sym, subst}
use Rattle.std.proofs.lemmas.List.{drop_more, drop_all}
use Rattle.ng_link.specs.State.{state_of}
use Rattle.ng_page.specs.Dispatched.{told_all}
use Rattle.ng_commands.specs.HandlingOf.{going, happening_seen}
use Rattle.ng_page.specs.EventSeen.{LastSettled}
use Rattle.ng_page.specs.declared.dispatching.Dispatch.{Dispatch}
use Rattle.ng_commands.specs.declared.handling.Event.TheVariants as events
use Rattle.ng_page.proofs.Bubbling.{BubbledSoFar, bubbles_no_more, stopped_here, one_bubbled}
use Rattle.ng_page.proofs.dispatching.bubble.Goals as goal

pub loop-n-init : goal.loop-n-init
loop-n-init c =
    let start = going c.args.engine.now.works events.Unmade in
    record {
      page = c.requires.page;
      below = tt;
      settled = subst (λ os. LastSettled os (state_of c.args.engine.now.works)) (sym c.new.ensures) tt;
      still = λ none. refl;
      bubbled = subst (λ os. BubbledSoFar (happening_seen c.args.happening) c.args.way.now c.args.way.now start start (told_all os)) (sym c.new.ensures) (λ os h t. t);
    }

pub loop-n-preserved : goal.loop-n-preserved
loop-n-preserved c =
    let before = c.loop-n.invariant in
    let t = c.in_ok-handle.ensures in
    let x = happening_seen c.args.happening in
    let way = c.args.way.now in
    let i = c.loop-n.n-index in
    let n = get_or way i 0 in
    let start = going c.args.engine.now.works events.Unmade in
    let now = going c.loop-n.engine.works c.loop-n.dispatch.event in
    let mid = going c.handle.new.engine.works c.handle.new.dispatch.event in
    record {
      page = t.page;
      below = t.below;
      settled = t.settled;
      still = λ none. (t.still none).0 ∙ before.still (ap (λ (d : Dispatch). d.outcomes) (sym (t.still none).1) ∙ none);
      bubbled = one_bubbled x way (drop (i + 1) way) n start now mid (told_all c.loop-n.dispatch.outcomes) (told_all c.handle.new.dispatch.outcomes) t.handled.0 (sym c.in_ok-is_stopped.ensures ∙ c.if-branch.false) t.handled.1 t.handled.2
          (subst (λ ns. BubbledSoFar x way ns start now (told_all c.loop-n.dispatch.outcomes)) (drop_more way i 0 c.loop-n-test.true) before.bubbled);
    }

pub returns-then-branch-clause-bubbles : goal.returns-then-branch-clause-bubbles
returns-then-branch-clause-bubbles c =
    let x = happening_seen c.args.happening in
    let way = c.args.way.now in
    let i = c.loop-n.n-index in
    let n = get_or way i 0 in
    let start = going c.args.engine.now.works events.Unmade in
    let now = going c.loop-n.engine.works c.loop-n.dispatch.event in
    let done = told_all c.loop-n.dispatch.outcomes in
    let here = subst (λ ns. BubbledSoFar x way ns start now done) (drop_more way i 0 c.loop-n-test.true) c.loop-n.invariant.bubbled in
    (c.loop-n.dispatch.event, stopped_here x way (n ∷ drop (i + 1) way) start now done here (bubbles_no_more x n (drop (i + 1) way) now (sym c.in_ok-is_stopped.ensures ∙ c.if-branch.true)))

pub returns-clause-bubbles : goal.returns-clause-bubbles
returns-clause-bubbles c =
    let x = happening_seen c.args.happening in
    let way = c.args.way.now in
    let start = going c.args.engine.now.works events.Unmade in
    let now = going c.loop-n.engine.works c.loop-n.dispatch.event in
    let done = told_all c.loop-n.dispatch.outcomes in
    let here = subst (λ ns. BubbledSoFar x way ns start now done) (drop_all c.loop-n.n-index way c.loop-n-test.false) c.loop-n.invariant.bubbled in
    (c.loop-n.dispatch.event, stopped_here x way [] start now done here (refl, refl))
