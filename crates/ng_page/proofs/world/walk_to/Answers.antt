use Rattle.std.proofs.Common.{◌≡◌, Option, IfOk, true, refl, subst}
use Rattle.std.specs.Option.{option_copied}
use Rattle.std.proofs.lemmas.Result.{IfOk-weaker}
use Rattle.ng_base.specs.declared.path.Key.{Key}
use Rattle.ng_digest.specs.Machine.{above}
use Rattle.ng_link.specs.State as link
use Rattle.ng_watch.specs.Walks.{Walks, reached_of}
use Rattle.ng_watch.specs.declared.walking.Walk.{Walk}
use Rattle.ng_page.specs.PageMachine.{page_machine}
use Rattle.ng_page.proofs.StaysClean.{ahead_clean}
use Rattle.ng_page.proofs.world.walk_to.Goals as goal

pub returns-then-not-engine-clause-way : goal.returns-then-not-engine-clause-way
returns-then-not-engine-clause-way c =
    let e = c.args.engine.now in
    let s = link.state_of e.works in
    subst (λ (o : Option Key). IfOk c.walk_tested.result (λ (w : Walk). Walks s.core.objects s.watchers (option_copied c.args.last) o w.passed (reached_of w.reached))) c.cursor-cursor.ensures c.walk_tested.ensures.way

pub pass_over-requires-clause-known : goal.pass_over-requires-clause-known
pass_over-requires-clause-known c =
    let e = c.args.engine.now in
    let s = link.state_of e.works in
    ahead_clean e.known e.progress.cursor e.told.keys s.core.objects s.watchers c.if-not-engine.false
    (subst (λ (o : Option Key). (k : Key) → above page_machine o k ≡ true → above page_machine e.known.from k ≡ true) c.cursor-cursor.ensures (c.in-None.ensures.behind refl))
    c.requires.known

pub returns-in-Some-clause-way : goal.returns-in-Some-clause-way
returns-in-Some-clause-way c =
    let e = c.args.engine.now in
    let s = link.state_of e.works in
    IfOk-weaker c.walk_tested-in-Some.result (λ (w : Walk). Walks s.core.objects s.watchers (option_copied c.first_end.result) e.progress.cursor w.passed (reached_of w.reached))
    (λ (w : Walk). Walks s.core.objects s.watchers (option_copied c.args.last) e.progress.cursor w.passed (reached_of w.reached))
    (λ w d. c.first_end.ensures w.passed (reached_of w.reached) d)
    (subst (λ (o : Option Key). IfOk c.walk_tested-in-Some.result (λ (w : Walk). Walks s.core.objects s.watchers (option_copied c.first_end.result) o w.passed (reached_of w.reached))) c.cursor-cursor.ensures c.walk_tested-in-Some.ensures.way)
