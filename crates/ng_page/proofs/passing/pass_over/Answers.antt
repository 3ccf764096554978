use Rattle.std.proofs.Common.{◌≡◌, ◌∙◌, Option, Some, None, Ok, List, refl, ap, sym, subst, arith}
use Rattle.std.specs.List.Sorted.{IsStrictlySortedBy}
use Rattle.std.specs.Map.{keys_of}
use Rattle.std.specs.Option.{option_copied}
use Rattle.std.proofs.lemmas.Result.{IfOk-weaker}
use Rattle.ng_base.specs.declared.path.Key.{Key}
use Rattle.ng_link.specs.State as link
use Rattle.ng_behaviour.specs.Keys.{key_cmp}
use Rattle.ng_watch.specs.Table.{watchers_of}
use Rattle.ng_watch.specs.Verdicts.{clean}
use Rattle.ng_watch.specs.Walks.{Walks, behind_all, at_watcher, came_to_end, next_of, reached_of}
use Rattle.ng_watch.specs.declared.walking.Walk.{Walk}
use Rattle.ng_watch.specs.declared.watched.Watched.{Watched}
use Rattle.ng_watch.proofs.Stepping.{ends_here, goes_behind}
use Rattle.ng_page.proofs.Nearest.{next_over, over_next}
use Rattle.ng_page.proofs.PassOver.{comes, goes_on}
use Rattle.ng_page.proofs.passing.pass_over.Goals as goal

pub returns-in-None-clause-way : goal.returns-in-None-clause-way
returns-in-None-clause-way c =
    let e = c.args.engine.now in
    let s = link.state_of e.works in
    let at = option_copied c.keys.cursor in
    let none : next_of at s.watchers ≡ None = ap (λ (rows : List (Key × Watched)). next_of at (watchers_of rows)) (sym c.watchers-watchers.ensures) ∙ sym c.in-None.ensures in
    IfOk-weaker c.ended.result (λ (w : Walk). (w.passed ≡ c.keys.passed) × (reached_of w.reached ≡ behind_all at))
    (λ (w : Walk). Walks s.core.objects s.watchers (option_copied c.args.last) e.progress.cursor w.passed (reached_of w.reached))
    (λ w is. ends_here s.core.objects s.watchers (option_copied c.args.last) e.progress.cursor at c.keys.passed c.keys.invariant.so_far (behind_all at) (came_to_end none) w.passed (reached_of w.reached) is.0 is.1)
    c.ended.ensures

pub arrived_told-requires-clause-next : goal.arrived_told-requires-clause-next
arrived_told-requires-clause-next c = ap (λ (rows : List (Key × Watched)). next_of (option_copied c.keys.cursor) (watchers_of rows)) (sym c.watchers-watchers.ensures) ∙ sym c.in-Some.ensures

pub returns-then-contains-clause-way : goal.returns-then-contains-clause-way
returns-then-contains-clause-way c =
    let e = c.args.engine.now in
    let s = link.state_of e.works in
    let last = option_copied c.args.last in
    let at = option_copied c.keys.cursor in
    IfOk-weaker c.arrived_told.result (λ (w : Walk). (w.passed ≡ c.keys.passed) × ((o : Option Key) → Walks s.core.objects s.watchers o at 0 (reached_of w.reached)))
    (λ (w : Walk). Walks s.core.objects s.watchers last e.progress.cursor w.passed (reached_of w.reached))
    (λ w is. ends_here s.core.objects s.watchers last e.progress.cursor at c.keys.passed c.keys.invariant.so_far (reached_of w.reached) (is.1 last) w.passed (reached_of w.reached) is.0 refl)
    c.arrived_told.ensures

pub returns-then-is_end-clause-way : goal.returns-then-is_end-clause-way
returns-then-is_end-clause-way c =
    let e = c.args.engine.now in
    let s = link.state_of e.works in
    let at = option_copied c.keys.cursor in
    let k : Key = c.in-Some.key.now in
    let next : next_of at s.watchers ≡ Some k = ap (λ (rows : List (Key × Watched)). next_of at (watchers_of rows)) (sym c.watchers-watchers.ensures) ∙ sym c.in-Some.ensures in
    IfOk-weaker c.arrived.result (λ (w : Walk). (w.passed ≡ c.keys.passed) × (reached_of w.reached ≡ at_watcher k (Ok clean)))
    (λ (w : Walk). Walks s.core.objects s.watchers (option_copied c.args.last) e.progress.cursor w.passed (reached_of w.reached))
    (λ w is. ends_here s.core.objects s.watchers (option_copied c.args.last) e.progress.cursor at c.keys.passed c.keys.invariant.so_far (at_watcher k (Ok clean)) (comes s.core.objects s.watchers (option_copied c.args.last) at k (c.requires.known k (c.keys.invariant.ahead k (next_over s.watchers at k next)) (sym c.contains.ensures ∙ c.if-contains.false)) next) w.passed (reached_of w.reached) is.0 is.1)
    c.arrived.ensures

pub keys-preserved : goal.keys-preserved
keys-preserved c =
    let e = c.args.engine.now in
    let s = link.state_of e.works in
    let at = option_copied c.keys.cursor in
    let k : Key = c.in-Some.key.now in
    let next : next_of at s.watchers ≡ Some k = ap (λ (rows : List (Key × Watched)). next_of at (watchers_of rows)) (sym c.watchers-watchers.ensures) ∙ sym c.in-Some.ensures in
    let room = c.is_end.ensures.room c.if-is_end.false in
    record {
      few = omega (arith, room);
      ahead = λ j over. c.keys.invariant.ahead j (over_next s.watchers at k next j over);
      so_far = goes_behind s.core.objects s.watchers (option_copied c.args.last) e.progress.cursor at c.keys.passed c.keys.invariant.so_far k
          (goes_on s.core.objects s.watchers (option_copied c.args.last) at k (c.requires.known k (c.keys.invariant.ahead k (next_over s.watchers at k next)) (sym c.contains.ensures ∙ c.if-contains.false)) next (c.is_end.ensures.other c.if-is_end.false));
    }

pub returns-in-None-clause-sorted : goal.returns-in-None-clause-sorted
returns-in-None-clause-sorted c = subst (λ (rows : List (Key × Watched)). IsStrictlySortedBy key_cmp (keys_of (watchers_of rows))) c.watchers-watchers.ensures c.count-count.ensures.ordered

pub returns-then-is_end-clause-sorted : goal.returns-then-is_end-clause-sorted
returns-then-is_end-clause-sorted c = subst (λ (rows : List (Key × Watched)). IsStrictlySortedBy key_cmp (keys_of (watchers_of rows))) c.watchers-watchers.ensures c.count-count.ensures.ordered

pub returns-then-contains-clause-sorted : goal.returns-then-contains-clause-sorted
returns-then-contains-clause-sorted c = subst (λ (rows : List (Key × Watched)). IsStrictlySortedBy key_cmp (keys_of (watchers_of rows))) c.watchers-watchers.ensures c.count-count.ensures.ordered
