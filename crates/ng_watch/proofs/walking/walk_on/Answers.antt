use Rattle.std.proofs.Common.{◌≡◌, ◌<◌, ◌∙◌, Some, None, ap, sym, subst, arith, zero-add}
use Rattle.std.specs.Option.{is_some, option_copied}
use Rattle.std.proofs.lemmas.Result.{IfOk-weaker}
use Rattle.ng_base.specs.Faults.{is_memory}
use Rattle.ng_base.specs.Meets.{Gives}
use Rattle.ng_watch.specs.Chunks.{joined, row_at}
use Rattle.ng_watch.specs.Seen.{watcher_of}
use Rattle.ng_watch.specs.Table.{watchers_of}
use Rattle.ng_watch.specs.Verdicts.{judged_of, verdict}
use Rattle.ng_watch.specs.Walks.{Walks, behind_all, at_watcher, came_to_end, came_to_watcher, passed_watcher, next_of, reached_of}
use Rattle.ng_watch.specs.declared.walking.Stop.{Stop}
use Rattle.ng_watch.proofs.AtPlaces.{Row, key_in}
use Rattle.ng_watch.proofs.Stepping.{row_found, row_next, ends_here, goes_behind}
use Rattle.ng_watch.proofs.walking.walk_on.Goals as goal

pub rows-init : goal.rows-init
rows-init c = record {
  few = omega arith;
  next = c.requires.start;
  so_far = λ n a d. subst (λ x. Walks c.args.store.now (watchers_of (joined c.args.chunks.now)) (option_copied c.args.last) (option_copied c.args.from) x a) (sym (zero-add n)) d;
}

pub returns-in-None : goal.returns-in-None
returns-in-None c =
    let t = watchers_of (joined c.args.chunks.now) in
    let none : next_of (option_copied c.rows.cursor) t ≡ None = sym c.rows.invariant.next ∙ ap key_in (sym c.in-None.ensures) in
    IfOk-weaker c.ended.result (λ (s : Stop). (s.walk.passed ≡ c.rows.passed) × (reached_of s.walk.reached ≡ behind_all (option_copied c.rows.cursor)))
    (λ (s : Stop). Walks c.args.store.now t (option_copied c.args.last) (option_copied c.args.from) s.walk.passed (reached_of s.walk.reached))
    (λ s is. ends_here c.args.store.now t (option_copied c.args.last) (option_copied c.args.from) (option_copied c.rows.cursor) c.rows.passed c.rows.invariant.so_far (behind_all (option_copied c.rows.cursor)) (came_to_end none) s.walk.passed (reached_of s.walk.reached) is.0 is.1)
    c.ended.ensures

pub verdict-found-requires : goal.verdict-found-requires
verdict-found-requires c =
    let e : Row = c.in-Some.row.now in
    c.requires.stands e.0 (watcher_of e.1) (row_found c.args.chunks.now c.rows.at.chunk c.rows.at.row c.requires.sorted e (sym c.in-Some.ensures))

pub returns-in-Some-ending : goal.returns-in-Some-ending
returns-in-Some-ending c =
    let t = watchers_of (joined c.args.chunks.now) in
    let e : Row = c.in-Some.row.now in
    let at : row_at c.args.chunks.now c.rows.at.chunk c.rows.at.row ≡ Some e = sym c.in-Some.ensures in
    let next : next_of (option_copied c.rows.cursor) t ≡ Some e.0 = sym c.rows.invariant.next ∙ ap key_in at in
    let asked = verdict c.args.store.now (watcher_of e.1) in
    IfOk-weaker c.arrived.result (λ (s : Stop). (s.walk.passed ≡ c.rows.passed) × (reached_of s.walk.reached ≡ at_watcher e.0 asked))
    (λ (s : Stop). Walks c.args.store.now t (option_copied c.args.last) (option_copied c.args.from) s.walk.passed (reached_of s.walk.reached))
    (λ s is. ends_here c.args.store.now t (option_copied c.args.last) (option_copied c.args.from) (option_copied c.rows.cursor) c.rows.passed c.rows.invariant.so_far (at_watcher e.0 asked) (came_to_watcher next (row_found c.args.chunks.now c.rows.at.chunk c.rows.at.row c.requires.sorted e at)) s.walk.passed (reached_of s.walk.reached) is.0 is.1)
    (c.arrived.ensures asked (subst (Gives is_memory judged_of asked) (sym c.in-Some-ending.ensures.same) c.verdict-found.ensures))

pub overflow_add-passed : goal.overflow_add-passed
overflow_add-passed c =
    let room : c.rows.passed < c.args.count = c.ending.ensures.room (ap is_some c.in_default.is) in
    omega (arith, room)

pub rows-smaller : goal.rows-smaller
rows-smaller c =
    let room : c.rows.passed < c.args.count = c.ending.ensures.room (ap is_some c.in_default.is) in
    omega (arith, room)

pub rows-preserved : goal.rows-preserved
rows-preserved c =
    let t = watchers_of (joined c.args.chunks.now) in
    let e : Row = c.in-Some.row.now in
    let at : row_at c.args.chunks.now c.rows.at.chunk c.rows.at.row ≡ Some e = sym c.in-Some.ensures in
    let next : next_of (option_copied c.rows.cursor) t ≡ Some e.0 = sym c.rows.invariant.next ∙ ap key_in at in
    let room : c.rows.passed < c.args.count = c.ending.ensures.room (ap is_some c.in_default.is) in
    let same = subst (Gives is_memory judged_of (verdict c.args.store.now (watcher_of e.1))) (c.ending.ensures.clean (ap is_some c.in_default.is)) c.verdict-found.ensures in
    record {
      few = omega (arith, room);
      next = row_next c.args.chunks.now c.rows.at.chunk c.rows.at.row c.requires.sorted e at c.step-at.result.chunk c.step-at.result.row c.step-at.ensures.row;
      so_far = goes_behind c.args.store.now t (option_copied c.args.last) (option_copied c.args.from) (option_copied c.rows.cursor) c.rows.passed c.rows.invariant.so_far e.0
          (λ n a d. passed_watcher next (row_found c.args.chunks.now c.rows.at.chunk c.rows.at.row c.requires.sorted e at) same (c.ending.ensures.other (ap is_some c.in_default.is)) d);
    }
