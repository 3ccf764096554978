use Rattle.std.proofs.Common.{◌≡◌, ◌≤◌, ◌+◌, List, ◌∷◌, ◌++◌, Option, ap, append-nil, arith, drop, refl, subst, sym, vec_capacity, vec_len, ◌∙◌}
use Rattle.std.specs.List.{filter}
use Rattle.std.specs.Option.{option_to_list}
use Rattle.std.proofs.lemmas.List.{drop_all, drop_more}
use Rattle.ng_base.specs.declared.path.Key.{Key}
use Rattle.ng_watch.specs.declared.watched.Watched.{Watched}
use Rattle.ng_watch.proofs.Taking.{HasTaken, Rows, has_taken_all, has_taken_more}
use Rattle.ng_watch.proofs.watchers.taken_out.Goals.{in-Some, in_default}
use Rattle.ng_watch.proofs.watchers.taken_out.Goals as goal

pub loop-key-init : goal.loop-key-init
loop-key-init c = record {
  room = c.in_ok-rows.ensures.exact;
  filled = omega (arith, c.in_ok-rows.ensures.len);
  sorted = c.requires;
  steps = λ passes h. record {
    taken = ap (λ (xs : Rows). xs ++ filter passes c.args.table.now) c.in_ok-rows.ensures.items;
    left = refl;
    keys = h;
  };
}

pub push_reserved-requires : goal.push_reserved-requires
push_reserved-requires c = omega (arith, c.loop-key.invariant.room, c.loop-key.invariant.filled, c.loop-key-test.true)

pub loop-key-preserved : goal.loop-key-preserved
loop-key-preserved c =
    let pushed : (vec_capacity c.match-remove_entry.rows ≡ vec_capacity c.loop-key.rows) × (vec_len c.match-remove_entry.rows ≤ vec_len c.loop-key.rows + 1) × (c.match-remove_entry.rows.items ≡ c.loop-key.rows.items ++ option_to_list c.remove_entry.result)
    = elim c.match-remove_entry.branch [
      | in-Some w ↦ rw w.rows-is (w.push_reserved.ensures.capacity, omega (arith, w.push_reserved.ensures.len), w.push_reserved.ensures.items ∙ ap (λ (r : Option (Key × Watched)). c.loop-key.rows.items ++ option_to_list r) (sym w.in-Some.is))
      | in_default w ↦ rw (w.rows-is, w.in_default.is) (refl, omega arith, sym (append-nil c.loop-key.rows.items))
    ] in
    let item = drop_more c.args.keys.now c.loop-key.key-index c.key-item.result c.loop-key-test.true ∙ ap (λ k. k ∷ drop (c.loop-key.key-index + 1) c.args.keys.now) (sym c.key-item.is) in
    record {
      room = pushed.0 ∙ c.loop-key.invariant.room;
      filled = omega (arith, pushed.1, c.loop-key.invariant.filled);
      sorted = c.remove_entry.ensures.ordered;
      steps = λ passes h.
          let P : List Key → Type 0 = λ ks. HasTaken passes ks c.loop-key.rows.items c.args.table.now c.loop-key.table in
          has_taken_more passes c.key-item.result (drop (c.loop-key.key-index + 1) c.args.keys.now) c.loop-key.rows.items c.match-remove_entry.rows.items c.args.table.now c.loop-key.table c.remove_entry.new.self c.remove_entry.result c.loop-key.invariant.sorted c.remove_entry.ensures.key c.remove_entry.ensures.value c.remove_entry.ensures.entries pushed.2 (subst P item (c.loop-key.invariant.steps passes h));
    }

pub returns-clause-taken : goal.returns-clause-taken
returns-clause-taken c = λ passes h.
    let P : List Key → Type 0 = λ ks. HasTaken passes ks c.loop-key.rows.items c.args.table.now c.loop-key.table in
    has_taken_all passes c.loop-key.rows.items c.args.table.now c.loop-key.table (subst P (drop_all c.loop-key.key-index c.args.keys.now c.loop-key-test.false) (c.loop-key.invariant.steps passes h))
