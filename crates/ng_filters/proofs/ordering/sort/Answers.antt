use Rattle.std.proofs.Common.{rules, is_lt}
use Rattle.std.proofs.lemmas.Result.{on_ok_weaker}
use Rattle.std.proofs.lemmas.List.Sorted.{ranks_by}
use Rattle.std.proofs.lemmas.Fn.{always_returns_same}
use Rattle.ng_filters.specs.declared.ordering.Row.{Row}
use Rattle.ng_filters.specs.Ordering.{keys_cmp}
use Rattle.ng_filters.proofs.Ranks.{keys_cmp_total}
use Rattle.ng_filters.proofs.Sorts.{sorted_is}
use Rattle.ng_filters.proofs.ordering.sort.Goals as goal

pub returns : goal.returns
returns c =
    let before = λ (r s : Row). is_lt (keys_cmp c.args.reversed c.args.predicates.now r.keys.items s.keys.items) in
    let weak = ranks_by (keys_cmp_total c.args.reversed c.args.predicates.now) (λ (r : Row). r.keys.items) in
    on_ok_weaker c.sort_by.result
    (λ sorted. sorted_is before weak _ _ (sorted before weak (always_returns_same _ _ _ (λ a r f k. search rules))) (c.sort_by.ensures.stable before weak (always_returns_same _ _ _ (λ a r f k. search rules))))
    c.sort_by.ensures.sorted
