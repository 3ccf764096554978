use Rattle.std.proofs.Common.{rules}
use Rattle.std.proofs.lemmas.Result.{on_ok_weaker}
use Rattle.std.proofs.lemmas.List.Sorted.{ranks_by}
use Rattle.std.proofs.lemmas.Fn.{always_returns_same}
use Rattle.ng_collect.specs.declared.pick.Pick.{Pick}
use Rattle.ng_collect.specs.Sorted.{is_before}
use Rattle.ng_collect.proofs.Ranks.{pick_cmp_total}
use Rattle.ng_collect.proofs.Sorts.{sorted_is}
use Rattle.ng_collect.proofs.sorting.sort.Goals as goal

pub returns : goal.returns
returns c =
    let weak = ranks_by pick_cmp_total (λ (p : Pick). p) in
    on_ok_weaker c.sort_by.result
    (λ sorted. sorted_is is_before weak _ _ (sorted is_before weak (always_returns_same _ _ _ (λ a r f k. search rules))) (c.sort_by.ensures.stable is_before weak (always_returns_same _ _ _ (λ a r f k. search rules))))
    c.sort_by.ensures.sorted
