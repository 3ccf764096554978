use Rattle.ng_collect.specs.Sorted.{is_before}
use Rattle.ng_collect.specs.Laws.{sorted}
use Rattle.ng_collect.proofs.Reach.{picks_weak}
use Rattle.ng_collect.proofs.Sorts.{in_order_permutes, in_order_rises, in_order_stable, rising_sorted}
use Rattle.ng_collect.proofs.laws.directives_are_sorted.Goals as goal

pub returns-clause-permutation : goal.returns-clause-permutation
returns-clause-permutation g c = in_order_permutes is_before g.picks

pub returns-clause-sorted : goal.returns-clause-sorted
returns-clause-sorted g c = rising_sorted is_before (sorted g.picks) (in_order_rises is_before picks_weak g.picks)

pub returns-clause-stable : goal.returns-clause-stable
returns-clause-stable g c = in_order_stable is_before picks_weak g.picks
