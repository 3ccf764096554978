use Rattle.std.proofs.Common.{◌≡◌, ◌++◌, ◌-◌, take, drop}
use Rattle.ng_base.specs.Views.{views_list}
use Rattle.ng_base.specs.ViewOf.{views_of}
use Rattle.ng_filters.specs.Parts.{items}
use Rattle.ng_filters.specs.Seen.{seen}
use Rattle.ng_filters.proofs.limits.items_between.Given as goal

abbrev pub invariant-loop-i : goal.invariant-loop-i
invariant-loop-i l = views_list (views_of l.done) ++ take (l.end - l.i) (drop l.i (items l.store (seen l.v))) ≡ take (l.end - l.first) (drop l.first (items l.store (seen l.v)))
