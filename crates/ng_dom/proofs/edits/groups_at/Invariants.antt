use Rattle.std.proofs.Common.{◌≡◌, ◌++◌, drop, map}
use Rattle.ng_dom.specs.Lists.{lists_at}
use Rattle.ng_dom.proofs.edits.groups_at.Given as goal

abbrev pub invariant-loop-i : goal.invariant-loop-i
invariant-loop-i l =
    map (λ g. g.items) l.picked.items ++ lists_at (drop l.i-index l.order) (map (λ g. g.items) l.groups)
    ≡ lists_at l.order (map (λ g. g.items) l.groups)
