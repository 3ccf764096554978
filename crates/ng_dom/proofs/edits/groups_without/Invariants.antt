use Rattle.std.proofs.Common.{◌≡◌, ◌++◌, drop, map}
use Rattle.ng_dom.specs.Removal.{each_but}
use Rattle.ng_dom.proofs.edits.groups_without.Given as goal

abbrev pub invariant-loop-group : goal.invariant-loop-group
invariant-loop-group l =
    map (λ g. g.items) l.kept.items ++ each_but l.n (map (λ g. g.items) (drop l.group-index l.groups))
    ≡ each_but l.n (map (λ g. g.items) l.groups)
