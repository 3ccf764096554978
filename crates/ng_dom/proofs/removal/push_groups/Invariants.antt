use Rattle.std.proofs.Common.{◌≡◌, ◌++◌, drop, map}
use Rattle.ng_dom.specs.Removal.{is_under, chosen_groups}
use Rattle.ng_dom.specs.Kept.{rooms_of}
use Rattle.ng_dom.proofs.removal.push_groups.Given as goal

abbrev pub invariant-loop-group : goal.invariant-loop-group
invariant-loop-group l =
    l.left.items ++ chosen_groups (is_under (rooms_of l.nodes) l.parent) (map (λ g. g.items) (drop l.group-index l.groups))
    ≡ l.initial.left.items ++ chosen_groups (is_under (rooms_of l.nodes) l.parent) (map (λ g. g.items) l.groups)
