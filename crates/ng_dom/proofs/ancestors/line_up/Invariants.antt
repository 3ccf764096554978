use Rattle.std.proofs.Common.{◌≡◌, ◌++◌, ◌∷◌, ◌-◌}
use Rattle.ng_dom.specs.Ancestors.{parent_in, outer_line}
use Rattle.ng_dom.specs.Kept.{rooms_of}
use Rattle.ng_dom.proofs.ancestors.line_up.Given as goal

abbrev pub invariant-loop-i : goal.invariant-loop-i
invariant-loop-i l =
    l.line.items ++ outer_line (l.steps - l._i) (rooms_of l.nodes) l.next
    ≡ l.fn.n ∷ outer_line l.steps (rooms_of l.nodes) (parent_in (rooms_of l.nodes) l.fn.n)
