use Rattle.std.proofs.Common.{◌≡◌, map}
use Rattle.ng_dom.proofs.printing.attrs_of.Given as goal

abbrev pub invariant-loop-name : goal.invariant-loop-name
invariant-loop-name l = l.attrs ≡ map (λ e. (e.0.now, e.1.now)) l.yielded
