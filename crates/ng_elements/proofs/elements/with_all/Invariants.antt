use Rattle.std.proofs.Common.{◌≡◌, drop}
use Rattle.ng_directives.specs.Directives.{with_picks}
use Rattle.ng_elements.specs.HeadOf.{head_of}
use Rattle.ng_elements.proofs.elements.with_all.Given as goal

abbrev pub invariant-loop-pick : goal.invariant-loop-pick
invariant-loop-pick l = with_picks l.place (drop l.pick-index l.picks) (head_of l.made) ≡ with_picks l.place l.picks (head_of l.initial.made)
