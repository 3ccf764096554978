use Rattle.std.proofs.Common.{◌≡◌, drop}
use Rattle.ng_template.specs.Around.{at_place, heads_from, heads_of, heads_onto}
use Rattle.ng_template.specs.AroundOf.{blocks_of, programs_of}
use Rattle.ng_template.proofs.around.push_heads.Given as goal

abbrev pub invariant-loop-pick : goal.invariant-loop-pick
invariant-loop-pick l =
    at_place l.place (heads_onto (blocks_of l.heads.items) (heads_from (programs_of l.starts.items) (drop l.pick-index l.picks))) ≡ at_place l.place (heads_onto (blocks_of l.initial.heads.items) (heads_of l.picks))
