use Rattle.std.proofs.Common.{◌+◌, ◌*◌, ◌^◌, vec_len}
use Rattle.ng_dom.specs.Records.{live_in}
use Rattle.ng_dom.specs.Removal.{Taking}
use Rattle.ng_dom.specs.Kept.{rooms_of, Loses}
use Rattle.ng_dom.proofs.removal.take_away.Given as goal

abbrev pub decreases-loop-n : goal.decreases-loop-n
decreases-loop-n l = 2 ^ 64 * live_in l.nodes + vec_len l.left

abbrev pub invariant-loop-n : goal.invariant-loop-n
invariant-loop-n l = record { taking : Taking l.fn.names.items (rooms_of l.initial.nodes) (rooms_of l.nodes) l.left.items; loses : Loses l.initial.nodes l.nodes }
