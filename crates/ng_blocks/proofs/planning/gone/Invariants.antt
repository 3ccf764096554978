use Rattle.std.proofs.Common.{◌≡◌, ◌++◌, drop}
use Rattle.std.specs.Prelude.{not}
use Rattle.ng_blocks.specs.Places.{places_from}
use Rattle.ng_blocks.specs.Plans.{is_among, gone_places}
use Rattle.ng_blocks.proofs.planning.gone.Given as goal

abbrev pub invariant-loop-i : goal.invariant-loop-i
invariant-loop-i l = l.numbers ++ places_from (λ k. not (is_among l.entries.keys k)) l.i (drop l.i l.rows) ≡ gone_places l.rows l.entries.keys
