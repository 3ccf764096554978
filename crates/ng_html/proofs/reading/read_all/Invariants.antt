use Rattle.std.proofs.Common.{◌≡◌, length}
use Rattle.ng_html.specs.Reading.{read_on}
use Rattle.ng_html.specs.TreeSeen.{state_of}
use Rattle.ng_html.proofs.reading.read_all.Given as goal

abbrev pub invariant-loop-c : goal.invariant-loop-c
invariant-loop-c l = read_on l.total (state_of l.built) l.places l.reader ≡ read_on l.initial.total (state_of l.initial.built) l.initial.places l.initial.reader

abbrev pub decreases-loop-c : goal.decreases-loop-c
decreases-loop-c l = length l.reader
