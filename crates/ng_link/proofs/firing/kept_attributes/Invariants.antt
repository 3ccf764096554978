use Rattle.std.proofs.Common.{◌≡◌, [], drop, map}
use Rattle.ng_dom.specs.Drawing.{drawn_on}
use Rattle.ng_build.specs.Seen.{drawn_of}
use Rattle.ng_link.specs.State.{state_of, looks_in}
use Rattle.ng_link.proofs.firing.kept_attributes.Given as goal

abbrev pub invariant-loop-one : goal.invariant-loop-one
invariant-loop-one l =
    drawn_on (looks_in (state_of l.works)) (map drawn_of (drop l.one-index l.drawn)) l.attributes.entries ≡ drawn_on (looks_in (state_of l.works)) (map drawn_of l.drawn) []
