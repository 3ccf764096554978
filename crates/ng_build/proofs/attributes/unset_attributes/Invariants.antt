use Rattle.std.proofs.Common.{◌≡◌, drop, map}
use Rattle.ng_dom.specs.Drawing.{drawn_on, drawn_attributes}
use Rattle.ng_build.specs.Building.{unset}
use Rattle.ng_build.specs.Seen.{drawn_of}
use Rattle.ng_build.proofs.attributes.unset_attributes.Given as goal

abbrev pub invariant-loop-one : goal.invariant-loop-one
invariant-loop-one l = drawn_on unset (map drawn_of (drop l.one-index l.drawn)) l.attributes.entries ≡ drawn_attributes unset (map drawn_of l.drawn)
