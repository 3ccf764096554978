use Rattle.std.proofs.Common.{◌≡◌, drop, map}
use Rattle.std.specs.List.{list_any}
use Rattle.ng_dom.specs.Drawing.{is_hiding}
use Rattle.ng_build.specs.Seen.{hiding_of}
use Rattle.ng_link.specs.State.{state_of, looks_in}
use Rattle.ng_link.proofs.looks.is_hidden.Given as goal

abbrev pub invariant-loop-hiding : goal.invariant-loop-hiding
invariant-loop-hiding l =
    list_any (is_hiding (looks_in (state_of l.works))) (map hiding_of (drop l.hiding-index l.hidings)) ≡ list_any (is_hiding (looks_in (state_of l.works))) (map hiding_of l.hidings)
