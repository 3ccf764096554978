use Rattle.std.proofs.Common.{◌≡◌, drop}
use Rattle.std.specs.List.{list_any}
use Rattle.ng_directives.specs.Kinds.{is_trim_off}
use Rattle.ng_directives.proofs.kinds.trims.Given as goal

abbrev pub invariant-loop-pick : goal.invariant-loop-pick
invariant-loop-pick l = list_any is_trim_off (drop l.pick-index l.picks) ≡ list_any is_trim_off l.picks
