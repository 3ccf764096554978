use Rattle.std.proofs.Common.{◌≡◌}
use Rattle.std.specs.BTreeMap.{values}
use Rattle.ng_build.proofs.ControlSets.{begun_of}
use Rattle.ng_build.proofs.controls.begin_controls.Given as goal

abbrev pub invariant-loop-one : goal.invariant-loop-one
invariant-loop-one l = begun_of l.one-iterator l.controls.entries ≡ begun_of (values l.entered) l.initial.controls.entries
