use Rattle.std.proofs.Common.{◌≡◌, ◌++◌, drop, map}
use Rattle.ng_settling.specs.Settling.{probe_text}
use Rattle.ng_parse.specs.ProgramOf.{program}
use Rattle.ng_settling.proofs.settling.probed.Given as goal

abbrev pub invariant-loop-p : goal.invariant-loop-p
invariant-loop-p l = l.words ++ map (probe_text l.core.store l.root.0) (map program (drop l.p-index l.p-items)) ≡ map (probe_text l.core.store l.root.0) (map program l.p-items)
