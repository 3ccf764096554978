use Rattle.std.proofs.Common.{◌≡◌, ◌+◌, ◌≤◌, drop}
use Rattle.ng_collect.specs.Refused.{claimants}
use Rattle.ng_collect.proofs.refusing.claimants.Given as goal

abbrev pub invariant-loop-p : goal.invariant-loop-p
invariant-loop-p l = record {
  count : l.n + claimants l.claim l.defs (drop l.p-index l.picks) ≡ claimants l.claim l.defs l.picks;
  few : l.n ≤ l.p-index;
}
