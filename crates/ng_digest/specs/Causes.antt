-- The causes of a digest's answers, by the log and by where the world stands then.
use Rattle.std.specs.Prelude.{ℕ, ◌≡◌, true, Option, Result, Err}
use Rattle.ng_base.specs.declared.fault.Fault.{Fault}
use Rattle.ng_digest.specs.declared.log.Log.{Log}
use Rattle.ng_digest.specs.declared.log.Report.{Report}
use Rattle.ng_digest.specs.declared.rounds.DigestFault.{DigestFault}
use Rattle.ng_digest.specs.declared.rounds.DigestFault.TheVariants as fault
use Rattle.ng_digest.specs.declared.world.Stage.TheVariants.{Draining, Pending, Over}
use Rattle.ng_digest.specs.Machine.{Machine}
use Rattle.ng_digest.specs.Place.{Place, WhenWorn}

-- what holds unless memory was wanted
abbrev pub Unless : Result Report DigestFault → Type 0 → Type 0
Unless (Err (fault.Memory e)) c = Unit {0}
Unless _ c = c

-- a million fires were made, and the last test was dirty and wasn't fired
abbrev pub IsOverFires : {S K : Type 0} → Place S K → Type 0
IsOverFires p = (p.log.fires ≡ 1000000) × (p.stage ≡ Pending)

-- ten thousand tasks ran, and before the cursor moved in this round another waits
abbrev pub IsOverTasks : {S K : Type 0} → Machine S K → Place S K → Type 0
IsOverTasks m p = (p.log.tasks ≡ 10000) × (p.stage ≡ Draining) × (m.waits p.state ≡ true)

-- the rounds have settled, and that was handed over
abbrev pub HasSettled : {S K : Type 0} → Machine S K → Option (Fault × ℕ) → Place S K → Type 0
HasSettled m faults p = (p.stage ≡ Over) × (m.handed p.state ≡ faults)

-- the rounds, fires and tests are those of the log
abbrev pub IsReport : Report → Log → Type 0
IsReport r l = (r.rounds ≡ l.rounds) × (r.fires ≡ l.fires) × (r.tests ≡ l.tests)

-- what holds where a digest answers that a counter stands at its last value
abbrev pub WhereWorn : Result Report DigestFault → Type 0 → Type 0
WhereWorn (Err (fault.Memory e)) c = WhenWorn e c
WhereWorn _ c = Unit {0}
