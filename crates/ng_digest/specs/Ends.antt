-- Where a world stands at each of these ends, and what came after the rounds.
use Rattle.std.specs.Prelude.{ℕ, ◌≡◌, Some, None, Result, Ok, Err}
use Rattle.ng_digest.specs.declared.log.Report.{Report}
use Rattle.ng_digest.specs.declared.rounds.Found.{Found}
use Rattle.ng_digest.specs.declared.rounds.Found.TheVariants.{Nothing, Stopped, Fireable}
use Rattle.ng_digest.specs.declared.rounds.Walked.{Walked}
use Rattle.ng_digest.specs.declared.rounds.Walked.TheVariants as walk
use Rattle.ng_digest.specs.declared.rounds.RoundEnd.{RoundEnd}
use Rattle.ng_digest.specs.declared.rounds.RoundEnd.TheVariants as round
use Rattle.ng_digest.specs.declared.rounds.End.{End}
use Rattle.ng_digest.specs.declared.rounds.End.TheVariants.{Settled}
use Rattle.ng_digest.specs.declared.rounds.DigestFault.{DigestFault}
use Rattle.ng_digest.specs.declared.rounds.DigestFault.TheVariants as fault
use Rattle.ng_digest.specs.declared.world.Stage.{Stage}
use Rattle.ng_digest.specs.declared.world.Stage.TheVariants.{Between, Pending, Through, Calm}
use Rattle.ng_digest.specs.Log.{more32}
use Rattle.ng_digest.specs.Machine.{Machine}
use Rattle.ng_digest.specs.Place.{Place, posted}

abbrev pub StageFound : Found → Stage
StageFound Nothing = Through
StageFound Stopped = Through
StageFound Fireable = Pending

abbrev pub StageWalked : Walked → Stage
StageWalked walk.ToEnd = Through
StageWalked walk.Stopped = Through
StageWalked walk.Limit = Pending

abbrev pub StageRound : RoundEnd → Stage → Type 0
StageRound (round.Quiet cut) stage = stage ≡ Calm
StageRound round.Busy stage = stage ≡ Between
StageRound _ stage = Unit {0}

abbrev pub StageEnd : End → Stage → Type 0
StageEnd (Settled cut) stage = stage ≡ Calm
StageEnd _ stage = Unit {0}

-- a dirty round is counted
abbrev pub CountsRound : RoundEnd → ℕ → ℕ → Type 0
CountsRound round.Busy old new = new ≡ more32 old
CountsRound _ old new = new ≡ old

-- the answer once the rounds have settled: a fault that was handed over, or the report
abbrev pub Finishes : {S K : Type 0} → Machine S K → Place S K → Report → Result Report DigestFault → Place S K → Type 0
Finishes m p report (Ok r) q = (r ≡ report) × (q ≡ posted m p) × (m.handed (m.settled p.state) ≡ None)
Finishes m p report (Err (fault.Faulted first count)) q = (q ≡ posted m p) × (m.handed (m.settled p.state) ≡ Some (first, count))
Finishes m p report (Err (fault.Memory e)) q = Unit {0}
Finishes m p report (Err _) q = ⊥
