-- Digests of a page, as their answers tell them.
use Rattle.std.specs.Prelude.{ℕ, ◌≡◌, Bool, true, false, List, [], Option, Some, None, Result, Ok, Err}
use Rattle.ng_base.specs.declared.path.Key.{Key}
use Rattle.ng_digest.specs.Log.{zero_log}
use Rattle.ng_digest.specs.Place.{Place}
use Rattle.ng_digest.specs.Plain.{Plain, PlainDigests}
use Rattle.ng_digest.specs.Short.{Digests}
use Rattle.ng_digest.specs.declared.log.Report.{Report}
use Rattle.ng_digest.specs.declared.rounds.DigestFault.{DigestFault}
use Rattle.ng_digest.specs.declared.world.Stage.TheVariants.{Between}
use Rattle.ng_link.specs.State as link
use Rattle.ng_page.specs.PageMachine.{State, page_machine, readied}

-- where a digest begins: nothing was counted, remembered or handed over yet
abbrev pub ready_place : link.State → Place State Key
ready_place s = record { state = readied s; cursor = None; remembered = None; log = zero_log; stage = Between }

-- a plain digest of a page ends so, with this answer and these texts of probes
abbrev pub PlainlyDigests : link.State → Result (ℕ × ℕ) DigestFault → List (List ℕ) → link.State → Type 0
PlainlyDigests s answer probed t = (end : Plain State) × PlainDigests page_machine (readied s) answer end × (t ≡ end.state.works) × (probed ≡ end.state.probed)

-- the short digest of a page, which counts its tests, ends so, with this answer
abbrev pub ShortlyDigests : link.State → Result Report DigestFault → link.State → Type 0
ShortlyDigests s answer t = (end : Place State Key) × Digests page_machine (ready_place s) answer end × (t ≡ end.state.works)

-- a digest is done where it is due, and only there
abbrev pub DigestsWhere : Bool → link.State → Option (Result (ℕ × ℕ) DigestFault) → List (List ℕ) → link.State → Type 0
DigestsWhere true s (Some answer) probed t = PlainlyDigests s answer probed t
DigestsWhere true s None probed t = ⊥
DigestsWhere false s (Some answer) probed t = ⊥
DigestsWhere false s None probed t = (t ≡ s) × (probed ≡ [])

abbrev pub ShortWhere : Bool → link.State → Option (Result Report DigestFault) → link.State → Type 0
ShortWhere true s (Some answer) t = ShortlyDigests s answer t
ShortWhere true s None t = ⊥
ShortWhere false s (Some answer) t = ⊥
ShortWhere false s None t = t ≡ s

-- what holds where a digest was done and answered Ok
abbrev pub WhenOk : Option (Result Report DigestFault) → Type 0 → Type 0
WhenOk None P = Unit {0}
WhenOk (Some (Ok r)) P = P
WhenOk (Some (Err f)) P = Unit {0}
