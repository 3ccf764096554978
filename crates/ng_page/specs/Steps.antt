-- The steps of a page: its opening, and what each command does to it.
use Rattle.std.specs.Prelude.{ℕ, ◌≡◌, List, Option, Result}
use Rattle.ng_app.specs.App.{Facts}
use Rattle.ng_base.specs.declared.fault.Fault.{Fault}
use Rattle.ng_behaviour.specs.Scopes.{live_at}
use Rattle.ng_digest.specs.declared.log.Report.{Report}
use Rattle.ng_digest.specs.declared.rounds.DigestFault.{DigestFault}
use Rattle.ng_drawing.specs.Template.{Template}
use Rattle.ng_link.specs.State as link
use Rattle.ng_page.specs.Answered.{DigestsWhere, ShortWhere}
use Rattle.ng_commands.specs.Commands.{Asked, begun, asked_run}
use Rattle.ng_page.specs.Opening.{opening}

-- What a step did: how many faults its program handed over, and the first; the answer of its digest, which is none where no
-- digest was due; and the texts of the probes.
pub record Outcome : Type 0 where
  pub count : ℕ
  pub first : Option Fault
  pub digest : Option (Result (ℕ × ℕ) DigestFault)
  pub probed : List (List ℕ)

-- From what the program left, the step ends so. A digest is due where the root lives then, and counts its faults anew.
pub record Ends (s : link.State) (o : Outcome) (t : link.State) : Type 0 where
  pub count : o.count ≡ s.core.handed.count
  pub first : o.first ≡ s.core.handed.first
  pub digest : DigestsWhere (live_at s.core.scopes 0) s o.digest o.probed t

-- the same by the digest that stops early: its tests are counted
abbrev pub EndsShort : link.State → Option (Result Report DigestFault) → link.State → Type 0
EndsShort s answer t = ShortWhere (live_at s.core.scopes 0) s answer t

-- a command that is not idle
abbrev pub Steps : Asked → link.State → Outcome → link.State → Type 0
Steps a s o t = Ends (asked_run a (begun s)) o t

abbrev pub StepsShort : Asked → link.State → Option (Result Report DigestFault) → link.State → Type 0
StepsShort a s answer t = EndsShort (asked_run a (begun s)) answer t

-- the step that opens a page
abbrev pub Opens : Facts → Template → Outcome → link.State → Type 0
Opens f x o t = Ends (opening f x) o t

abbrev pub OpensShort : Facts → Template → Option (Result Report DigestFault) → link.State → Type 0
OpensShort f x answer t = EndsShort (opening f x) answer t
