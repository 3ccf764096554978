-- What a dispatch of the code stands for.
use Rattle.std.specs.Prelude.{◌≡◌, ◌++◌, List, [], ◌∷◌, Option, Some, None}
use Rattle.ng_link.specs.State as link
use Rattle.ng_link.specs.declared.works.Works.{Works}
use Rattle.ng_commands.specs.Handling.{Going}
use Rattle.ng_page.specs.Dispatch.{Told}
use Rattle.ng_page.specs.Dispatched.{told_all, UnlessFailed}
use Rattle.ng_commands.specs.Settled.{IsSettled}
use Rattle.ng_page.specs.declared.dispatching.Dispatch.{Dispatch}
use Rattle.ng_page.specs.declared.engine.Engine.{Engine}
use Rattle.ng_page.specs.declared.outcome.Outcome.{Outcome}
use Rattle.ng_commands.specs.HandlingOf.{going}

-- a dispatch goes on so, with what further handlers did
abbrev pub Goes : (List Told → Going → Type 0) → Dispatch → Dispatch → Works → Type 0
Goes On old new w = (os : List Told) × On os (going w new.event) × (told_all new.outcomes ≡ told_all old.outcomes ++ os)

-- where no handler ran nothing has changed
abbrev pub IsStill : Dispatch → Dispatch → Engine → Engine → Type 0
IsStill old new before after = (new.outcomes ≡ [] → (after ≡ before) × (new ≡ old))

-- the last of some outcomes
abbrev pub last_of : List Outcome → Option Outcome
last_of [] = None
last_of (o ∷ []) = Some o
last_of (o ∷ p ∷ os) = last_of (p ∷ os)

-- after the last handler that ran no watcher is dirty, unless its digest failed
abbrev pub LastIs : Option Outcome → link.State → Type 0
LastIs None s = Unit {0}
LastIs (Some o) s = UnlessFailed o.digest (IsSettled s)

abbrev pub LastSettled : List Outcome → link.State → Type 0
LastSettled os s = LastIs (last_of os) s
