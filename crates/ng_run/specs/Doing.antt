-- What the code makes of the commands of a script, over a sink.
use Rattle.std.specs.Prelude.{◌≡◌, ℕ, Bool, List, [], ◌∷◌, take, Option, Result, Ok, Err}
use Rattle.std.specs.Io.KnownBytes.{Appends}
use Rattle.std.specs.List.{concat}
use Rattle.ng_base.specs.Outside.{TookAll, StopsAtFailure, Rose}
use Rattle.ng_page.specs.PageOf.{state_of}
use Rattle.ng_page.specs.declared.page.Page.{Page}
use Rattle.ng_script.specs.Acts.{Entry, entries_of}
use Rattle.ng_printing.specs.StepSeen.{step_seen}
use Rattle.ng_run.specs.ReplyOf.{LeavesPage}
use Rattle.ng_run.specs.Run.{Puts}
use Rattle.ng_run.specs.Session.{Extent, within, step_pieces, all_well, done}
use Rattle.ng_printing.specs.Left.{Left, Step}
use Rattle.ng_run.specs.Steps.{Does, Continues}
use Rattle.ng_run.specs.declared.doing.Halt.{Halt}
use Rattle.ng_run.specs.declared.doing.Halt.TheVariants as halt
use Rattle.ng_printing.specs.declared.reply.Lines.{Lines}
use Rattle.ng_printing.specs.declared.reply.Opened.{Opened}

-- a command was done on a page, and this is its step
abbrev pub IsStepOf : Bool → ℕ → Entry → Page → Lines → Page → Type 0
IsStepOf trace k e old l new = (next : Left) × Does trace k e (state_of old) (step_seen l) next × LeavesPage new next

-- the sink's count of faults rose where a put failed, and only there
abbrev pub FaultsBy : ℕ → ℕ → Result Bool Halt → Type 0
FaultsBy before now (Ok well) = now ≡ before
FaultsBy before now (Err halt.Put) = Rose before now
FaultsBy before now (Err halt.Memory) = now ≡ before

abbrev pub steps_bytes : List Step → List ℕ
steps_bytes ss = concat (step_pieces ss)

-- a command was done and its step was put whole, or not
abbrev pub DidOne : {K : Type 0} → (K → Option (List ℕ)) → (K → ℕ) → K → K → Bool → ℕ → Entry → Page → Page → Result Bool Halt → Type 0
DidOne taken faults old new trace k e before after (Ok well) =
    (step : Step) × (next : Left) × Does trace k e (state_of before) step next × Appends (taken old) (taken new) step.lines × (step.well ≡ well) × LeavesPage after next
DidOne taken faults old new trace k e before after (Err halt.Put) =
    (step : Step) × (next : Left) × Does trace k e (state_of before) step next × TookAll (taken old) (taken new) step.lines × StopsAtFailure taken faults old new step.lines
DidOne taken faults old new trace k e before after (Err halt.Memory) = Appends (taken old) (taken new) []

-- commands were done, and the step of each was put whole
pub record HasDone {K : Type 0} (taken : K → Option (List ℕ)) (old new : K) (trace : Bool) (es : List Entry) (left : Left) (page : Page) (well : Bool) : Type 0 where
  pub steps : List Step
  pub end : Left
  pub continues : Continues trace 1 es left steps end
  pub put : Appends (taken old) (taken new) (steps_bytes steps)
  pub good : all_well steps ≡ well
  pub leaves : LeavesPage page end

-- commands were done, and the put of a step failed
pub record HasStopped {K : Type 0} (taken : K → Option (List ℕ)) (faults : K → ℕ) (old new : K) (trace : Bool) (es : List Entry) (left : Left) : Type 0 where
  pub steps : List Step
  pub end : Left
  pub continues : Continues trace 1 es left steps end
  pub part : TookAll (taken old) (taken new) (steps_bytes steps)
  pub stops : StopsAtFailure taken faults old new (steps_bytes steps)

-- commands were done and the step of each was put whole, until memory was refused
pub record HasWanted {K : Type 0} (taken : K → Option (List ℕ)) (old new : K) (trace : Bool) (es : List Entry) (left : Left) : Type 0 where
  pub steps : List Step
  pub end : Left
  pub continues : Continues trace 1 es left steps end
  pub put : Appends (taken old) (taken new) (steps_bytes steps)

-- all commands were done, or the first of them
abbrev pub DidAll : {K : Type 0} → (K → Option (List ℕ)) → (K → ℕ) → K → K → Bool → List Entry → Left → Page → Result Bool Halt → Type 0
DidAll taken faults old new trace es left page (Ok well) = HasDone taken old new trace es left page well
DidAll taken faults old new trace es left page (Err halt.Put) = (n : ℕ) × HasStopped taken faults old new trace (take n es) left
DidAll taken faults old new trace es left page (Err halt.Memory) = (n : ℕ) × HasWanted taken old new trace (take n es) left

-- the steps of a page were written: all, or those of the first commands
abbrev pub WritesPage : {K : Type 0} → (K → Option (List ℕ)) → (K → ℕ) → K → K → ℕ → Option Page → Opened → Left → Type 0
WritesPage taken faults old new status page o left =
    (e : Extent) × (rest : List Step) × (end : Left) × Continues o.flags.trace 1 (within e (entries_of o.commands)) left rest end × Puts taken faults old new status page e (done (step_seen o.step ∷ rest) end)
