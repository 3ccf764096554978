-- What a run writes, answers and leaves.
use Rattle.std.specs.Prelude.{ℕ, ◌≡◌, ◌≢◌, ◌⊎◌, ◌↔◌, Bool, true, false, List, [], Option, None, Some, Ok, Err}
use Rattle.std.specs.Io.KnownBytes.{Appends}
use Rattle.ng_base.specs.Outside.{TookAll, StopsAtFailure}
use Rattle.ng_page.specs.declared.page.Page.{Page}
use Rattle.ng_inputs.specs.Files.{Inputs, Telling, run_files, files_of, no_inputs, Tells, FetchFailed, LongFile, HasLong}
use Rattle.ng_inputs.specs.Refusals.{Accepted, accepted, refusal_status}
use Rattle.ng_run.specs.ReplyOf.{Leaves}
use Rattle.ng_run.specs.Session.{Reply, reply_bytes, Extent, whole, Session, all_well}
use Rattle.ng_printing.specs.Left.{Left, Step}
use Rattle.ng_run.specs.Steps.{RunsSteps}
use Rattle.ng_words.specs.Words.{Words}
use Rattle.ng_inputs.specs.declared.refusal.Refusal.{Refusal}

-- What became of a reply, over as much of the script as was done. Its pieces were put one by one, whole unless a put failed, and
-- after the put that failed there was none.
pub record Puts {K : Type 0} (taken : K → Option (List ℕ)) (faults : K → ℕ) (old new : K) (status : ℕ) (page : Option Page) (e : Extent) (r : Reply) : Type 0 where
  pub part : TookAll (taken old) (taken new) (reply_bytes r)
  pub bytes : status ≢ 7 → Appends (taken old) (taken new) (reply_bytes r)
  pub stopped : status ≡ 7 → StopsAtFailure taken faults old new (reply_bytes r)
  -- where no put failed and memory was not refused, all of it was done
  pub extent : status ≢ 7 → status ≢ 8 → e ≡ whole
  pub answer : status ≢ 7 → status ≢ 8 → status ≡ r.status
  pub left : status ≢ 7 → status ≢ 8 → Leaves page r.page

-- what was written is what the words and files call for
abbrev pub Writes : {K : Type 0} → (K → Option (List ℕ)) → (K → ℕ) → K → K → ℕ → Option Page → (Extent → Reply → Type 0) → Type 0
Writes taken faults old new status page Calls = (e : Extent) × (r : Reply) × Calls e r × Puts taken faults old new status page e r

-- nothing was written, or whole steps
abbrev pub WritesSteps : {K : Type 0} → (K → Option (List ℕ)) → (K → ℕ) → K → K → ℕ → Option Page → (Extent → Reply → Type 0) → Type 0
WritesSteps taken faults old new status page Calls = Appends (taken old) (taken new) [] ⊎ Writes taken faults old new status page Calls

abbrev pub is_traced : Option Words → Bool
is_traced None = false
is_traced (Some w) = w.flags.trace

-- the words are of the form, and the shelf tells their files, of which none is too long
abbrev pub TellsAll : Option Words → Telling → Inputs → Type 0
TellsAll None told i = ⊥
TellsAll (Some w) told i = Tells told no_inputs (files_of w) i

-- Of the session of these files the first bytes were written; where no put failed and memory was not refused, the whole.
pub record IsSession {K : Type 0} (taken : K → Option (List ℕ)) (old new : K) (status : ℕ) (page : Option Page) (trace : Bool) (i : Inputs) : Type 0 where
  pub part : (r : Reply) → Session trace i r → TookAll (taken old) (taken new) (reply_bytes r)
  pub whole : status ≢ 7 → status ≢ 8 → (r : Reply) × Session trace i r × Appends (taken old) (taken new) (reply_bytes r) × (status ≡ r.status) × Leaves page r.page

-- where no fetch failed and the shelf tells the files, the run is their session
abbrev pub RunsSession : {K : Type 0} → (K → Option (List ℕ)) → K → K → ℕ → Option Page → Option Words → Telling → List (List ℕ) → List (List ℕ) → Type 0
RunsSession taken old new status page words told before now = (i : Inputs) → TellsAll words told i → now ≡ before → IsSession taken old new status page (is_traced words) i

-- the steps of a page: all went well in them, or not
abbrev pub StepsEnd : Bool → Bool → Accepted → Type 0
StepsEnd well trace a = (steps : List Step) × (end : Left) × RunsSteps trace a steps end × (all_well steps ≡ well)

-- 3, 4 and 5 come exactly where a file is refused, and 0 and 1 where all are accepted: 1 exactly where some step has an `action:`, `digest:` or `target:` line
pub record SessionCauses (trace : Bool) (i : Inputs) (status : ℕ) : Type 0 where
  pub refused : (f : Refusal) → accepted i ≡ Err f → status ≡ refusal_status f
  pub opened : (a : Accepted) → accepted i ≡ Ok a → (status ≡ 0) ⊎ (status ≡ 1)
  pub well : (a : Accepted) → accepted i ≡ Ok a → (status ≡ 0) ↔ StepsEnd true trace a
  pub faulted : (a : Accepted) → accepted i ≡ Ok a → (status ≡ 1) ↔ StepsEnd false trace a

-- each status but 7 and 8 has its cause
pub record Causes (words : Option Words) (told : Telling) (before now : List (List ℕ)) (status : ℕ) : Type 0 where
  -- 2 exactly where the words are not of the form
  pub usage : (status ≡ 2) ↔ (words ≡ None)
  -- 6 exactly where the list of failures grew by the name of one of the files
  pub unread : (status ≡ 6) ↔ FetchFailed (run_files words) before now
  -- 9 only where the first file that doesn't come is too long, and wherever the shelf tells that it is
  pub overlong : status ≡ 9 → LongFile told (run_files words)
  pub long : HasLong told (run_files words) → now ≡ before → status ≡ 9
  -- the others by what the files are
  pub session : (i : Inputs) → TellsAll words told i → now ≡ before → SessionCauses (is_traced words) i status

-- a page is handed back exactly where the status is 0 or 1
abbrev pub HasPage : ℕ → Option Page → Type 0
HasPage status None = (status ≢ 0) × (status ≢ 1)
HasPage status (Some p) = (status ≡ 0) ⊎ (status ≡ 1)
