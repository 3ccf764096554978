-- What a run writes, and its status.
use Rattle.std.specs.Prelude.{ℕ, ◌≡◌, Bool, List, [], ◌∷◌, ◌++◌, map, take, Option, None, Some, Result, Ok, Err, codes, if◌then◌else◌}
use Rattle.std.specs.List.{concat, list_all}
use Rattle.std.specs.Fmt.{decimal}
use Rattle.ng_script.specs.Acts.{Entry}
use Rattle.ng_inputs.specs.Files.{File, Inputs, Telling, Fetched, brought, unread, overlong, Fetches, files_of, no_inputs, role_name, first_role}
use Rattle.ng_inputs.specs.Refusals.{Accepted, accepted, refusal_status, refusal_text}
use Rattle.ng_printing.specs.Left.{Left, Step}
use Rattle.ng_run.specs.Steps.{RunsSteps}
use Rattle.ng_words.specs.Words.{Words}
use Rattle.ng_inputs.specs.declared.files.Role.{Role}
use Rattle.ng_inputs.specs.declared.refusal.Refusal.{Refusal}

-- a status, the pieces that are written, and the page
pub record Reply : Type 0 where
  pub status : ℕ
  pub pieces : List (List ℕ)
  pub page : Option Left

abbrev pub reply_bytes : Reply → List ℕ
reply_bytes r = concat r.pieces

-- a reply of one line
abbrev pub line : ℕ → List ℕ → Reply
line status t = record { status = status; pieces = (t ++ codes "\n") ∷ []; page = None }

abbrev pub refused : Refusal → Reply
refused f = line (refusal_status f) (refusal_text f)

-- the status is read off the steps
abbrev pub all_well : List Step → Bool
all_well ss = list_all (λ (s : Step). s.well) ss

abbrev pub steps_status : List Step → ℕ
steps_status ss = if all_well ss then 0 else 1

abbrev pub step_pieces : List Step → List (List ℕ)
step_pieces ss = map (λ (s : Step). s.lines) ss

-- each step is a piece
abbrev pub done : List Step → Left → Reply
done steps left = record { status = steps_status steps; pieces = step_pieces steps; page = Some left }

-- how much of a script is done: all of it, or its first commands alone
pub data Extent : Type 0 where
  whole : Extent
  first : ℕ → Extent

abbrev pub within : Extent → List Entry → List Entry
within whole es = es
within (first n) es = take n es

-- the page is opened, and so much of the script is done
abbrev pub Runs : Extent → Bool → Accepted → Reply → Type 0
Runs e trace a r = (steps : List Step) × (end : Left) × RunsSteps trace (record a { commands = within e a.commands }) steps end × (r ≡ done steps end)

abbrev pub SessionOf : Extent → Bool → Result Accepted Refusal → Reply → Type 0
SessionOf e trace (Ok a) r = Runs e trace a r
SessionOf e trace (Err f) r = r ≡ refused f

-- The session is the first refusal's line, or the steps of the page.
abbrev pub SessionWithin : Extent → Bool → Inputs → Reply → Type 0
SessionWithin e trace i r = SessionOf e trace (accepted i) r

abbrev pub Session : Bool → Inputs → Reply → Type 0
Session trace i r = SessionWithin whole trace i r

abbrev pub usage : Reply
usage = line 2 (codes "usage: ngrun [--trace] [--patches] [--static] TEMPLATE APP [SCRIPT] or ngrun --load N")

abbrev pub read_line : List File → File → Reply
read_line files f = line 6 (codes "read: " ++ role_name (first_role f.name files f.role))

abbrev pub long_line : Role → ℕ → Reply
long_line role n = line 9 (codes "long: " ++ role_name role ++ codes " " ++ decimal n)

abbrev pub FetchedReply : Extent → Bool → List File → Fetched → Reply → Type 0
FetchedReply e trace files (brought i) r = SessionWithin e trace i r
FetchedReply e trace files (unread f) r = r ≡ read_line files f
FetchedReply e trace files (overlong role n) r = r ≡ long_line role n

-- the reply to files, over a shelf that tells these bytes and whose list of failures grows: the line of the first that doesn't come, or their session
abbrev pub FilesReply : Extent → Bool → List File → Telling → List (List ℕ) → List (List ℕ) → Reply → Type 0
FilesReply e trace files told before now r = (end : Fetched) × Fetches told no_inputs files before now end × FetchedReply e trace files end r

-- The reply to words: the line on their form, or what their files call for.
abbrev pub Replies : Extent → Option Words → Telling → List (List ℕ) → List (List ℕ) → Reply → Type 0
Replies e None told before now r = (now ≡ before) × (r ≡ usage)
Replies e (Some w) told before now r = FilesReply e w.flags.trace (files_of w) told before now r
