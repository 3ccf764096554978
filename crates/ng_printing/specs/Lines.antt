-- The lines that a step writes.
use Rattle.std.specs.Prelude.{ℕ, Bool, true, false, List, [], ◌++◌, Option, None, Some, Result, Ok, Err, codes, encode_utf8_all}
use Rattle.std.specs.List.{flat_map}
use Rattle.std.specs.Fmt.{decimal}
use Rattle.ng_base.specs.Faults.{fault_name}
use Rattle.ng_base.specs.declared.fault.Fault.{Fault}
use Rattle.ng_markup.specs.Forest.{Forest, text_char, print}
use Rattle.ng_digest.specs.declared.log.Report.{Report}
use Rattle.ng_digest.specs.declared.rounds.DigestFault.{DigestFault}
use Rattle.ng_digest.specs.declared.rounds.DigestFault.TheVariants as digest
use Rattle.ng_drawing.specs.Drawing.{Rendered}

-- the line that a step begins with: its number and its command
abbrev pub header : ℕ → List ℕ → List ℕ
header number command = codes "# " ++ decimal number ++ codes " " ++ encode_utf8_all command ++ codes "\n"

-- as many faults, of which this is the first
abbrev pub faults : ℕ → Fault → List ℕ
faults count f = decimal count ++ codes " " ++ fault_name f ++ codes "\n"

-- the line of programs that handed faults over
abbrev pub action_line : ℕ → Option Fault → List ℕ
action_line count None = []
action_line count (Some f) = codes "action: fault " ++ faults count f

-- what a digest that answered Ok took
abbrev pub trace_line : Report → List ℕ
trace_line r = codes "~ rounds " ++ decimal r.rounds ++ codes " fires " ++ decimal r.fires ++ codes " tests " ++ decimal r.tests ++ codes "\n"

-- the trace of a digest, where it is asked for
abbrev pub told_lines : Bool → Option (Result Report DigestFault) → List ℕ
told_lines false digest = []
told_lines true None = []
told_lines true (Some (Ok r)) = trace_line r
told_lines true (Some (Err f)) = []

-- the line of a digest that did not answer Ok
abbrev pub failed_line : DigestFault → List ℕ
failed_line digest.Infdig = codes "digest: infdig\n"
failed_line digest.FireLimit = codes "digest: firelimit\n"
failed_line digest.AsyncLimit = codes "digest: asynclimit\n"
failed_line (digest.Faulted first count) = codes "digest: fault " ++ faults count first
failed_line (digest.Memory m) = []

-- a digest of a step, if one was done: its rounds and fires, or why it did not succeed
abbrev pub Digest : Type 0
Digest = Option (Result (ℕ × ℕ) DigestFault)

abbrev pub digest_line : Digest → List ℕ
digest_line None = []
digest_line (Some (Ok counts)) = []
digest_line (Some (Err f)) = failed_line f

-- what a probe shows, as a text is printed
abbrev pub probe_line : List ℕ → List ℕ
probe_line t = codes "= " ++ encode_utf8_all (flat_map text_char t) ++ codes "\n"

abbrev pub probe_lines : List (List ℕ) → List ℕ
probe_lines ts = flat_map probe_line ts

-- a document on one line
abbrev pub print_line : Forest → List ℕ
print_line f = encode_utf8_all (print f) ++ codes "\n"

abbrev pub rendered_line : Rendered Forest → List ℕ
rendered_line (Ok (Some f)) = print_line f
rendered_line (Ok None) = []
rendered_line (Err e) = []

-- A step ends with the document where its digest answered Ok, and with the word `idle` where no digest was done.
abbrev pub last_line : Digest → Rendered Forest → List ℕ
last_line None f = codes "idle\n"
last_line (Some (Ok counts)) f = rendered_line f
last_line (Some (Err e)) f = []
