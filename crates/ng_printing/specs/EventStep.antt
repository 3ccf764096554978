-- The step of an event: its lines, and whether all went well in it.
use Rattle.std.specs.Prelude.{ℕ, Bool, List, ◌++◌, option_map}
use Rattle.std.specs.List.{flat_map, list_all}
use Rattle.ng_digest.specs.Early.{plain_answer}
use Rattle.ng_drawing.specs.Drawing.{Rendered}
use Rattle.ng_markup.specs.Forest.{Forest}
use Rattle.ng_page.specs.Dispatch.{Told, last_digest}
use Rattle.ng_printing.specs.Left.{Step, is_well}
use Rattle.ng_printing.specs.Lines.{Digest, action_line, told_lines, digest_line, probe_lines, last_line}

-- a digest as the lines tell it
abbrev pub plainly : Told → Digest
plainly o = option_map plain_answer o.digest

-- the lines of one handler and its digest, in order of happening
abbrev pub handler_lines : Bool → Told → List ℕ
handler_lines trace o = action_line o.count o.first ++ told_lines trace o.digest ++ digest_line (plainly o) ++ probe_lines o.probed

-- those of all, and then the document where the last digest answered Ok, or `idle` where none was made
abbrev pub event_lines : Bool → List Told → Rendered Forest → List ℕ
event_lines trace os document = flat_map (handler_lines trace) os ++ last_line (option_map plain_answer (last_digest os)) document

abbrev pub all_went_well : List Told → Bool
all_went_well os = list_all (λ o. is_well o.first (plainly o)) os

abbrev pub event_step : Bool → List ℕ → List Told → Rendered Forest → Step
event_step trace head os document = record { lines = head ++ event_lines trace os document; well = all_went_well os }
