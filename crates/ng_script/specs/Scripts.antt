-- A script: the commands of its lines, or the first refusal.
use Rattle.std.specs.Prelude.{ℕ, ◌+◌, ◌==◌, ◌&&◌, nat_le, Bool, true, false, List, [], ◌∷◌, ◌++◌, length, take, count_by, Result, Ok, Err, if◌then◌else◌}
use Rattle.std.specs.Str.{chars, is_utf8}
use Rattle.std.specs.Str.Lossy.{utf8_valid_len}
use Rattle.ng_base.specs.Codes.{line_feed, slash}
use Rattle.ng_base.specs.Meets.{◌>>=◌}
use Rattle.ng_script.specs.Acts.{Act, Entry}
use Rattle.ng_script.specs.Commanding.{command_of}
use Rattle.ng_script.specs.Lines.{trimmed, lines}
use Rattle.ng_script.specs.declared.fault.ScriptFault.{ScriptFault}
use Rattle.ng_script.specs.declared.fault.ScriptKind.{ScriptKind}
use Rattle.ng_script.specs.declared.fault.ScriptKind.TheVariants as kinds

-- the most commands that a script may have
abbrev pub most : ℕ
most = 100000

abbrev pub fault : ℕ → ScriptKind → ScriptFault
fault n k = record { line = n; kind = k }

abbrev pub begins_slash : List ℕ → Bool
begins_slash [] = false
begins_slash (c ∷ cs) = c == slash

-- an empty line, and one that begins with `//`, is skipped
abbrev pub is_skipped : List ℕ → Bool
is_skipped [] = true
is_skipped (c ∷ cs) = c == slash && begins_slash cs

abbrev pub entry : ℕ → List ℕ → Act → Entry
entry n l a = record { line = n; shown = l; act = a }

-- a refusal stands in its line
abbrev pub in_line : {A : Type 0} → ℕ → Result A ScriptKind → Result A ScriptFault
in_line n (Ok x) = Ok x
in_line n (Err k) = Err (fault n k)

-- the commands with that of one line more, which has this number and these characters
abbrev pub with_line : ℕ → List Entry → List ℕ → Result (List Entry) ScriptFault
with_line n done l =
    if is_skipped l then Ok done
    else if nat_le most (length done) then Err (fault n kinds.TooMany)
    else (in_line n (command_of l) >>= λ a. Ok (done ++ entry n l a ∷ []))

-- the commands of lines, after those that were read from so many lines before
abbrev pub commands_from : ℕ → List Entry → List (List ℕ) → Result (List Entry) ScriptFault
commands_from n done [] = Ok done
commands_from n done (l ∷ ls) = with_line (n + 1) done (trimmed l) >>= λ es. commands_from (n + 1) es ls

-- the number of the line in which bytes stop being UTF-8
abbrev pub ill_formed_line : List ℕ → ℕ
ill_formed_line bytes = count_by (λ b. b == line_feed) (take (utf8_valid_len bytes) bytes) + 1

-- the commands of a file, or its one refusal
abbrev pub script_of : List ℕ → Result (List Entry) ScriptFault
script_of bytes = if is_utf8 bytes then commands_from 0 [] (lines (chars bytes)) else Err (fault (ill_formed_line bytes) kinds.Utf8)
