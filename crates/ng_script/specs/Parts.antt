-- The parts of a command, from the left: each gives what it means and what stands after it.
use Rattle.std.specs.Prelude.{ℕ, Bool, true, false, List, [], ◌∷◌, codes, Result, Ok, Err, if◌then◌else◌}
use Rattle.std.specs.Str.{bytes_eq}
use Rattle.ng_base.specs.Meets.{◌>>=◌}
use Rattle.ng_base.specs.declared.path.Target.{Target}
use Rattle.ng_script.specs.Words.{word, next_part}
use Rattle.ng_script.specs.Verbs.{is_event, flag_named}
use Rattle.ng_script.specs.Targets.{target_of}
use Rattle.ng_script.specs.Json.{or_bad_argument}
use Rattle.ng_script.specs.declared.commands.ScopeOf.{ScopeOf}
use Rattle.ng_script.specs.declared.commands.ScopeOf.TheVariants as scope
use Rattle.ng_script.specs.declared.fault.ScriptKind.{ScriptKind}
use Rattle.ng_script.specs.declared.fault.ScriptKind.TheVariants as kinds

-- what a part means, and what stands after it
abbrev pub PartRead : Type 0 → Type 0
PartRead A = Result (A × List ℕ) ScriptKind

abbrev pub is_over : List ℕ → Bool
is_over [] = true
is_over (c ∷ cs) = false

-- nothing more may stand there
abbrev pub ended : {A : Type 0} → A → List ℕ → Result A ScriptKind
ended a cs = if is_over cs then Ok a else Err kinds.BadArgument

abbrev pub next_target : List ℕ → PartRead Target
next_target cs = if is_over cs then Err kinds.BadArgument else (target_of (word cs) >>= λ t. Ok (t, next_part cs))

-- the scope that a word names
abbrev pub scope_of : List ℕ → Result ScopeOf ScriptKind
scope_of w = if bytes_eq w (codes "root") then Ok scope.Root else (target_of w >>= λ t. Ok (scope.Node t))

abbrev pub next_scope : List ℕ → PartRead ScopeOf
next_scope cs = if is_over cs then Err kinds.BadArgument else (scope_of (word cs) >>= λ s. Ok (s, next_part cs))

abbrev pub next_name : List ℕ → PartRead (List ℕ)
next_name cs = if is_over cs then Err kinds.BadArgument else Ok (word cs, next_part cs)

abbrev pub next_event : List ℕ → PartRead (List ℕ)
next_event cs =
    if is_over cs then Err kinds.BadArgument
    else if is_event (word cs) then Ok (word cs, next_part cs)
    else Err kinds.UnknownCommand

abbrev pub next_flag : List ℕ → PartRead Bool
next_flag cs = or_bad_argument (flag_named (word cs)) >>= λ b. Ok (b, next_part cs)
