-- The commands of a script that was read are sound.
use Rattle.std.proofs.Common.{◌≡◌, ◌+◌, ℕ, true, List, [], ◌∷◌, ◌++◌, length, refl, subst, Option, Some, None}
use Rattle.std.specs.Prelude.{Result, Ok, Err, IfOk, if◌then◌else◌, is_some, nat_le}
use Rattle.std.specs.Str.{chars, is_utf8}
use Rattle.serde_json.specs.Data.{Data}
use Rattle.serde_json.specs.Find.{as_array}
use Rattle.ng_base.specs.Meets.{◌>>=◌, Gives}
use Rattle.ng_language.specs.Trees.{Trees}
use Rattle.ng_store.proofs.Sound.{all_append}
use Rattle.ng_evaluation.specs.Purity.{are_pure, all_filters_known}
use Rattle.ng_script.specs.Acts.{Act, Entry, entries_of, click_on, fire_at, type_into, check_at, eval_root, eval_at, emit_from, broadcast_from, queue_task, probe_root, destroy_scope, make_digest}
use Rattle.ng_script.specs.Commanding.{click_of, fire_of, typed_of, check_of, eval_of, at_of, event_of, emit_of, broadcast_of, async_of, probe_of, destroy_of, act_named, command_of}
use Rattle.ng_script.specs.Expressions.{spelled_in, with_known, program_of, pure_program_of}
use Rattle.ng_script.specs.Free.{is_free}
use Rattle.ng_script.specs.Json.{json_of, text_of, object_of, list_of}
use Rattle.ng_script.specs.Lines.{trimmed, lines}
use Rattle.ng_script.specs.Parts.{is_over, ended, next_target, next_scope, next_name, next_event, next_flag}
use Rattle.ng_script.specs.Scripts.{most, fault, is_skipped, entry, in_line, with_line, commands_from, ill_formed_line, script_of}
use Rattle.ng_script.specs.Verbs.{verb_named}
use Rattle.ng_script.specs.Words.{word, next_part}
use Rattle.ng_script.specs.declared.commands.ScopeOf.{ScopeOf}
use Rattle.ng_script.specs.declared.commands.Commands.{Commands}
use Rattle.ng_script.specs.declared.fault.ScriptFault.{ScriptFault}
use Rattle.ng_script.specs.declared.fault.ScriptKind.{ScriptKind}
use Rattle.ng_script.specs.declared.fault.ScriptKind.TheVariants as kinds
use Rattle.ng_script.specs.declared.verbs.Verb.{Verb}
use Rattle.ng_script.specs.declared.verbs.Verb.TheVariants as verb
use Rattle.ng_inputs.specs.Acts.{IsSound, AreSound}
use Rattle.ng_inputs.proofs.Holding.{after, any, tested, either}

-- ---- the parts of commands

abbrev IsPureProgram : Trees → Type 0
IsPureProgram p = (are_pure p ≡ true) × (all_filters_known p ≡ true)

abbrev IsKnown : Trees → Type 0
IsKnown p = all_filters_known p ≡ true

abbrev IsList : Data → Type 0
IsList d = is_some (as_array d) ≡ true

abbrev HasList : (ScopeOf × List ℕ × Data) → Type 0
HasList e = IsList e.2

known : (cs : List ℕ) → IfOk (program_of cs) IsKnown
known cs = any (spelled_in cs) with_known IsKnown (λ p. tested (all_filters_known p) p kinds.BadExpression IsKnown (λ e. e))

pure : (cs : List ℕ) → IfOk (pure_program_of cs) IsPureProgram
pure cs = after (program_of cs) (λ p. if are_pure p then Ok p else Err kinds.BadExpression) IsKnown IsPureProgram (known cs) (λ p k. tested (are_pure p) p kinds.BadExpression IsPureProgram (λ e. (e, k)))

a_list : (cs : List ℕ) → IfOk (list_of cs) IsList
a_list [] = refl
a_list (c ∷ cs) = any (json_of (c ∷ cs)) (λ d. if is_some (as_array d) then Ok d else Err kinds.BadArgument) IsList (λ d. tested (is_some (as_array d)) d kinds.BadArgument IsList (λ e. e))

event : (cs : List ℕ) → IfOk (event_of cs) HasList
event cs =
    any (next_scope cs) (λ s. next_name s.1 >>= λ n. list_of n.1 >>= λ d. Ok (s.0, n.0, d)) HasList (λ s.
    any (next_name s.1) (λ n. list_of n.1 >>= λ d. Ok (s.0, n.0, d)) HasList (λ n.
    after (list_of n.1) (λ d. Ok (s.0, n.0, d)) IsList HasList (a_list n.1) (λ d h. h)))

-- ---- commands

abbrev GivesSound : Result Act ScriptKind → Type 0
GivesSound r = IfOk r IsSound

over : (a : Act) (cs : List ℕ) → IsSound a → GivesSound (ended a cs)
over a cs h = tested (is_over cs) a kinds.BadArgument IsSound (λ e. h)

click : (cs : List ℕ) → GivesSound (click_of cs)
click cs = any (next_target cs) (λ t. ended (click_on t.0) t.1) IsSound (λ t. over (click_on t.0) t.1 tt)

fire : (cs : List ℕ) → GivesSound (fire_of cs)
fire cs =
    any (next_event cs) (λ e. next_target e.1 >>= λ t. object_of t.1 >>= λ d. Ok (fire_at e.0 t.0 d)) IsSound (λ e.
    any (next_target e.1) (λ t. object_of t.1 >>= λ d. Ok (fire_at e.0 t.0 d)) IsSound (λ t.
    any (object_of t.1) (λ d. Ok (fire_at e.0 t.0 d)) IsSound (λ d. tt)))

typed : (cs : List ℕ) → GivesSound (typed_of cs)
typed cs =
    any (next_target cs) (λ t. text_of t.1 >>= λ x. Ok (type_into t.0 x)) IsSound (λ t.
    any (text_of t.1) (λ x. Ok (type_into t.0 x)) IsSound (λ x. tt))

check : (cs : List ℕ) → GivesSound (check_of cs)
check cs =
    any (next_target cs) (λ t. next_flag t.1 >>= λ b. ended (check_at t.0 b.0) b.1) IsSound (λ t.
    any (next_flag t.1) (λ b. ended (check_at t.0 b.0) b.1) IsSound (λ b. over (check_at t.0 b.0) b.1 tt))

eval : (cs : List ℕ) → GivesSound (eval_of cs)
eval cs = any (program_of cs) (λ p. Ok (eval_root p)) IsSound (λ p. tt)

at : (cs : List ℕ) → GivesSound (at_of cs)
at cs =
    any (next_scope cs) (λ s. program_of s.1 >>= λ p. Ok (eval_at s.0 p)) IsSound (λ s.
    any (program_of s.1) (λ p. Ok (eval_at s.0 p)) IsSound (λ p. tt))

emit : (cs : List ℕ) → GivesSound (emit_of cs)
emit cs = after (event_of cs) (λ e. Ok (emit_from e.0 e.1 e.2)) HasList IsSound (event cs) (λ e h. h)

broadcast : (cs : List ℕ) → GivesSound (broadcast_of cs)
broadcast cs = after (event_of cs) (λ e. Ok (broadcast_from e.0 e.1 e.2)) HasList IsSound (event cs) (λ e h. h)

async : (cs : List ℕ) → GivesSound (async_of cs)
async cs = any (program_of cs) (λ p. Ok (queue_task p)) IsSound (λ p. tt)

probe : (cs : List ℕ) → GivesSound (probe_of cs)
probe cs = after (pure_program_of cs) (λ p. Ok (probe_root p)) IsPureProgram IsSound (pure cs) (λ p h. h)

destroy : (cs : List ℕ) → GivesSound (destroy_of cs)
destroy cs = any (next_scope cs) (λ s. ended (destroy_scope s.0) s.1) IsSound (λ s. over (destroy_scope s.0) s.1 tt)

named : (v : Option Verb) (cs : List ℕ) → GivesSound (act_named v cs)
named None cs = tt
named (Some verb.Click) cs = click cs
named (Some verb.Fire) cs = fire cs
named (Some verb.Typed) cs = typed cs
named (Some verb.Check) cs = check cs
named (Some verb.Eval) cs = eval cs
named (Some verb.At) cs = at cs
named (Some verb.Emit) cs = emit cs
named (Some verb.Broadcast) cs = broadcast cs
named (Some verb.Async) cs = async cs
named (Some verb.Probe) cs = probe cs
named (Some verb.Destroy) cs = destroy cs
named (Some verb.Digest) cs = over make_digest cs tt

command : (cs : List ℕ) → GivesSound (command_of cs)
command cs = named (verb_named (word cs)) (next_part cs)

-- ---- scripts

placed : (n : ℕ) (r : Result Act ScriptKind) → IfOk r IsSound → IfOk (in_line n r) IsSound
placed n (Ok a) h = h
placed n (Err k) h = tt

abbrev SoundEntry : Entry → Type 0
SoundEntry e = IsSound e.act

line : (n : ℕ) (before : List Entry) (l : List ℕ) → AreSound before → IfOk (with_line n before l) AreSound
line n before l h =
    let grown : IfOk (in_line n (command_of l) >>= λ a. Ok (before ++ entry n l a ∷ [])) AreSound =
    after (in_line n (command_of l)) (λ a. Ok (before ++ entry n l a ∷ [])) IsSound AreSound (placed n (command_of l) (command l))
    (λ a k. all_append SoundEntry before (entry n l a ∷ []) h (k, tt)) in
    let more = in_line n (command_of l) >>= λ a. Ok (before ++ entry n l a ∷ []) in
    either (is_skipped l) (Ok before) (if nat_le most (length before) then Err (fault n kinds.TooMany) else more) AreSound h
    (either (nat_le most (length before)) (Err (fault n kinds.TooMany)) more AreSound tt grown)

all_lines : (n : ℕ) (before : List Entry) (ls : List (List ℕ)) → AreSound before → IfOk (commands_from n before ls) AreSound
all_lines n before [] h = h
all_lines n before (l ∷ ls) h =
    after (with_line (n + 1) before (trimmed l)) (λ es. commands_from (n + 1) es ls) AreSound AreSound (line (n + 1) before (trimmed l) h) (λ es k. all_lines (n + 1) es ls k)

script : (bytes : List ℕ) → IfOk (script_of bytes) AreSound
script bytes = either (is_utf8 bytes) (commands_from 0 [] (lines (chars bytes))) (Err (fault (ill_formed_line bytes) kinds.Utf8)) AreSound (all_lines 0 [] (lines (chars bytes)) tt) tt

pub read_sound : (bytes : List ℕ) (es : List Entry) → script_of bytes ≡ Ok es → AreSound es
read_sound bytes es e = subst (λ (r : Result (List Entry) ScriptFault). IfOk r AreSound) e (script bytes)

pub commands_sound : (bytes : List ℕ) → IfOk (script_of bytes) AreSound
commands_sound bytes = script bytes

-- what the code has read
pub given_sound : (bytes : List ℕ) (r : Result Commands ScriptFault) → Gives is_free entries_of (script_of bytes) r → IfOk r (λ (cs : Commands). AreSound (entries_of cs))
given_sound bytes (Ok cs) e = read_sound bytes (entries_of cs) e
given_sound bytes (Err f) e = tt
