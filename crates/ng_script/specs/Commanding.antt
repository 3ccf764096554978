-- What a line commands, or why it is refused: its parts from the left, and the first that is wrong.
use Rattle.std.specs.Prelude.{ℕ, List, Option, None, Some, Result, Ok, Err}
use Rattle.serde_json.specs.Data.{Data}
use Rattle.ng_base.specs.Meets.{◌>>=◌}
use Rattle.ng_script.specs.Acts.{Act, click_on, fire_at, type_into, check_at, eval_root, eval_at, emit_from, broadcast_from, queue_task, probe_root, destroy_scope, make_digest}
use Rattle.ng_script.specs.Expressions.{program_of, pure_program_of}
use Rattle.ng_script.specs.Json.{text_of, object_of, list_of}
use Rattle.ng_script.specs.Parts.{ended, next_target, next_scope, next_name, next_event, next_flag}
use Rattle.ng_script.specs.Verbs.{verb_named}
use Rattle.ng_script.specs.Words.{word, next_part}
use Rattle.ng_script.specs.declared.commands.ScopeOf.{ScopeOf}
use Rattle.ng_script.specs.declared.fault.ScriptKind.{ScriptKind}
use Rattle.ng_script.specs.declared.fault.ScriptKind.TheVariants as kinds
use Rattle.ng_script.specs.declared.verbs.Verb.{Verb}
use Rattle.ng_script.specs.declared.verbs.Verb.TheVariants as verb

abbrev pub click_of : List ℕ → Result Act ScriptKind
click_of cs = next_target cs >>= λ t. ended (click_on t.0) t.1

abbrev pub fire_of : List ℕ → Result Act ScriptKind
fire_of cs = next_event cs >>= λ e. next_target e.1 >>= λ t. object_of t.1 >>= λ d. Ok (fire_at e.0 t.0 d)

abbrev pub typed_of : List ℕ → Result Act ScriptKind
typed_of cs = next_target cs >>= λ t. text_of t.1 >>= λ x. Ok (type_into t.0 x)

abbrev pub check_of : List ℕ → Result Act ScriptKind
check_of cs = next_target cs >>= λ t. next_flag t.1 >>= λ b. ended (check_at t.0 b.0) b.1

abbrev pub eval_of : List ℕ → Result Act ScriptKind
eval_of cs = program_of cs >>= λ p. Ok (eval_root p)

abbrev pub at_of : List ℕ → Result Act ScriptKind
at_of cs = next_scope cs >>= λ s. program_of s.1 >>= λ p. Ok (eval_at s.0 p)

-- the scope, the name and the arguments of an event
abbrev pub event_of : List ℕ → Result (ScopeOf × List ℕ × Data) ScriptKind
event_of cs = next_scope cs >>= λ s. next_name s.1 >>= λ n. list_of n.1 >>= λ d. Ok (s.0, n.0, d)

abbrev pub emit_of : List ℕ → Result Act ScriptKind
emit_of cs = event_of cs >>= λ e. Ok (emit_from e.0 e.1 e.2)

abbrev pub broadcast_of : List ℕ → Result Act ScriptKind
broadcast_of cs = event_of cs >>= λ e. Ok (broadcast_from e.0 e.1 e.2)

abbrev pub async_of : List ℕ → Result Act ScriptKind
async_of cs = program_of cs >>= λ p. Ok (queue_task p)

abbrev pub probe_of : List ℕ → Result Act ScriptKind
probe_of cs = pure_program_of cs >>= λ p. Ok (probe_root p)

abbrev pub destroy_of : List ℕ → Result Act ScriptKind
destroy_of cs = next_scope cs >>= λ s. ended (destroy_scope s.0) s.1

-- what a command with this word does, where that stands after the word
abbrev pub act_named : Option Verb → List ℕ → Result Act ScriptKind
act_named None cs = Err kinds.UnknownCommand
act_named (Some verb.Click) cs = click_of cs
act_named (Some verb.Fire) cs = fire_of cs
act_named (Some verb.Typed) cs = typed_of cs
act_named (Some verb.Check) cs = check_of cs
act_named (Some verb.Eval) cs = eval_of cs
act_named (Some verb.At) cs = at_of cs
act_named (Some verb.Emit) cs = emit_of cs
act_named (Some verb.Broadcast) cs = broadcast_of cs
act_named (Some verb.Async) cs = async_of cs
act_named (Some verb.Probe) cs = probe_of cs
act_named (Some verb.Destroy) cs = destroy_of cs
act_named (Some verb.Digest) cs = ended make_digest cs

-- what a line commands
abbrev pub command_of : List ℕ → Result Act ScriptKind
command_of cs = act_named (verb_named (word cs)) (next_part cs)
