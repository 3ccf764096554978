-- The programs of an application: what its entries spell.
use Rattle.std.specs.Prelude.{ℕ, List, [], ◌∷◌, ◌++◌, length, Result, Ok, Err, if◌then◌else◌}
use Rattle.ng_core.specs.Calling.{text_program}
use Rattle.ng_base.specs.Meets.{◌>>=◌}
use Rattle.ng_base.specs.declared.fault.Fault.{Fault}
use Rattle.ng_language.specs.Trees.{Trees}
use Rattle.ng_parts.specs.Directing.{Function, Watching, Hearing}
use Rattle.ng_evaluation.specs.Purity.{are_pure}
use Rattle.ng_entries.specs.Refused.{fault_at}
use Rattle.ng_entries.specs.declared.fault.Member.{Member}
use Rattle.ng_entries.specs.declared.fault.Member.TheVariants as the
use Rattle.ng_entries.specs.declared.fault.AppKind.TheVariants as kind
use Rattle.ng_entries.specs.declared.fault.AppFault.{AppFault}
use Rattle.ng_entries.specs.declared.entries.FunctionEntry.{FunctionEntry}
use Rattle.ng_entries.specs.declared.entries.WatchEntry.{WatchEntry}
use Rattle.ng_entries.specs.declared.entries.ListenerEntry.{ListenerEntry}

-- a function: its name on its scope, its parameters, its program
abbrev pub Declared : Type 0
Declared = Function

-- a watch: what is compared, what is watched, and the program that runs where it differs
abbrev pub Watched : Type 0
Watched = Watching

-- a listener: the event, and the program that runs
abbrev pub Heard : Type 0
Heard = Hearing

-- a text spells a program whose filters are there, or it is refused
abbrev pub or_expression : Member → ℕ → Result Trees Fault → Result Trees AppFault
or_expression m i (Ok p) = Ok p
or_expression m i (Err f) = Err (fault_at m i kind.Expression)

abbrev pub program_at : Member → ℕ → List ℕ → Result Trees AppFault
program_at m i t = or_expression m i (text_program t)

abbrev pub function_read : Member → ℕ → FunctionEntry → Result Declared AppFault
function_read m i f = program_at m i f.body >>= λ p. Ok (record { name = f.name; params = f.params; body = p })

-- what is watched changes nothing
abbrev pub watch_read : Member → ℕ → WatchEntry → Result Watched AppFault
watch_read m i w =
    program_at m i w.watched >>= λ e. program_at m i w.body >>= λ p.
    if are_pure e then Ok (record { kind = w.kind; watched = e; body = p }) else Err (fault_at m i kind.Impure)

abbrev pub listener_read : Member → ℕ → ListenerEntry → Result Heard AppFault
listener_read m i l = program_at m i l.body >>= λ p. Ok (record { name = l.name; body = p })

-- entries after those that are read
abbrev pub functions_read : List Declared → List FunctionEntry → Result (List Declared) AppFault
functions_read done [] = Ok done
functions_read done (f ∷ fs) = function_read the.Functions (length done) f >>= λ x. functions_read (done ++ x ∷ []) fs

abbrev pub watches_read : List Watched → List WatchEntry → Result (List Watched) AppFault
watches_read done [] = Ok done
watches_read done (w ∷ ws) = watch_read the.Watch (length done) w >>= λ x. watches_read (done ++ x ∷ []) ws

abbrev pub listeners_read : List Heard → List ListenerEntry → Result (List Heard) AppFault
listeners_read done [] = Ok done
listeners_read done (l ∷ ls) = listener_read the.On (length done) l >>= λ x. listeners_read (done ++ x ∷ []) ls
