-- What a call of the reader gave, against what a script is.
use Rattle.std.proofs.Common.{◌≡◌, ◌∙◌, sym, false, ℕ, List}
use Rattle.std.specs.Prelude.{Result, Ok, Err, IfOk, IfErr}
use Rattle.ng_base.specs.Meets.{Gives}
use Rattle.ng_script.specs.Acts.{Entry, entries_of}
use Rattle.ng_script.specs.Free.{is_free}
use Rattle.ng_script.specs.Readings.{IsScript, Refuses}
use Rattle.ng_script.specs.Scripts.{script_of}
use Rattle.ng_script.specs.declared.commands.Commands.{Commands}
use Rattle.ng_script.specs.declared.fault.ScriptFault.{ScriptFault}
use Rattle.ng_script.proofs.ScriptLaws.{read_is_script, script_is_read, answer_is_refusal, refusal_is_answered}

pub found : (bs : List ℕ) (r : Result Commands ScriptFault) → Gives is_free entries_of (script_of bs) r → IfOk r (λ c. IsScript (entries_of c) bs)
found bs (Ok c) g = read_is_script bs (entries_of c) g
found bs (Err f) g = tt

pub only : (bs : List ℕ) (es : List Entry) (r : Result Commands ScriptFault) → Gives is_free entries_of (script_of bs) r → IsScript es bs → Gives is_free entries_of (Ok es) r
only bs es (Ok c) g h = sym (script_is_read bs es h) ∙ g
only bs es (Err f) g h = λ n. sym (script_is_read bs es h) ∙ g n

pub refused : (bs : List ℕ) (r : Result Commands ScriptFault) → Gives is_free entries_of (script_of bs) r → IfErr r (λ f. is_free f ≡ false → Refuses bs f)
refused bs (Ok c) g = tt
refused bs (Err f) g = λ n. answer_is_refusal bs f (g n)

pub one : (bs : List ℕ) (f : ScriptFault) (r : Result Commands ScriptFault) → Gives is_free entries_of (script_of bs) r → Refuses bs f → Gives is_free entries_of (Err f) r
one bs f (Ok c) g h = sym (refusal_is_answered bs f h) ∙ g
one bs f (Err e) g h = λ n. sym (refusal_is_answered bs f h) ∙ g n
