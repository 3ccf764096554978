-- A binding, read from the front of its text.
use Rattle.std.specs.Prelude.{ℕ, nat_eq, Bool, true, false, List, [], ◌∷◌, ◌++◌, Option, Some, None, Result, Ok, Err, if◌then◌else◌}
use Rattle.ng_base.specs.Codes.{ampersand, equals_sign, less_than_sign, question_mark}
use Rattle.ng_language.specs.Letters.{is_in_name}
use Rattle.ng_language.specs.OneTime.{without_front}
use Rattle.ng_bind.specs.Written.{at_sign}
use Rattle.ng_bind.specs.declared.spec.BindFault.{BindFault}
use Rattle.ng_bind.specs.declared.spec.BindFault.TheVariants.{BadBinding, Memory}
use Rattle.ng_bind.specs.declared.spec.BindMode.{BindMode}
use Rattle.ng_bind.specs.declared.spec.BindMode.TheVariants.{AtText, TwoWay, OneWay, Call}
use Rattle.ng_bind.specs.declared.spec.Spec.{Spec}

-- want of memory
abbrev pub is_free : BindFault → Bool
is_free BadBinding = false
is_free (Memory m) = true

abbrev pub mode_at : ℕ → Option BindMode
mode_at c =
    if nat_eq c at_sign then Some AtText
    else if nat_eq c equals_sign then Some TwoWay
    else if nat_eq c less_than_sign then Some OneWay
    else if nat_eq c ampersand then Some Call
    else None

-- whether a question mark stands next, and what stands after it
abbrev pub mark_in : List ℕ → Bool × List ℕ
mark_in [] = (false, [])
mark_in (c ∷ cs) = if nat_eq c question_mark then (true, without_front cs) else (false, c ∷ cs)

-- the longest name after one that was read, and what stands after it
abbrev pub name_run : List ℕ → List ℕ → List ℕ × List ℕ
name_run name [] = (name, [])
name_run name (c ∷ cs) = if is_in_name c then name_run (name ++ c ∷ []) cs else (name, c ∷ cs)

abbrev pub name_in : List ℕ → List ℕ × List ℕ
name_in = name_run []

abbrev pub attr_of : List ℕ → Option (List ℕ)
attr_of [] = None
attr_of (c ∷ cs) = Some (c ∷ cs)

-- nothing is left but white space
abbrev pub ended : List ℕ → Spec → Result Spec BindFault
ended [] s = Ok s
ended (c ∷ cs) s = Err BadBinding

abbrev pub spec_named : BindMode → Bool → List ℕ × List ℕ → Result Spec BindFault
spec_named mode optional r = ended (without_front r.1) (record { mode = mode; optional = optional; attr = attr_of r.0 })

abbrev pub spec_marked : BindMode → Bool × List ℕ → Result Spec BindFault
spec_marked mode r = spec_named mode r.0 (name_in r.1)

abbrev pub spec_after : BindMode → List ℕ → Result Spec BindFault
spec_after mode cs = spec_marked mode (mark_in (without_front cs))

abbrev pub spec_of_mode : Option BindMode → List ℕ → Result Spec BindFault
spec_of_mode None cs = Err BadBinding
spec_of_mode (Some mode) cs = spec_after mode cs

abbrev pub spec_at : List ℕ → Result Spec BindFault
spec_at [] = Err BadBinding
spec_at (c ∷ cs) = spec_of_mode (mode_at c) cs

abbrev pub spec_in : List ℕ → Result Spec BindFault
spec_in cs = spec_at (without_front cs)
