-- Targets: an element by its `id`, or a node by a path of child numbers.
use Rattle.std.specs.Prelude.{◌≡◌, ◌<◌, ◌^◌, ◌+◌, ◌-◌, ◌*◌, ◌==◌, ◌&&◌, not, ℕ, nat_lt, Bool, true, List, [], ◌∷◌, ◌++◌, length, Option, None, Some, Result, Ok, Err, if◌then◌else◌}
use Rattle.std.specs.Option.{unwrap_or}
use Rattle.std.specs.List.{list_all}
use Rattle.ng_base.specs.Codes.{number_sign, slash, digit_zero}
use Rattle.ng_base.specs.Meets.{◌>>=◌}
use Rattle.ng_base.specs.declared.path.Target.{Target}
use Rattle.ng_base.specs.declared.path.Target.TheVariants as target
use Rattle.ng_language.specs.Choice.{when_some}
use Rattle.std.specs.Char.{is_ascii_digit}
use Rattle.ng_language.specs.Spelling.{value_on}
use Rattle.ng_script.specs.Words.{is_blank}
use Rattle.ng_script.specs.declared.fault.ScriptKind.{ScriptKind}
use Rattle.ng_script.specs.declared.fault.ScriptKind.TheVariants as kinds

-- a child's number is below 2^32, and may have zeros in front
abbrev pub IsChildNumber : ℕ → List ℕ → Type 0
IsChildNumber n ds = (list_all is_ascii_digit ds ≡ true) × (0 < length ds) × (value_on 0 ds ≡ n) × (n < 2 ^ 32)

-- each number of a path has a `/` in front
abbrev pub IsPath : List ℕ → List ℕ → Type 0
IsPath [] cs = cs ≡ []
IsPath (n ∷ ns) cs = (ds : List ℕ) × (rest : List ℕ) × (cs ≡ slash ∷ (ds ++ rest)) × IsChildNumber n ds × IsPath ns rest

abbrev pub has_no_blank : List ℕ → Bool
has_no_blank cs = list_all (λ c. not (is_blank c)) cs

-- `#id`, or a path such as `/0/2`
abbrev pub IsTarget : Target → List ℕ → Type 0
IsTarget (target.Id n) cs = (cs ≡ number_sign ∷ n) × (0 < length n) × (has_no_blank n ≡ true)
IsTarget (target.Path ns) cs = (0 < length ns) × IsPath ns cs

-- a number with one digit more, where it is one and not too large
abbrev pub with_digit : Option ℕ → ℕ → Option ℕ
with_digit now c =
    if is_ascii_digit c && nat_lt (10 * unwrap_or now 0 + (c - digit_zero)) 4294967296
    then Some (10 * unwrap_or now 0 + (c - digit_zero))
    else None

-- the numbers of a path, after those that are read and the digits of one that is being read
abbrev pub numbers_from : List ℕ → Option ℕ → List ℕ → Result (List ℕ) ScriptKind
numbers_from done None [] = Err kinds.BadTarget
numbers_from done (Some n) [] = Ok (done ++ n ∷ [])
numbers_from done now (c ∷ cs) =
    if c == slash then when_some now (λ n. numbers_from (done ++ n ∷ []) None cs) (Err kinds.BadTarget)
    else when_some (with_digit now c) (λ n. numbers_from done (Some n) cs) (Err kinds.BadTarget)

abbrev pub as_path : List ℕ → Result Target ScriptKind
as_path ns = Ok (target.Path ns)

abbrev pub id_of : List ℕ → Result Target ScriptKind
id_of [] = Err kinds.BadTarget
id_of (c ∷ cs) = Ok (target.Id (c ∷ cs))

-- the target that a word is
abbrev pub target_of : List ℕ → Result Target ScriptKind
target_of [] = Err kinds.BadTarget
target_of (c ∷ cs) =
    if c == number_sign then id_of cs
    else if c == slash then numbers_from [] None cs >>= as_path
    else Err kinds.BadTarget
