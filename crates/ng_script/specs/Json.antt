-- The JSON words of a script.
use Rattle.std.specs.Prelude.{◌≡◌, ℕ, List, [], ◌∷◌, true, Option, None, Some, is_some, Result, Ok, Err, encode_utf8_all, if◌then◌else◌}
use Rattle.std.specs.Str.{chars}
use Rattle.serde_json.specs.Data.{Data, string, array, object, no_items, no_members}
use Rattle.serde_json.specs.Read.{read}
use Rattle.serde_json.specs.Find.{as_str, as_array, as_object}
use Rattle.ng_base.specs.Meets.{◌>>=◌}
use Rattle.ng_script.specs.declared.fault.ScriptKind.{ScriptKind}
use Rattle.ng_script.specs.declared.fault.ScriptKind.TheVariants as kinds

-- the characters are JSON, and this is its value
abbrev pub IsJson : Data → List ℕ → Type 0
IsJson d cs = read (encode_utf8_all cs) ≡ Some d

-- JSON of a text with these characters
abbrev pub IsJsonText : List ℕ → List ℕ → Type 0
IsJsonText t cs = (bs : List ℕ) × IsJson (string bs) cs × (t ≡ chars bs)

-- JSON of an object; where nothing stands, it is the empty one
abbrev pub IsJsonObject : Data → List ℕ → Type 0
IsJsonObject d [] = d ≡ object no_members
IsJsonObject d (c ∷ cs) = IsJson d (c ∷ cs) × (is_some (as_object d) ≡ true)

-- JSON of a list; where nothing stands, it is the empty one
abbrev pub IsJsonList : Data → List ℕ → Type 0
IsJsonList d [] = d ≡ array no_items
IsJsonList d (c ∷ cs) = IsJson d (c ∷ cs) × (is_some (as_array d) ≡ true)

abbrev pub or_bad_argument : {A : Type 0} → Option A → Result A ScriptKind
or_bad_argument None = Err kinds.BadArgument
or_bad_argument (Some x) = Ok x

-- the value of JSON
abbrev pub json_of : List ℕ → Result Data ScriptKind
json_of cs = or_bad_argument (read (encode_utf8_all cs))

abbrev pub as_text : Option (List ℕ) → Result (List ℕ) ScriptKind
as_text None = Err kinds.BadArgument
as_text (Some bs) = Ok (chars bs)

abbrev pub text_of : List ℕ → Result (List ℕ) ScriptKind
text_of cs = json_of cs >>= λ d. as_text (as_str d)

abbrev pub object_of : List ℕ → Result Data ScriptKind
object_of [] = Ok (object no_members)
object_of (c ∷ cs) = json_of (c ∷ cs) >>= λ d. if is_some (as_object d) then Ok d else Err kinds.BadArgument

abbrev pub list_of : List ℕ → Result Data ScriptKind
list_of [] = Ok (array no_items)
list_of (c ∷ cs) = json_of (c ∷ cs) >>= λ d. if is_some (as_array d) then Ok d else Err kinds.BadArgument
