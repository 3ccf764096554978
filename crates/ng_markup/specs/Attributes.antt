-- How an element gets its attributes: values that may be missing, set one after another; and the words of its class.
use Rattle.std.specs.Prelude.{ℕ, Bool, List, [], ◌∷◌, ◌++◌, ◌||◌, Option, Some, None, is_some, if◌then◌else◌}
use Rattle.std.specs.BTreeMap.{insert_entry, is_at}
use Rattle.std.specs.List.{list_any}
use Rattle.std.specs.Map.{remove_entry}
use Rattle.std.specs.Str.{bytes_eq}
use Rattle.ng_base.specs.Codes.{space}
use Rattle.ng_base.specs.Order.{txt_cmp}
use Rattle.ng_markup.specs.Forest.{Attributes}

-- a text, unless it is empty
abbrev pub if_any : List ℕ → Option (List ℕ)
if_any [] = None
if_any (c ∷ cs) = Some (c ∷ cs)

-- a word, where this is true
abbrev pub word_if : Bool → List ℕ → Option (List ℕ)
word_if b w = if b then Some w else None

-- an attribute has this value, at its place in the order of the names, or is not there
abbrev pub with_value : List ℕ → Option (List ℕ) → Attributes → Attributes
with_value name None ats = remove_entry (is_at (txt_cmp name)) ats
with_value name (Some t) ats = insert_entry txt_cmp ats name t

-- a word more, unless it is there
abbrev pub with_once : List (List ℕ) → List ℕ → List (List ℕ)
with_once done w = if list_any (bytes_eq w) done then done else done ++ w ∷ []

-- each word once, at its first place
abbrev pub once_after : List (List ℕ) → List (List ℕ) → List (List ℕ)
once_after done [] = done
once_after done (w ∷ ws) = once_after (with_once done w) ws

-- words joined by a space
abbrev pub spaced : List (List ℕ) → List ℕ
spaced [] = []
spaced (w ∷ []) = w
spaced (w ∷ v ∷ ws) = w ++ space ∷ spaced (v ∷ ws)

-- the value of a class with these words, each once: it is there if it isn't empty, or if the template has one
abbrev pub class_value : Bool → List (List ℕ) → Option (List ℕ)
class_value written [] = word_if written []
class_value written (w ∷ ws) = Some (spaced (once_after [] (w ∷ ws)))
