-- Names of an object that are set one after another.
use Rattle.std.specs.Prelude.{ℕ, List, ◌∷◌, bytes_eq}
use Rattle.std.specs.List.{AllByRecursion, IsDistinct}
use Rattle.std.specs.Map.{keys_of}
use Rattle.indexmap.specs.IndexMap.{insert_entry}
use Rattle.ng_base.specs.Objects.{Object, StandsAmong}
use Rattle.ng_base.specs.declared.value.Value.{Value}
use Rattle.ng_language.specs.Objects.{set_name}

-- names of an object get values one after another, as far as there are both
abbrev pub set_names : List Object → ℕ → List (List ℕ) → List Value → List Object
set_names objects o (n ∷ ns) (v ∷ vs) = set_names (set_name objects o n v) o ns vs
set_names objects o ns vs = objects

-- properties after names got values
abbrev pub put_names : List (List ℕ × Value) → List (List ℕ) → List Value → List (List ℕ × Value)
put_names properties (n ∷ ns) (v ∷ vs) = put_names (insert_entry bytes_eq properties n v) ns vs
put_names properties ns vs = properties

-- properties have names that differ, and values that name objects among so many
pub record AreProperties (count : ℕ) (properties : List (List ℕ × Value)) : Type 0 where
  pub stand : AllByRecursion (λ (p : List ℕ × Value). StandsAmong count p.1) properties
  pub distinct : IsDistinct bytes_eq (keys_of properties)

-- properties are sound after a change where they were, and where values that came in name objects that stand
abbrev pub StaySound : List Value → List (List ℕ × Value) → List (List ℕ × Value) → Type 0
StaySound values old new = (count : ℕ) → AllByRecursion (StandsAmong count) values → AreProperties count old → AreProperties count new
