-- The names of an object's properties, in the order of insertion.
use Rattle.std.specs.Prelude.{ℕ, List, map}
use Rattle.ng_base.specs.declared.value.Value.{Value}
use Rattle.ng_base.specs.declared.value.Value.TheVariants as value
use Rattle.ng_store.specs.declared.properties.OwnNames.{OwnNames}
use Rattle.ng_store.specs.declared.properties.OwnNames.TheVariants.{Shared, Own}

abbrev pub names_in : OwnNames → List (List ℕ)
names_in (Shared names) = names.value.keys
names_in (Own names) = names.value.keys

-- names as properties without values, where the names alone matter
abbrev pub nameless : List ℕ → List ℕ × Value
nameless name = (name, value.Undefined)

abbrev pub all_nameless : List (List ℕ) → List (List ℕ × Value)
all_nameless = map nameless
