-- The object of a scope, and the names that it has of its own.
use Rattle.std.specs.Prelude.{ℕ, ◌+◌, ◌<◌, List, [], ◌∷◌, ◌++◌, length, Option, pos}
use Rattle.ng_base.specs.Objects.{Object}
use Rattle.ng_base.specs.declared.value.Value.{Value}
use Rattle.ng_base.specs.declared.value.Value.TheVariants.{Int, Obj}
use Rattle.ng_base.specs.declared.heap.ObjKind.TheVariants.{Scope as a_scope}
use Rattle.ng_language.specs.Objects.{new_object, set_name}
use Rattle.ng_behaviour.specs.Scopes.{Scope, object_at}

-- `$id`
abbrev pub id_name : List ℕ
id_name = 36 ∷ 105 ∷ 100 ∷ []

-- `$parent`
abbrev pub parent_name : List ℕ
parent_name = 36 ∷ 112 ∷ 97 ∷ 114 ∷ 101 ∷ 110 ∷ 116 ∷ []

-- `$root`
abbrev pub root_name : List ℕ
root_name = 36 ∷ 114 ∷ 111 ∷ 111 ∷ 116 ∷ []

abbrev pub of_object_named : ℕ → Value
of_object_named o = Obj (record { 0 = o })

-- the object of a scope after its number, its parent and the root are set
abbrev pub named : List Object → ℕ → ℕ → Value → ℕ → List Object
named objects o id parent root = set_name (set_name (set_name objects o id_name (Int (pos id))) o parent_name parent) o root_name (of_object_named root)

-- an object more, for the next scope of a tree: its number counts from 1, in order of making
abbrev pub with_scope_object : List Object → List Scope → Option ℕ → ℕ → List Object
with_scope_object objects t proto c = named (objects ++ new_object a_scope proto ∷ []) (length objects) (length t + 1) (of_object_named (object_at t c)) (object_at t 0)

-- the objects of all scopes are among so many
pub record AreAmong (n : ℕ) (t : List Scope) : Type 0 where
  pub below : (s : ℕ) → s < length t → object_at t s < n
