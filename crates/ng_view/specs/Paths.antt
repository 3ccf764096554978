-- What a dotted path of names stands for where each name on it stands for something and no array is on its way.
use Rattle.std.specs.Prelude.{ℕ, List, Option, None, option_and_then, if◌then◌else◌}
use Rattle.std.specs.Map.{lookup}
use Rattle.std.specs.Str.{bytes_eq}
use Rattle.ng_base.specs.Objects.{Object, object_at, is_array}
use Rattle.ng_base.specs.declared.value.Value.{Value}
use Rattle.ng_base.specs.declared.value.Value.TheVariants as value
use Rattle.ng_language.specs.Objects.{look}
use Rattle.ng_language.specs.Trees.{Tree, a_name, member_of}
use Rattle.ng_members.specs.Leaves.{Local, or_from}

-- a local, else what the scope or its prototypes have
abbrev pub stored_name : List Object → ℕ → List Local → List ℕ → Option Value
stored_name objects scope locals name = or_from (lookup (bytes_eq name) locals) (look objects scope name)

-- what an object that is no array, or its prototypes, have
abbrev pub stored_member : List Object → Value → List ℕ → Option Value
stored_member objects (value.Obj o) name = if is_array (object_at objects o.0).kind then None else look objects o.0 name
stored_member objects v name = None

abbrev pub stored_path : List Object → ℕ → List Local → Tree → Option Value
stored_path objects scope locals (a_name s) = stored_name objects scope locals s
stored_path objects scope locals (member_of t s) = option_and_then (λ v. stored_member objects v s) (stored_path objects scope locals t)
stored_path objects scope locals t = None
