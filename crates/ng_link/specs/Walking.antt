-- A walk over the table of instances, in the order of their paths.
use Rattle.std.specs.Prelude.{ℕ, ◌≡◌, List, Some}
use Rattle.std.specs.List.{AllByRecursion}
use Rattle.std.specs.Map.{lookup}
use Rattle.ng_instances.specs.Instances.{is_path}
use Rattle.ng_instances.specs.declared.instances.Linked.{Linked}

-- the entries of the table
abbrev pub Table : Type 0
Table = List (List ℕ × Linked)

-- those that a walk has ahead are found in the table
abbrev pub AreOf : Table → Table → Type 0
AreOf is ahead = AllByRecursion (λ (e : List ℕ × Linked). lookup (is_path e.0) is ≡ Some e.1) ahead
