-- Where an instance may come.
use Rattle.std.specs.Prelude.{ℕ, ◌≡◌, ◌⊎◌, true, false, List, [], IsSome}
use Rattle.std.specs.Map.{lookup}
use Rattle.ng_behaviour.specs.Keys.{begins}
use Rattle.ng_instances.specs.Changing.{Place, at_top, in_outlet}
use Rattle.ng_instances.specs.Instances.{is_path, linked_at}
use Rattle.ng_link.specs.Standing.{IsBelow}
use Rattle.ng_link.specs.State.{State}
use Rattle.ng_instances.specs.PlaceOf.{outlet_of_linked}

-- a path is that of an instance, or of an inner scope of one
abbrev pub IsUsed : List ℕ → State → Type 0
IsUsed q s = IsSome (linked_at q s.instances) ⊎ IsSome (lookup (is_path q) s.inner)

-- a path is new below that of an instance: none that is used begins with it, and the instance is the nearest with whose path it begins
pub record IsNewBelow (holder p : List ℕ) (s : State) : Type 0 where
  pub below : IsBelow holder p
  pub unused : (q : List ℕ) → IsUsed q s → begins p q ≡ false
  pub nearest : (q : List ℕ) → IsSome (linked_at q s.instances) → begins q p ≡ true → begins q holder ≡ true

-- An instance finds its place: nothing stands at the top yet; or the outlet is there, and the path is new below that of its instance.
abbrev pub IsFree : Place → List ℕ → State → Type 0
IsFree at_top p s = (s.instances ≡ []) × (p ≡ [])
IsFree (in_outlet holder o i role) p s = IsSome (outlet_of_linked o (linked_at holder s.instances)) × IsNewBelow holder p s
