-- The first of the live paths from a bound on.
use Rattle.std.specs.Prelude.{ℕ, ◌≡◌, true, false, List, Option, Some, None, IsSome}
use Rattle.std.specs.Ordering.{is_gt}
use Rattle.std.specs.declared.cmp.Ordering.TheVariants.{Less}
use Rattle.std.specs.declared.ops.Bound.{Bound}
use Rattle.std.specs.BTreeMap.Range.{IsFromStart}
use Rattle.ng_base.specs.Order.{path_cmp}
use Rattle.ng_behaviour.specs.Scopes.{begins}

-- s is found under the least path from a start on, which begins with u
pub record IsFirst (find : List ℕ → Option ℕ) (start : Bound (List ℕ)) (u : List ℕ) (s : ℕ) : Type 0 where
  pub path : List ℕ
  pub from : IsFromStart path_cmp start path
  pub under : begins u path ≡ true
  pub found : find path ≡ Some s
  pub least : (q : List ℕ) → IsFromStart path_cmp start q → IsSome (find q) → is_gt (path_cmp path q) ≡ false

abbrev pub NoneFrom : (List ℕ → Option ℕ) → Bound (List ℕ) → List ℕ → Type 0
NoneFrom find start u = (q : List ℕ) → IsFromStart path_cmp start q → begins u q ≡ true → find q ≡ None

-- s is found under the least path above p that begins with u
pub record IsFirstAhead (find : List ℕ → Option ℕ) (p u : List ℕ) (s : ℕ) : Type 0 where
  pub path : List ℕ
  pub above : path_cmp p path ≡ Less
  pub under : begins u path ≡ true
  pub found : find path ≡ Some s
  pub least : (q : List ℕ) → path_cmp p q ≡ Less → begins u q ≡ true → IsSome (find q) → is_gt (path_cmp path q) ≡ false

abbrev pub NoneAbove : (List ℕ → Option ℕ) → List ℕ → List ℕ → Type 0
NoneAbove find p u = (q : List ℕ) → path_cmp p q ≡ Less → begins u q ≡ true → find q ≡ None
