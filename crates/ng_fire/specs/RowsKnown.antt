-- What is known of the rows of a repeat while it fires.
use Rattle.std.specs.Prelude.{ℕ, ◌≡◌, ◌+◌, ◌≤◌, false, List, [], ◌∷◌, map, Some, IfSome, IsSome}
use Rattle.ng_rows.specs.RepeatRows.{Row, kept_rows}
use Rattle.ng_fire.specs.Repeats.{bodies_at, rows_at}
use Rattle.ng_fire.specs.Serving.{IsAt}
use Rattle.ng_fire.specs.declared.repeats.Spot.{Spot}
use Rattle.ng_instances.specs.Instances.{Body, Linked, Instances, is_path, linked_at}
use Rattle.ng_link.specs.Standing.{body_count}
use Rattle.ng_drawing.specs.Named.{Named, fragment_for}

-- an outlet is there with its scopes, and so is the fragment that its rows are made of
pub record IsSpot (all : List Named) (is : Instances) (s : Spot) : Type 0 where
  pub outlet : IsAt s.holder.now is s.outlet s.scope.0 (map (λ n. n.0) s.outsides.now)
  pub body : IsSome (fragment_for all s.origin)

-- each row that stands is kept or gone
abbrev pub KeptOrGone : List Body → List ℕ → List Row → Type 0
KeptOrGone bs gone rs = (q : List ℕ) → body_count q (kept_rows rs) + body_count q (bodies_at bs gone) ≡ body_count q bs

-- rows are among those of an outlet
abbrev pub AreRowsAt : List ℕ → ℕ → List Body → Instances → Type 0
AreRowsAt holder o bs is = (q : List ℕ) → body_count q bs ≤ body_count q (rows_at holder o is)

-- these have gone from it, and no other
abbrev pub HaveGone : List ℕ → ℕ → List Body → Instances → Instances → Type 0
HaveGone holder o bs old new = (q : List ℕ) → body_count q (rows_at holder o new) + body_count q bs ≡ body_count q (rows_at holder o old)

-- a body of an instance is linked, on a scope
pub record IsKeptOn (holder : List ℕ) (is : Instances) (p : List ℕ) (scope : ℕ) : Type 0 where
  pub apart : is_path p holder ≡ false
  pub linked : (l : Linked) × (linked_at p is ≡ Some l) × (l.page.scope ≡ scope)

-- these are the scopes of bodies, in order
abbrev pub AreKeptOn : List ℕ → Instances → List Body → List ℕ → Type 0
AreKeptOn holder is [] ns = Unit {0}
AreKeptOn holder is (b ∷ bs) [] = ⊥
AreKeptOn holder is (b ∷ bs) (n ∷ ns) = IsKeptOn holder is b.path n × AreKeptOn holder is bs ns

-- Of the scopes of rows that are kept, the first belongs to a row, if that is kept, and the others to those after it.
abbrev pub TakesScope : Row → List ℕ → ℕ → List ℕ → Type 0
TakesScope r ns n ms =
    (holder : List ℕ) (is : Instances) (rs : List Row) → AreKeptOn holder is (kept_rows (r ∷ rs)) ns → IfSome r.from (λ p. IsKeptOn holder is p n) × AreKeptOn holder is (kept_rows rs) ms
