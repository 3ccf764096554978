-- The nodes by name, in runs of neighbouring names.
use Rattle.std.specs.Prelude.{ℕ, zero, suc, ◌≡◌, ◌+◌, ◌<◌, ◌/◌, ◌==◌, List, [], ◌∷◌, ◌++◌, length, Option, Some, None, option_map, slice_get, if◌then◌else◌}
use Rattle.std.specs.List.{AllByRecursion, remove}
use Rattle.std.specs.Map.{lookup, set_value, keys_of}
use Rattle.ng_dom.specs.declared.record.Record.{Record}

-- nodes by name
abbrev pub Rows : Type 0
Rows = List (ℕ × Record)

-- rows by the number of their run
abbrev pub Runs : Type 0
Runs = List (ℕ × Rows)

-- the number of the run that a name is in
abbrev pub number_of : ℕ → ℕ
number_of n = n / 64

-- what stands under a number
abbrev pub under : {X : Type 0} → ℕ → List (ℕ × X) → Option X
under n es = lookup (λ k. n == k) es

abbrev pub or_none : Option Rows → Rows
or_none None = []
or_none (Some es) = es

-- the rows of a run
abbrev pub rows_of : ℕ → Runs → Rows
rows_of k rs = or_none (under k rs)

-- the node of a name
abbrev pub node_at : Runs → ℕ → Option Record
node_at rs n = under n (rows_of (number_of n) rs)

-- another node stands under a name that has one
abbrev pub node_set : Runs → ℕ → Record → Runs
node_set rs n x = set_value (λ k. number_of n == k) rs (set_value (λ k. n == k) (rows_of (number_of n) rs) x)

-- how many nodes there are
abbrev pub live_in : Runs → ℕ
live_in [] = zero
live_in (r ∷ rs) = length r.1 + live_in rs

-- numbers that are above one, or below it
abbrev pub AllAbove : {X : Type 0} → ℕ → List (ℕ × X) → Type 0
AllAbove n es = AllByRecursion (λ e. n < e.0) es

abbrev pub AllBelow : {X : Type 0} → ℕ → List (ℕ × X) → Type 0
AllBelow n es = AllByRecursion (λ e. e.0 < n) es

-- each number is below those after it
abbrev pub Rises : {X : Type 0} → List (ℕ × X) → Type 0
Rises [] = Unit {0}
Rises (e ∷ es) = AllAbove e.0 es × Rises es

-- a run has rows, in order, of the names that it is for
pub record IsRun (r : ℕ × Rows) : Type 0 where
  pub rises : Rises r.1
  pub named : AllByRecursion (λ e. number_of e.0 ≡ r.0) r.1
  pub some : 0 < length r.1

abbrev pub AreRuns : Runs → Type 0
AreRuns rs = AllByRecursion IsRun rs

-- the runs are in order, and their nodes counted
pub record IsKept (live : ℕ) (rs : Runs) : Type 0 where
  pub rises : Rises rs
  pub runs : AreRuns rs
  pub counted : live ≡ live_in rs

-- the number of what stands at a place of a list
abbrev pub name_in : {X : Type 0} → Option (ℕ × X) → Option ℕ
name_in o = option_map (λ e. e.0) o

-- the row of a place, which is a run and a row of it
abbrev pub row_in : Option (ℕ × Rows) → ℕ → Option (ℕ × Record)
row_in None j = None
row_in (Some r) j = slice_get r.1 j

abbrev pub row_at : Runs → ℕ → ℕ → Option (ℕ × Record)
row_at rs i j = row_in (slice_get rs i) j

-- the names of all nodes
abbrev pub names_in : Runs → List ℕ
names_in [] = []
names_in (r ∷ rs) = keys_of r.1 ++ names_in rs

-- something else stands at a place
abbrev pub row_set : {X : Type 0} → List (ℕ × X) → ℕ → X → List (ℕ × X)
row_set [] j x = []
row_set (e ∷ es) zero x = (e.0, x) ∷ es
row_set (e ∷ es) (suc j) x = e ∷ row_set es j x

abbrev pub run_set : Runs → ℕ → ℕ → Record → Runs
run_set [] i j x = []
run_set (r ∷ rs) zero j x = (r.0, row_set r.1 j x) ∷ rs
run_set (r ∷ rs) (suc i) j x = r ∷ run_set rs i j x

-- a run that has no rows is none
abbrev pub run_left : ℕ → Rows → Runs → Runs
run_left k [] rs = rs
run_left k (e ∷ es) rs = (k, e ∷ es) ∷ rs

-- the row of a place is taken out
abbrev pub row_gone : Runs → ℕ → ℕ → Runs
row_gone [] i j = []
row_gone (r ∷ rs) zero j = run_left r.0 (remove r.1 j) rs
row_gone (r ∷ rs) (suc i) j = r ∷ row_gone rs i j

-- a row is put after all others: in the last run, where it is of that, or in a run of its own
abbrev pub row_pushed : ℕ → Record → Runs → Runs
row_pushed n x [] = (number_of n, (n, x) ∷ []) ∷ []
row_pushed n x (r ∷ []) = if r.0 == number_of n then (r.0, r.1 ++ (n, x) ∷ []) ∷ [] else r ∷ (number_of n, (n, x) ∷ []) ∷ []
row_pushed n x (r ∷ s ∷ rs) = r ∷ row_pushed n x (s ∷ rs)
