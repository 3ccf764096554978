-- Rows in key order, kept in chunks: the whole is the chunks, one after another.
use Rattle.std.specs.Prelude.{◌≡◌, ◌-◌, ℕ, suc, zero, Bool, true, false, List, [], ◌∷◌, ◌++◌, Option, None, Some, length, take, drop, slice_get}
use Rattle.std.specs.List.{AllByRecursion, slice_index_or}
use Rattle.std.specs.List.Sorted.{IsStrictlySortedBy}
use Rattle.std.specs.Map.{keys_of}
use Rattle.std.specs.Option.{ForSome}
use Rattle.std.specs.Ordering.{is_lt}
use Rattle.std.specs.declared.cmp.Ordering.TheVariants.{Less}
use Rattle.ng_base.specs.Order.{path_cmp}
use Rattle.ng_base.specs.declared.name.Serial.{Serial}
use Rattle.ng_base.specs.declared.path.Key.{Key}
use Rattle.ng_behaviour.specs.Keys.{key_cmp, is_key}
use Rattle.ng_watch.specs.declared.watched.Watched.{Watched}

-- keys with their watchers, as the code has them
abbrev pub Rows : Type 0
Rows = List (Key × Watched)

abbrev pub key_from : List ℕ → Serial → Key
key_from p n = record { path = p; serial = n }

-- the rows of all chunks
abbrev pub joined : List Rows → Rows
joined [] = []
joined (c ∷ cs) = c ++ joined cs

-- the rows of the chunk with a number, which is empty past the last
abbrev pub chunk_at : List Rows → ℕ → Rows
chunk_at cs i = slice_index_or cs i []

-- the rows of the chunks before it
abbrev pub front : List Rows → ℕ → Rows
front [] i = []
front (c ∷ cs) zero = []
front (c ∷ cs) (suc i) = c ++ front cs i

-- the rows of the chunks after it
abbrev pub back : List Rows → ℕ → Rows
back [] i = []
back (c ∷ cs) zero = joined cs
back (c ∷ cs) (suc i) = back cs i

-- the rows before a place, which is a chunk and a row of it
abbrev pub before : List Rows → ℕ → ℕ → Rows
before cs i j = front cs i ++ take j (chunk_at cs i)

-- the rows from a place on
abbrev pub after : List Rows → ℕ → ℕ → Rows
after cs i j = drop j (chunk_at cs i) ++ back cs i

-- the row of a place
abbrev pub row_at : List Rows → ℕ → ℕ → Option (Key × Watched)
row_at cs i j = slice_get (chunk_at cs i) j

-- whether there is a row, and it has a key
abbrev pub has_key : Key → Option (Key × Watched) → Bool
has_key k None = false
has_key k (Some e) = is_key k e.0

-- whether a row is below a key
abbrev pub is_below : Key → Key × Watched → Bool
is_below k e = is_lt (key_cmp e.0 k)

abbrev pub AllBelow : Key → Rows → Type 0
AllBelow k es = AllByRecursion (λ e. is_below k e ≡ true) es

abbrev pub NoneBelow : Key → Rows → Type 0
NoneBelow k es = AllByRecursion (λ e. is_below k e ≡ false) es

abbrev pub AllAbove : Key → Rows → Type 0
AllAbove k es = AllByRecursion (λ e. key_cmp k e.0 ≡ Less) es

-- no row comes before a path
abbrev pub NotBefore : List ℕ → Rows → Type 0
NotBefore p es = AllByRecursion (λ e. is_lt (path_cmp e.0.path p) ≡ false) es

-- a key's rows, if it had any, would stand between these
pub record IsGap (k : Key) (es fs : Rows) : Type 0 where
  pub lower : AllBelow k es
  pub upper : AllAbove k fs

-- whether there is a row, and it is below a key
abbrev pub has_below : Key → Option (Key × Watched) → Bool
has_below k None = false
has_below k (Some e) = is_below k e

-- whether a chunk's last row is below a key
abbrev pub is_passed : Key → Rows → Bool
is_passed k c = has_below k (slice_get c (length c - 1))

-- a place with rows below a key before it, and a row that is not below it, or none, from it on
pub record IsEdge (k : Key) (cs : List Rows) (i j : ℕ) : Type 0 where
  pub lower : AllBelow k (before cs i j)
  pub upper : ForSome (row_at cs i j) (λ e. is_below k e ≡ false)
  pub row : slice_get (after cs i j) 0 ≡ row_at cs i j

-- the rows are in key order, and counted
pub record IsCounted (count : ℕ) (es : Rows) : Type 0 where
  pub sorted : IsStrictlySortedBy key_cmp (keys_of es)
  pub counted : count ≡ length es
