-- Where the list of a scope and a name stands.
use Rattle.std.specs.Prelude.{ℕ, ◌≡◌, ◌&&◌, eqb, List, Option, Some, option_and_then, bytes_eq, if◌then◌else◌}
use Rattle.std.specs.BTreeMap.{BTreeMap, get}
use Rattle.std.specs.Ordering.{nat_cmp}
use Rattle.ng_base.specs.Order.{txt_cmp}

abbrev pub named : BTreeMap ℕ (BTreeMap (List ℕ) ℕ) → ℕ → List ℕ → Option ℕ
named m s n = option_and_then (λ names. get txt_cmp names n) (get nat_cmp m s)

-- one name of one scope has a place, and every other is as before
abbrev pub Names : BTreeMap ℕ (BTreeMap (List ℕ) ℕ) → ℕ → List ℕ → ℕ → BTreeMap ℕ (BTreeMap (List ℕ) ℕ) → Type 0
Names m s n i k = (r : ℕ) (w : List ℕ) → named k r w ≡ (if eqb r s && bytes_eq w n then Some i else named m r w)

abbrev pub AreSame : BTreeMap ℕ (BTreeMap (List ℕ) ℕ) → BTreeMap ℕ (BTreeMap (List ℕ) ℕ) → Type 0
AreSame m k = (r : ℕ) (w : List ℕ) → named k r w ≡ named m r w
