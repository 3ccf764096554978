-- Keys of watchers: a scope's path and a number of registration (guide: Scopes, "Scope `$watch` Depths").
use Rattle.std.specs.Prelude.{ℕ, Bool, true, false, List, [], ◌∷◌, ◌==◌, ◌&&◌}
use Rattle.std.specs.Ordering.{nat_cmp, ordering_then, is_eq, is_lt}
use Rattle.std.specs.declared.cmp.Ordering.{Ordering}
use Rattle.std.specs.Cmp.{IsTotalOrder, then_total, on_total, nat_cmp_total}
use Rattle.ng_base.specs.Order.{path_cmp, path_cmp_total}
use Rattle.ng_base.specs.declared.path.Key.{Key}

-- by path, a prefix first, and then by number
abbrev pub key_cmp : Key → Key → Ordering
key_cmp a b = ordering_then (path_cmp a.path b.path) (nat_cmp a.serial.0 b.serial.0)

-- it is an order
pub key_cmp_total : IsTotalOrder key_cmp
key_cmp_total = then_total (on_total (λ k. k.path) path_cmp_total) (on_total (λ k. k.serial.0) nat_cmp_total)

-- whether a key is this one
abbrev pub is_key : Key → Key → Bool
is_key k q = is_eq (key_cmp k q)

-- whether a key is above this one
abbrev pub is_above : Key → Key → Bool
is_above k q = is_lt (key_cmp k q)

-- whether a path begins with another
abbrev pub begins : List ℕ → List ℕ → Bool
begins [] p = true
begins (x ∷ xs) [] = false
begins (x ∷ xs) (y ∷ ys) = (x == y) && begins xs ys
