-- What entries and their values name stays there as objects are made.
use Rattle.std.proofs.Common.{◌≡◌, ◌≤◌, ◌<◌, ℕ, zero, suc, List, [], ◌∷◌, ◌++◌, length, get_or, sym, subst, arith}
use Rattle.ng_drawing.specs.Roles.{Entry}
use Rattle.ng_rows.specs.Tracking.{Item}
use Rattle.ng_rows.specs.TrackingOf.{EntriesStand, ItemsStand, items_of}
use Rattle.ng_rows.specs.declared.tracking.Item as code
use Rattle.ng_base.specs.Objects.{StandsAmong}
use Rattle.ng_store.proofs.Sound.{stands_more}
use Rattle.ng_write.proofs.More.{view_more}

pub entries_wider : (m n : ℕ) → m ≤ n → (es : List Entry) → EntriesStand m es → EntriesStand n es
entries_wider m n le [] h = tt
entries_wider m n le (e ∷ es) h = (view_more m n le e.value h.0, entries_wider m n le es h.1)

pub items_wider : (m n : ℕ) → m ≤ n → (xs : List Item) → ItemsStand m xs → ItemsStand n xs
items_wider m n le [] h = tt
items_wider m n le (x ∷ xs) h = (stands_more m n le x.value h.0, items_wider m n le xs h.1)

pub items_pushed : (n : ℕ) (xs : List Item) (x : Item) → ItemsStand n xs → StandsAmong n x.value → ItemsStand n (xs ++ x ∷ [])
items_pushed n [] x h one = (one, tt)
items_pushed n (y ∷ xs) x h one = (h.0, items_pushed n xs x h.1 one)

-- the value of the item at a place stands
pub item_stands : (n : ℕ) (xs : List code.Item) (i : ℕ) (x : code.Item) → ItemsStand n (items_of xs) → i < length xs → x ≡ get_or xs i x → StandsAmong n x.value
item_stands n [] i x h lt e = absurd (omega (arith, lt))
item_stands n (y ∷ ys) zero x h lt e = subst (λ (z : code.Item). StandsAmong n z.value) (sym e) h.0
item_stands n (y ∷ ys) (suc i) x h lt e = item_stands n ys i x h.1 (omega (arith, lt)) e
