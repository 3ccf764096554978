-- Changed items keep a store sound.
use Rattle.std.proofs.Common.{◌≡◌, ◌<◌, ◌≤◌, ◌+◌, ◌-◌, ◌^◌, ℕ, zero, suc, Bool, true, false, List, [], ◌∷◌, ◌++◌, length, take, drop, get_or, reverse, slice_range, refl, arith, nat_lt, if◌then◌else◌, length-append, length-take, length-drop}
use Rattle.std.specs.Prelude.{Result, Ok, Err}
use Rattle.std.proofs.Math.ListN.{set}
use Rattle.std.proofs.lemmas.List.{length-set, length-reverse}
use mathlib.Core.List.{reverse_aux}
use Rattle.std.proofs.lemmas.Bool.Decides.{nat_tests}
use Rattle.std.specs.List.{AllByRecursion, splice}
use Rattle.ng_base.specs.Objects.{Object, StandsAmong}
use Rattle.ng_base.specs.declared.fault.Memory.{Memory}
use Rattle.ng_base.specs.declared.value.Value.{Value}
use Rattle.ng_language.specs.Objects.{AreObjects, set_items, items_at, with_items}
use Rattle.ng_store.specs.Answers.{where_short}
use Rattle.ng_store.proofs.ObjectReads.{object_is}
use Rattle.ng_store.proofs.Sound.{sound_updated, is_with_items, all_append, all_take, all_drop, length-update_at}

abbrev pub AllStand : ℕ → List Value → Type 0
AllStand n = AllByRecursion (StandsAmong n)

-- what an array of a store has
pub record AreItems (n : ℕ) (items : List Value) : Type 0 where
  pub few : length items < 2 ^ 32
  pub stand : AllStand n items

pub are_items : (objects : List Object) (o : ℕ) → o < length objects → AreObjects objects → AreItems (length objects) (items_at objects o)
are_items objects o h a = let x = object_is objects o h a in record { few = x.few; stand = x.items }

pub sound_items : (objects : List Object) (o : ℕ) (items : List Value) → AreObjects objects → AreItems (length objects) items → AreObjects (set_items objects o items)
sound_items objects o items a i =
    sound_updated objects o (with_items items) (λ k x. is_with_items (length objects) k items x i.few i.stand) a

pub length-set_items : (objects : List Object) (o : ℕ) (items : List Value) → length (set_items objects o items) ≡ length objects
length-set_items objects o items = length-update_at objects o (with_items items)

short_if : {A : Type 0} (b : Bool) (x y : A) (e : Result A Memory) (m : Memory) → e ≡ Err m → (if b then Ok x else e) ≡ Ok y → b ≡ true
short_if true x y e m r h = refl
short_if false x y e m r h = absurd (cc)

-- a length that was kept is below 2^32
pub kept_short : {A : Type 0} (n : ℕ) (x y : A) → where_short n x ≡ Ok y → n < 2 ^ 32
kept_short n x y h = let t = short_if (nat_lt n 4294967296) x y _ _ refl h in grind (arith, nat_tests, t)

kept_if : {A : Type 0} (b : Bool) (x y : A) (e : Result A Memory) (m : Memory) → e ≡ Err m → (if b then Ok x else e) ≡ Ok y → x ≡ y
kept_if true x y e m r h = cc
kept_if false x y e m r h = absurd (cc)

-- and the value is the one that was asked for
pub kept_value : {A : Type 0} (n : ℕ) (x y : A) → where_short n x ≡ Ok y → x ≡ y
kept_value n x y h = kept_if (nat_lt n 4294967296) x y _ _ refl h

all_set : (P : Value → Type 0) (xs : List Value) (i : ℕ) (v : Value) → AllByRecursion P xs → P v → AllByRecursion P (set xs i v)
all_set P [] i v a p = tt
all_set P (x ∷ xs) zero v a p = (p, a.1)
all_set P (x ∷ xs) (suc i) v a p = (a.0, all_set P xs i v a.1 p)

pub item_or_stands : (P : Value → Type 0) (xs : List Value) (i : ℕ) (d : Value) → AllByRecursion P xs → P d → P (get_or xs i d)
item_or_stands P [] i d a p = p
item_or_stands P (x ∷ xs) zero d a p = a.0
item_or_stands P (x ∷ xs) (suc i) d a p = item_or_stands P xs i d a.1 p

pub items_pushed : (n : ℕ) (items : List Value) (v : Value) → length items + 1 < 2 ^ 32 → AllStand n items → StandsAmong n v → AreItems n (items ++ v ∷ [])
items_pushed n items v h a s = record { few = omega (arith, length-append items (v ∷ [])); stand = all_append (StandsAmong n) items (v ∷ []) a (s, tt) }

pub items_unshifted : (n : ℕ) (items : List Value) (v : Value) → length items + 1 < 2 ^ 32 → AllStand n items → StandsAmong n v → AreItems n (v ∷ items)
items_unshifted n items v h a s = record { few = omega arith; stand = (s, a) }

pub items_taken : (n k : ℕ) (items : List Value) → AreItems n items → AreItems n (take k items)
items_taken n k items a = record { few = omega (arith, length-take k items, a.few); stand = all_take (StandsAmong n) k items a.stand }

pub items_dropped : (n k : ℕ) (items : List Value) → AreItems n items → AreItems n (drop k items)
items_dropped n k items a = record { few = omega (arith, length-drop k items, a.few); stand = all_drop (StandsAmong n) k items a.stand }

pub items_set : (n i : ℕ) (items : List Value) (v : Value) → AreItems n items → StandsAmong n v → AreItems n (set items i v)
items_set n i items v a s = record { few = omega (arith, length-set items i v, a.few); stand = all_set (StandsAmong n) items i v a.stand s }

pub items_spliced : (n from count : ℕ) (items new : List Value) → from + count ≤ length items → length items - count + length new < 2 ^ 32 → AllStand n items → AllStand n new → AreItems n (splice items from (from + count) new)
items_spliced n from count items new w h a b =
    let e : length (splice items from (from + count) new) ≡ length items - count + length new =
    omega (arith, length-append (take from items) (new ++ drop (from + count) items), length-append new (drop (from + count) items), length-take from items, length-drop (from + count) items) in
    record {
      few = omega arith;
      stand = all_append (StandsAmong n) (take from items) (new ++ drop (from + count) items) (all_take (StandsAmong n) from items a)
          (all_append (StandsAmong n) new (drop (from + count) items) b (all_drop (StandsAmong n) (from + count) items a));
    }

pub range_stands : (n from to : ℕ) (items : List Value) → AllStand n items → AllStand n (slice_range items from to)
range_stands n from to items a = all_take (StandsAmong n) (to - from) (drop from items) (all_drop (StandsAmong n) from items a)

all_reverse_aux : (P : Value → Type 0) (xs ys : List Value) → AllByRecursion P xs → AllByRecursion P ys → AllByRecursion P (reverse_aux xs ys)
all_reverse_aux P [] ys a b = b
all_reverse_aux P (x ∷ xs) ys a b = all_reverse_aux P xs (x ∷ ys) a.1 (a.0, b)

pub items_reversed : (n : ℕ) (items : List Value) → AreItems n items → AreItems n (reverse items)
items_reversed n items a = record { few = omega (arith, length-reverse items, a.few); stand = all_reverse_aux (StandsAmong n) items [] a.stand tt }
