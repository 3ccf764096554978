-- Each old row either goes, or is the one that an entry comes from. So the places of rows that go, and those that entries come from, come to
-- as much together as all places do.
use Rattle.std.proofs.Common.{◌≡◌, ◌+◌, ℕ, Bool, true, false, cond, not, List, [], ◌∷◌, map, Option, None, Some, refl, ap, sym, ◌∙◌, arith}
use Rattle.std.specs.Prelude.{◌||◌}
use Rattle.std.specs.List.{list_any, position_from}
use Rattle.std.proofs.Math.Path.{fun_ext}
use Rattle.std.proofs.lemmas.Iterator.Adapters.{position_from-zero}
use Rattle.ng_blocks.specs.Places.{places_from}
use Rattle.ng_blocks.specs.Plans.{is_among, has_double, gone_places, row_of}
use Rattle.ng_blocks.specs.SameKeys.{same_key, same_key-Decides, same_key_equiv}
use Rattle.ng_blocks.specs.declared.keys.TrackKey.{TrackKey}

parts_false : (a b : Bool) → (a || b) ≡ false → (a ≡ false) × (b ≡ false)
parts_false true b h = absurd (cc)
parts_false false b h = (refl, h)

absent : {A : Type 0} (test : A → Bool) (i : ℕ) (xs : List A) → list_any test xs ≡ false → position_from test i xs ≡ None
absent test i [] none = refl
absent test i (x ∷ xs) none =
    let (first, rest) = parts_false (test x) (list_any test xs) none in
    ap (λ (b : Bool). cond b (Some i) (position_from test (i + 1) xs)) first ∙ absent test (i + 1) xs rest

module _ (w : ℕ → ℕ) where
  abbrev pub sum_at : List ℕ → ℕ
  sum_at [] = 0
  sum_at (i ∷ is) = w i + sum_at is

  abbrev pub at_place : Option ℕ → ℕ
  at_place None = 0
  at_place (Some i) = w i

  abbrev pub sum_from : List (Option ℕ) → ℕ
  sum_from [] = 0
  sum_from (o ∷ os) = at_place o + sum_from os

  -- all places of a list whose first is this
  abbrev pub sum_on : {A : Type 0} → ℕ → List A → ℕ
  sum_on i [] = 0
  sum_on i (x ∷ xs) = w i + sum_on (i + 1) xs

  none_from : (i : ℕ) (new : List TrackKey) → sum_from (map (λ (n : TrackKey). position_from (same_key n) i []) new) ≡ 0
  none_from i [] = refl
  none_from i (n ∷ ns) = let rest = none_from i ns in omega (arith, rest)

  goes_or_comes : (b : Bool) (i : ℕ) (is : List ℕ) → sum_at (cond (not b) (i ∷ is) is) + cond b (w i) 0 ≡ w i + sum_at is
  goes_or_comes true i is = omega arith
  goes_or_comes false i is = omega arith

  module _ (k : TrackKey) (i : ℕ) (f : TrackKey → Option ℕ) (none : (n : TrackKey) → same_key n k ≡ true → f n ≡ None) where
    -- of keys that differ at most one is the same as a key
    one_from : (new : List TrackKey) → has_double new ≡ false
        → sum_from (map (λ (n : TrackKey). cond (same_key n k) (Some i) (f n)) new) ≡ cond (is_among new k) (w i) 0 + sum_from (map f new)
    one_from [] differ = omega arith
    one_from (n ∷ ns) differ = by_test (same_key n k) refl (one_from ns (parts_false (is_among ns n) (has_double ns) differ).1)
      where
        by_test : (b : Bool) → same_key n k ≡ b
            → sum_from (map (λ (n : TrackKey). cond (same_key n k) (Some i) (f n)) ns) ≡ cond (is_among ns k) (w i) 0 + sum_from (map f ns)
            → at_place (cond (same_key n k) (Some i) (f n)) + sum_from (map (λ (n : TrackKey). cond (same_key n k) (Some i) (f n)) ns)
            ≡ cond (same_key k n || is_among ns k) (w i) 0 + (at_place (f n) + sum_from (map f ns))
        by_test true same more =
            let rest : is_among ns k ≡ false = ap (is_among ns) (sym ((same_key-Decides n k).0 same)) ∙ (parts_false (is_among ns n) (has_double ns) differ).0 in
            let first = ap (λ (b : Bool). at_place (cond b (Some i) (f n))) same in
            let last = more ∙ ap (λ (b : Bool). cond b (w i) 0 + sum_from (map f ns)) rest in
            let here = ap (λ (b : Bool). cond (b || is_among ns k) (w i) 0) (same_key_equiv.symm k n ∙ same) in
            let nothing = ap at_place (none n same) in
            omega (arith, first, last, here, nothing)
        by_test false other more =
            let first = ap (λ (b : Bool). at_place (cond b (Some i) (f n))) other in
            let here = ap (λ (b : Bool). cond (b || is_among ns k) (w i) 0) (same_key_equiv.symm k n ∙ other) in
            omega (arith, first, more, here)

  from_each : (old new : List TrackKey) (i : ℕ) → has_double old ≡ false → has_double new ≡ false
      → sum_at (places_from (λ (k : TrackKey). not (is_among new k)) i old) + sum_from (map (λ (n : TrackKey). position_from (same_key n) i old) new) ≡ sum_on i old
  from_each [] new i one differ = let none = none_from i new in omega (arith, none)
  from_each (k ∷ ks) new i one differ =
      let (rest, ones) = parts_false (is_among ks k) (has_double ks) one in
      let more = from_each ks new (i + 1) ones differ in
      let comes = one_from k i (λ (n : TrackKey). position_from (same_key n) (i + 1) ks) (λ n same. absent (same_key n) (i + 1) ks (ap (is_among ks) ((same_key-Decides n k).0 same) ∙ rest)) new differ in
      let goes = goes_or_comes (is_among new k) i (places_from (λ (k : TrackKey). not (is_among new k)) (i + 1) ks) in
      omega (arith, more, comes, goes)

  pub each_once : (old new : List TrackKey) → has_double old ≡ false → has_double new ≡ false
      → sum_at (gone_places old new) + sum_from (map (row_of old) new) ≡ sum_on 0 old
  each_once old new one differ =
      ap (λ (f : TrackKey → Option ℕ). sum_at (gone_places old new) + sum_from (map f new)) (fun_ext (λ n. position_from-zero (same_key n) old)) ∙ from_each old new 0 one differ
