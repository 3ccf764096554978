-- Keys whose numbers rise differ.
use Rattle.std.proofs.Common.{◌≡◌, ◌<◌, ◌≤◌, ◌+◌, ◌∙◌, ℕ, Bool, true, false, true≢false, List, [], ◌∷◌, Option, None, Some, drop, get_or, length, refl, ap, sym, arith}
use Rattle.std.specs.Prelude.{◌||◌, nat_lt, if◌then◌else◌}
use Rattle.std.specs.Option.{option_map_or}
use Rattle.std.proofs.lemmas.Bool.{ltb-false}
use Rattle.std.proofs.lemmas.List.{drop_more}
use Rattle.ng_blocks.specs.Plans.{has_double, is_among}
use Rattle.ng_blocks.specs.SameKeys.{same_key, same_key-Decides}
use Rattle.ng_blocks.specs.declared.keys.TrackKey.{TrackKey}
use Rattle.ng_rows.specs.Splices.{next_after, number_of, rise_from}

-- a key has a number that is at least this, and those behind it rise from there on
abbrev IsNext : ℕ → Option ℕ → (ℕ → Bool) → Type 0
IsNext n o f = (m : ℕ) × (o ≡ Some m) × (n ≤ m) × (f (m + 1) ≡ true)

next_is : (n : ℕ) (o : Option ℕ) (f : ℕ → Bool) → option_map_or f (next_after n o) false ≡ true → IsNext n o f
next_is n None f h = absurd (true≢false (sym h))
next_is n (Some m) f h = by (nat_lt m n) refl h
  where
    by : (b : Bool) → nat_lt m n ≡ b → option_map_or f (if b then None else Some (m + 1)) false ≡ true → IsNext n (Some m) f
    by true e k = absurd (true≢false (sym k))
    by false e k = (m, refl, ltb-false m n e, k)

either : (a b : Bool) → (a || b) ≡ true → (P : Type 0) → (a ≡ true → P) → (b ≡ true → P) → P
either true b h P f g = f refl
either false b h P f g = g h

none_true : (a b : Bool) → a ≡ false → b ≡ false → (a || b) ≡ false
none_true true b h i = absurd (cc)
none_true false b h i = i

-- each of them has one
each_has : (n : ℕ) (ks : List TrackKey) (k : TrackKey) → rise_from n ks ≡ true → is_among ks k ≡ true → (m : ℕ) × (number_of k ≡ Some m) × (n ≤ m)
each_has n [] k h a = absurd (true≢false (sym a))
each_has n (x ∷ ks) k h a =
    let x_next = next_is n (number_of x) (λ m. rise_from m ks) h in
    either (same_key k x) (is_among ks k) a ((m : ℕ) × (number_of k ≡ Some m) × (n ≤ m))
    (λ e. (x_next.0, ap number_of ((same_key-Decides k x).0 e) ∙ x_next.1, x_next.2))
    (λ e. (let more = each_has (x_next.0 + 1) ks k x_next.3 e in let far = more.2 in let first = x_next.2 in (more.0, more.1, omega (arith, far, first))))

-- so none is among those behind it
pub differ : (n : ℕ) (ks : List TrackKey) → rise_from n ks ≡ true → has_double ks ≡ false
differ n [] h = refl
differ n (k ∷ ks) h =
    let next = next_is n (number_of k) (λ m. rise_from m ks) h in
    none_true (is_among ks k) (has_double ks) (by next (is_among ks k) refl) (differ (next.0 + 1) ks next.3)
  where
    by : IsNext n (number_of k) (λ m. rise_from m ks) → (b : Bool) → is_among ks k ≡ b → is_among ks k ≡ false
    by next false e = e
    by next true e =
        let own = each_has (next.0 + 1) ks k next.3 e in
        let same : next.0 ≡ own.0 = one next.0 own.0 (sym next.1 ∙ own.1) in
        let far = own.2 in
        absurd (omega (arith, far, same))
      where
        one : (a b : ℕ) → (let x : Option ℕ = Some a in x) ≡ Some b → a ≡ b
        one a b e = cc

-- as they are read, one after another
pub rise_stops : (ks : List TrackKey) (i n : ℕ) (k : TrackKey) (o : Option ℕ) → i < length ks → k ≡ get_or ks i k → o ≡ next_after n (number_of k) → o ≡ None → rise_from n (drop i ks) ≡ false
rise_stops ks i n k o lt is next none =
    ap (rise_from n) (drop_more ks i k lt)
    ∙ (ap (λ (x : TrackKey). rise_from n (x ∷ drop (i + 1) ks)) (sym is)
    ∙ ap (λ (x : Option ℕ). option_map_or (λ m. rise_from m (drop (i + 1) ks)) x false) (sym next ∙ none))

pub rise_more : (ks : List TrackKey) (i n m : ℕ) (k : TrackKey) (o : Option ℕ) → i < length ks → k ≡ get_or ks i k → o ≡ next_after n (number_of k) → o ≡ Some m → rise_from n (drop i ks) ≡ rise_from m (drop (i + 1) ks)
rise_more ks i n m k o lt is next some =
    ap (rise_from n) (drop_more ks i k lt)
    ∙ (ap (λ (x : TrackKey). rise_from n (x ∷ drop (i + 1) ks)) (sym is)
    ∙ ap (λ (x : Option ℕ). option_map_or (λ m. rise_from m (drop (i + 1) ks)) x false) (sym next ∙ some))
