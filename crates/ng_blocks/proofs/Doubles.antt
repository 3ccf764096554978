-- Keys of which two are the same.
use Rattle.std.proofs.Common.{◌≡◌, ◌<◌, ℕ, ◌+◌, refl, Bool, true, false, ap, sym, ◌∙◌, List, [], ◌∷◌, ◌++◌, length, drop, get_or}
use Rattle.std.specs.Prelude.{◌||◌, not, if◌then◌else◌}
use Rattle.std.proofs.lemmas.List.{drop_more, append_assoc}
use Rattle.std.proofs.lemmas.List.Folds.{list_any-append}
use Rattle.ng_blocks.specs.SameKeys.{same_key, same_key_equiv}
use Rattle.ng_blocks.specs.Plans.{is_among, has_double}
use Rattle.ng_blocks.specs.declared.keys.TrackKey.{TrackKey}

either_true : (a b : Bool) → a ≡ true → (a || b) ≡ true
either_true true b h = refl
either_true false b h = absurd (cc)

second_true : (a b : Bool) → b ≡ true → (a || b) ≡ true
second_true true b h = refl
second_true false b h = h

none_true : (a b : Bool) → a ≡ false → b ≡ false → (a || b) ≡ false
none_true true b h i = absurd (cc)
none_true false b h i = i

which_true : (a b : Bool) (P : Bool → Type 0) → (a ≡ true → P true) → (b ≡ true → P true) → (a || b) ≡ true → P true
which_true true b P f g h = f refl
which_true false b P f g h = g h

parts_false : (a b : Bool) → (a || b) ≡ false → (a ≡ false) × (b ≡ false)
parts_false true b h = absurd (cc)
parts_false false b h = (refl, h)

-- a key that is among those before it makes a double
pub found_double : (ks rest : List TrackKey) (k : TrackKey) → is_among ks k ≡ true → has_double (ks ++ k ∷ rest) ≡ true
found_double [] rest k h = absurd (cc)
found_double (x ∷ xs) rest k h =
    which_true (same_key k x) (is_among xs k) (λ b. has_double ((x ∷ xs) ++ k ∷ rest) ≡ b)
    (λ e. either_true (is_among (xs ++ k ∷ rest) x) (has_double (xs ++ k ∷ rest))
    (list_any-append (same_key x) xs (k ∷ rest) ∙ second_true (is_among xs x) (is_among (k ∷ rest) x) (either_true (same_key x k) (is_among rest x) (same_key_equiv.symm x k ∙ e))))
    (λ e. second_true (is_among (xs ++ k ∷ rest) x) (has_double (xs ++ k ∷ rest)) (found_double xs rest k e))
    h

-- a key that is not among those before it makes none
pub no_double : (ks : List TrackKey) (k : TrackKey) → has_double ks ≡ false → is_among ks k ≡ false → has_double (ks ++ k ∷ []) ≡ false
no_double [] k d h = refl
no_double (x ∷ xs) k d h =
    let (dx, dxs) = parts_false (is_among xs x) (has_double xs) d in
    let (hx, hxs) = parts_false (same_key k x) (is_among xs k) h in
    none_true (is_among (xs ++ k ∷ []) x) (has_double (xs ++ k ∷ []))
    (list_any-append (same_key x) xs (k ∷ []) ∙ none_true (is_among xs x) (is_among (k ∷ []) x) dx (none_true (same_key x k) false (same_key_equiv.symm x k ∙ hx) refl))
    (no_double xs k dxs hxs)

-- the keys that were seen, the next one, and those after it
all_keys : (keys seen : List TrackKey) (i : ℕ) (k d : TrackKey) → seen ++ drop i keys ≡ keys → i < length keys → k ≡ get_or keys i d → seen ++ k ∷ drop (i + 1) keys ≡ keys
all_keys keys seen i k d all less at = ap (λ x. seen ++ x ∷ drop (i + 1) keys) at ∙ (ap (λ x. seen ++ x) (sym (drop_more keys i d less)) ∙ all)

not_false : (b : Bool) → not b ≡ false → b ≡ true
not_false true h = refl
not_false false h = absurd (cc)

not_true : (b : Bool) → not b ≡ true → b ≡ false
not_true true h = absurd (cc)
not_true false h = refl

-- the next key was seen before
pub seen_before : (keys seen : List TrackKey) (i : ℕ) (k d : TrackKey) (added : Bool) → seen ++ drop i keys ≡ keys → i < length keys → k ≡ get_or keys i d → added ≡ not (is_among seen k) → added ≡ false → has_double keys ≡ true
seen_before keys seen i k d added all less at is old =
    ap has_double (sym (all_keys keys seen i k d all less at)) ∙ found_double seen (drop (i + 1) keys) k (not_false (is_among seen k) (sym is ∙ old))

one_more : (seen now : List TrackKey) (k : TrackKey) (b : Bool) → now ≡ (if b then seen else seen ++ k ∷ []) → b ≡ false → now ≡ seen ++ k ∷ []
one_more seen now k true e h = absurd (cc)
one_more seen now k false e h = e

module _ (keys seen now : List TrackKey) (i : ℕ) (k d : TrackKey) (added : Bool) (is : added ≡ not (is_among seen k)) (yes : added ≡ true) (next : now ≡ (if is_among seen k then seen else seen ++ k ∷ [])) where
  fresh : is_among seen k ≡ false
  fresh = not_true (is_among seen k) (sym is ∙ yes)

  -- the next key is new, and stands after those that were seen
  pub still_all : seen ++ drop i keys ≡ keys → i < length keys → k ≡ get_or keys i d → now ++ drop (i + 1) keys ≡ keys
  still_all all less at = ap (λ x. x ++ drop (i + 1) keys) (one_more seen now k (is_among seen k) next fresh) ∙ (append_assoc seen (k ∷ []) (drop (i + 1) keys) ∙ all_keys keys seen i k d all less at)

  pub still_differ : has_double seen ≡ false → has_double now ≡ false
  still_differ differ = ap has_double (one_more seen now k (is_among seen k) next fresh) ∙ no_double seen k differ fresh
