-- Some items of a list, in their order.
use Rattle.std.proofs.Common.{◌≡◌, ◌∙◌, ◌+◌, ◌≤◌, inl, inr, ℕ, zero, suc, Bool, true, false, cond, List, [], ◌∷◌, drop, slice_get, Some, refl, ap, sym, subst, arith}
use Rattle.std.specs.List.{filter}
use Rattle.ng_rows.specs.RowsInOrder.{IsPart}
use Rattle.ng_instances.specs.Instances.{Body, is_path}
use Rattle.ng_link.proofs.PathsBelow.{same_path}
use Rattle.ng_link.specs.Standing.{body_count}

pub none_part : {X : Type 0} (ys : List X) → IsPart [] ys
none_part [] = refl
none_part (y ∷ ys) = inl (none_part ys)

pub whole_part : {X : Type 0} (ys : List X) → IsPart ys ys
whole_part [] = refl
whole_part (y ∷ ys) = inr (ys, refl, whole_part ys)

-- some of them are some of the list
pub filter_part : {X : Type 0} (test : X → Bool) (xs ys : List X) → IsPart xs ys → IsPart (filter test xs) ys
filter_part test xs [] h = ap (filter test) h
filter_part test xs (y ∷ ys) (inl h) = inl (filter_part test xs ys h)
filter_part {X} test xs (y ∷ ys) (inr h) = by_test (test y) refl (filter_part test h.0 ys h.2)
  where
    left : List X
    left = filter test h.0

    by_test : (b : Bool) → test y ≡ b → IsPart left ys → IsPart (filter test xs) (y ∷ ys)
    by_test true is more = inr (left, ap (filter test) h.1 ∙ ap (λ (b : Bool). cond b (y ∷ left) left) is, more)
    by_test false is more = inl (subst (λ (zs : List X). IsPart zs ys) (sym (ap (filter test) h.1 ∙ ap (λ (b : Bool). cond b (y ∷ left) left) is)) more)

-- those from a place on are some of those from one before it on
pub part_before : {X : Type 0} (xs ys : List X) (n k : ℕ) → n ≤ k → IsPart xs (drop k ys) → IsPart xs (drop n ys)
part_before xs ys zero zero le h = h
part_before xs [] zero (suc k) le h = h
part_before xs (y ∷ ys) zero (suc k) le h = inl (part_before xs ys zero k (omega arith) h)
part_before xs ys (suc n) zero le h = absurd (omega (arith, le))
part_before xs [] (suc n) (suc k) le h = h
part_before xs (y ∷ ys) (suc n) (suc k) le h = part_before xs ys n k (omega (arith, le)) h

-- the item at a place, and some after it
pub part_at : {X : Type 0} (y : X) (zs ys : List X) (k : ℕ) → slice_get ys k ≡ Some y → IsPart zs (drop (k + 1) ys) → IsPart (y ∷ zs) (drop k ys)
part_at y zs [] k is h = absurd (cc)
part_at {X} y zs (x ∷ ys) zero is h = (let same : x ≡ y = cc in inr (zs, ap (λ (w : X). w ∷ zs) (sym same), h))
part_at {X} y zs (x ∷ ys) (suc k) is h = (let next : suc k + 1 ≡ suc (k + 1) = omega arith in part_at y zs ys k is (subst (λ (j : ℕ). IsPart zs (drop j (x ∷ ys))) next h))

-- ---- of bodies on paths that differ there is one such part with these paths

pub fewer_on : (q : List ℕ) (xs ys : List Body) → IsPart xs ys → body_count q xs ≤ body_count q ys
fewer_on q xs [] h = (let none = ap (body_count q) h in omega (arith, none))
fewer_on q xs (y ∷ ys) (inl h) = (let few = fewer_on q xs ys h in omega (arith, few))
fewer_on q xs (y ∷ ys) (inr h) =
    let few = fewer_on q h.0 ys h.2 in
    let same = ap (body_count q) h.1 in
    omega (arith, few, same)

-- where one has an item and the other has not, one of the paths is that of two
apart : (b : Body) (bs xs zs ys : List Body) → xs ≡ b ∷ zs → IsPart ys bs → ((q : List ℕ) → body_count q (b ∷ bs) ≤ 1) → body_count b.path xs ≡ body_count b.path ys → ⊥
apart b bs xs zs ys is part once same =
    let here : cond {A = ℕ} (is_path b.path b.path) 1 0 ≡ 1 = ap (λ (t : Bool). cond {A = ℕ} t 1 0) (same_path b.path) in
    let some = ap (body_count b.path) is in
    let few = fewer_on b.path ys bs part in
    let most = once b.path in
    omega (arith, here, some, few, most, same)

pub same_part : (bs xs ys : List Body) → IsPart xs bs → IsPart ys bs → ((q : List ℕ) → body_count q bs ≤ 1) → ((q : List ℕ) → body_count q xs ≡ body_count q ys) → xs ≡ ys
same_part [] xs ys h k once same = h ∙ sym k
same_part (b ∷ bs) xs ys (inl h) (inl k) once same = same_part bs xs ys h k (λ q. (let most = once q in omega (arith, most))) same
same_part (b ∷ bs) xs ys (inl h) (inr k) once same = absurd (apart b bs ys k.0 xs k.1 h once (sym (same b.path)))
same_part (b ∷ bs) xs ys (inr h) (inl k) once same = absurd (apart b bs xs h.0 ys h.1 k once (same b.path))
same_part (b ∷ bs) xs ys (inr h) (inr k) once same =
    let rest = same_part bs h.0 k.0 h.2 k.2 (λ q. (let most = once q in omega (arith, most)))
    (λ q. (let all = same q in let one = ap (body_count q) h.1 in let two = ap (body_count q) k.1 in omega (arith, all, one, two))) in
    h.1 ∙ (ap (λ (zs : List Body). b ∷ zs) rest ∙ sym k.1)
