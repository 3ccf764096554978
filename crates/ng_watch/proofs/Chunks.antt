-- Chunks of rows, one after another, and what stands before and after a place in them.
use Rattle.std.proofs.Common.{◌≡◌, ◌<◌, ◌≤◌, ◌+◌, ◌-◌, ℕ, suc, zero, Bool, true, false, List, [], ◌∷◌, ◌++◌, Option, Some, None, Result, Ok, Err, refl, ap, sym, subst, ◌∙◌, length, take, drop, get_or, append_assoc, append-nil, arith}
use Rattle.std.specs.Prelude.{slice_get, IsSome, OnOk}
use Rattle.std.specs.Map.{lookup}
use Rattle.std.specs.BTreeMap.{insert_entry}
use Rattle.std.specs.List.{AllByRecursion, insert, remove, slice_set}
use Rattle.std.proofs.lemmas.List.{take-append-drop, take_all, drop_all, get_or_default, set_split}
use Rattle.ng_base.specs.declared.path.Key.{Key}
use Rattle.ng_watch.specs.Chunks.{Rows, joined, chunk_at, front, back, before, after, row_at, has_key, has_below, is_below, is_passed, AllBelow, NoneBelow, AllAbove, IsGap, IsEdge}
use Rattle.ng_behaviour.specs.Keys.{key_cmp, is_key}
use Rattle.ng_watch.specs.declared.watched.Watched.{Watched}
use Rattle.ng_watch.proofs.Rows.{Sorted, below_append, below_less, below_through, front_below, gap_above, sorted_first, sorted_second, lookup_hit, lookup_gap, insert_gap}

abbrev Row : Type 0
Row = Key × Watched

-- ---- lists

regroup : (a c d b : Rows) → a ++ ((c ++ d) ++ b) ≡ (a ++ c) ++ (d ++ b)
regroup a c d b = ap (λ (xs : Rows). a ++ xs) (append_assoc c d b) ∙ sym (append_assoc a c (d ++ b))

pub get_drop : (xs : Rows) (j : ℕ) (e : Row) → slice_get xs j ≡ Some e → drop j xs ≡ e ∷ drop (suc j) xs
get_drop [] j e h = absurd (cc)
get_drop (x ∷ xs) zero e h = let same : x ≡ e = cc in ap (λ (y : Row). y ∷ xs) same
get_drop (x ∷ xs) (suc j) e h = get_drop xs j e h

pub get_within : {X : Type 0} (xs : List X) (j : ℕ) (e : X) → slice_get xs j ≡ Some e → j < length xs
get_within [] j e h = absurd (cc)
get_within (x ∷ xs) zero e h = omega arith
get_within (x ∷ xs) (suc j) e h = omega (arith, get_within xs j e h)

get_is : {X : Type 0} (xs : List X) (j : ℕ) (e d : X) → Some e ≡ slice_get xs j → get_or xs j d ≡ e
get_is [] j e d h = absurd (cc)
get_is (x ∷ xs) zero e d h = let same : e ≡ x = cc in sym same
get_is (x ∷ xs) (suc j) e d h = get_is xs j e d h

pub get_there : (xs : Rows) (j : ℕ) → j < length xs → (e : Row) × (slice_get xs j ≡ Some e)
get_there [] j l = absurd (omega arith)
get_there (x ∷ xs) zero l = (x, refl)
get_there (x ∷ xs) (suc j) l = get_there xs j (omega arith)

all_get : (P : Row → Type 0) (xs : Rows) (j : ℕ) (e : Row) → AllByRecursion P xs → slice_get xs j ≡ Some e → P e
all_get P [] j e a h = absurd (cc)
all_get P (x ∷ xs) zero e a h = let same : x ≡ e = cc in subst P same a.0
all_get P (x ∷ xs) (suc j) e a h = all_get P xs j e a.1 h

-- ---- the whole

pub whole : (cs : List Rows) (i : ℕ) → joined cs ≡ front cs i ++ (chunk_at cs i ++ back cs i)
whole [] i = refl
whole (c ∷ cs) zero = refl
whole (c ∷ cs) (suc i) = ap (λ (xs : Rows). c ++ xs) (whole cs i) ∙ sym (append_assoc c (front cs i) (chunk_at cs i ++ back cs i))

pub parts : (cs : List Rows) (i j : ℕ) → joined cs ≡ before cs i j ++ after cs i j
parts cs i j = whole cs i ∙ ap (λ (c : Rows). front cs i ++ (c ++ back cs i)) (sym (take-append-drop j (chunk_at cs i))) ∙ regroup (front cs i) (take j (chunk_at cs i)) (drop j (chunk_at cs i)) (back cs i)

pub after_row : (cs : List Rows) (i j : ℕ) (e : Row) → row_at cs i j ≡ Some e → after cs i j ≡ e ∷ after cs i (suc j)
after_row cs i j e h = ap (λ (xs : Rows). xs ++ back cs i) (get_drop (chunk_at cs i) j e h)

pub parts_row : (cs : List Rows) (i j : ℕ) (e : Row) → row_at cs i j ≡ Some e → joined cs ≡ before cs i j ++ e ∷ after cs i (suc j)
parts_row cs i j e h = parts cs i j ∙ ap (λ (xs : Rows). before cs i j ++ xs) (after_row cs i j e h)

-- a place with a row has a chunk
pub chunk_within : (cs : List Rows) (i j : ℕ) (e : Row) → row_at cs i j ≡ Some e → i < length cs
chunk_within [] i j e h = absurd (cc)
chunk_within (c ∷ cs) zero j e h = omega arith
chunk_within (c ∷ cs) (suc i) j e h = omega (arith, chunk_within cs i j e h)

pub front_all : (cs : List Rows) (i : ℕ) → length cs ≤ i → front cs i ≡ joined cs
front_all [] i l = refl
front_all (c ∷ cs) zero l = absurd (omega arith)
front_all (c ∷ cs) (suc i) l = ap (λ (xs : Rows). c ++ xs) (front_all cs i (omega arith))

pub chunk_past : (cs : List Rows) (i : ℕ) → length cs ≤ i → chunk_at cs i ≡ []
chunk_past [] i l = refl
chunk_past (c ∷ cs) zero l = absurd (omega arith)
chunk_past (c ∷ cs) (suc i) l = chunk_past cs i (omega arith)

back_past : (cs : List Rows) (i : ℕ) → length cs ≤ i → back cs i ≡ []
back_past [] i l = refl
back_past (c ∷ cs) zero l = absurd (omega arith)
back_past (c ∷ cs) (suc i) l = back_past cs i (omega arith)

pub after_past : (cs : List Rows) (i j : ℕ) → length cs ≤ i → after cs i j ≡ []
after_past cs i j l = rw (chunk_past cs i l, back_past cs i l) (nothing j)
  where
    nothing : (j : ℕ) → drop {A = Row} j [] ++ [] ≡ []
    nothing zero = refl
    nothing (suc j) = refl

-- no row stands past the last chunk
pub place_past : (cs : List Rows) (i j m : ℕ) → length cs ≤ i → row_at cs i j ≡ slice_get (after cs i m) 0
place_past cs i j m l = rw (chunk_past cs i l) (nothing j) ∙ sym (ap (λ (es : Rows). slice_get es 0) (after_past cs i m l))
  where
    nothing : (j : ℕ) → slice_get (joined []) j ≡ None
    nothing zero = refl
    nothing (suc j) = refl

pub front_more : (cs : List Rows) (i : ℕ) → i < length cs → front cs (suc i) ≡ front cs i ++ chunk_at cs i
front_more [] i l = absurd (omega arith)
front_more (c ∷ cs) zero l = front_none cs c
  where
    front_none : (cs : List Rows) (c : Rows) → c ++ front cs zero ≡ c
    front_none [] c = append-nil c
    front_none (d ∷ cs) c = append-nil c
front_more (c ∷ cs) (suc i) l = ap (λ (xs : Rows). c ++ xs) (front_more cs i (omega arith)) ∙ sym (append_assoc c (front cs i) (chunk_at cs i))

-- the rows after a chunk are those of the next, and what comes after that
pub back_next : (cs : List Rows) (i : ℕ) → back cs i ≡ after cs (suc i) zero
back_next [] i = refl
back_next (c ∷ []) zero = refl
back_next (c ∷ d ∷ cs) zero = refl
back_next (c ∷ cs) (suc i) = back_next cs i

-- ---- changes

pub put : (cs : List Rows) (i : ℕ) (c : Rows) → i < length cs → joined (slice_set cs i c) ≡ front cs i ++ (c ++ back cs i)
put [] i c l = absurd (omega arith)
put (d ∷ cs) zero c l = refl
put (d ∷ cs) (suc i) c l = ap (λ (xs : Rows). d ++ xs) (put cs i c (omega arith)) ∙ sym (append_assoc d (front cs i) (c ++ back cs i))

pub cut : (cs : List Rows) (i : ℕ) → i < length cs → joined (remove cs i) ≡ front cs i ++ back cs i
cut [] i l = absurd (omega arith)
cut (d ∷ cs) zero l = refl
cut (d ∷ cs) (suc i) l = ap (λ (xs : Rows). d ++ xs) (cut cs i (omega arith)) ∙ sym (append_assoc d (front cs i) (back cs i))

pub put_two : (cs : List Rows) (i : ℕ) (a b : Rows) → i < length cs → joined (insert (slice_set cs i a) (suc i) b) ≡ front cs i ++ (a ++ (b ++ back cs i))
put_two [] i a b l = absurd (omega arith)
put_two (d ∷ cs) zero a b l = refl
put_two (d ∷ cs) (suc i) a b l = ap (λ (xs : Rows). d ++ xs) (put_two cs i a b (omega arith)) ∙ sym (append_assoc d (front cs i) (a ++ (b ++ back cs i)))

pub joined_push : (cs : List Rows) (c : Rows) → joined (cs ++ c ∷ []) ≡ joined cs ++ c
joined_push [] c = append-nil c
joined_push (d ∷ cs) c = ap (λ (xs : Rows). d ++ xs) (joined_push cs c) ∙ sym (append_assoc d (joined cs) c)

-- ---- a search

ended : (k : Key) (c : Rows) (e : Row) → slice_get c (length c - 1) ≡ Some e → is_below k e ≡ true → is_passed k c ≡ true
ended k c e h b = rw h b

-- where a chunk's last row is below a key, so are all rows up to there
pub passed : (k : Key) (cs : List Rows) (i : ℕ) (e : Row) → Sorted (joined cs) → i < length cs → slice_get (chunk_at cs i) (length (chunk_at cs i) - 1) ≡ Some e → is_below k e ≡ true → AllBelow k (front cs (suc i))
passed k cs i e s l h b =
    let j = length (chunk_at cs i) - 1 in
    let within : j < length (chunk_at cs i) = get_within (chunk_at cs i) j e h in
    let lower : AllBelow k (before cs i j) = below_through k e.0 (before cs i j) (below_less k e b) (front_below (before cs i j) (after cs i (suc j)) e (subst Sorted (parts_row cs i j e h) s)) in
    let end : drop (suc j) (chunk_at cs i) ≡ [] = drop_all (suc j) (chunk_at cs i) (omega arith) in
    let all : chunk_at cs i ≡ take j (chunk_at cs i) ++ e ∷ [] = sym (take-append-drop j (chunk_at cs i)) ∙ ap (λ (xs : Rows). take j (chunk_at cs i) ++ xs) (get_drop (chunk_at cs i) j e h ∙ ap (λ (xs : Rows). e ∷ xs) end) in
    subst (AllBelow k) (sym (front_more cs i l ∙ ap (λ (xs : Rows). front cs i ++ xs) all ∙ sym (append_assoc (front cs i) (take j (chunk_at cs i)) (e ∷ [])))) (below_append k (before cs i j) (e ∷ []) lower (b, tt))

-- a chunk whose last row is not below a key has a row that is not
pub stops_within : (k : Key) (c : Rows) (j : ℕ) → 0 < length c → is_passed k c ≡ false → j ≤ length c → AllBelow k (take j c) → j < length c
stops_within k c j some n l a = by_test (get_there c (length c - 1) (omega arith))
  where
    full : length c ≤ j → (e : Row) → slice_get c (length c - 1) ≡ Some e → ⊥
    full m e h =
        let all : AllBelow k c = subst (AllBelow k) (take_all j c m) a in
        let yes : is_passed k c ≡ true = ended k c e h (all_get (λ e. is_below k e ≡ true) c (length c - 1) e all h) in
        cc

    by_test : (e : Row) × (slice_get c (length c - 1) ≡ Some e) → j < length c
    by_test p = let no : length c ≤ j → ⊥ = λ m. full m p.0 p.1 in omega arith

pub none_after : (xs : Rows) → slice_get xs 0 ≡ None → xs ≡ []
none_after [] h = refl
none_after (x ∷ xs) h = absurd (cc)

-- the place where a search ends is the gap of a key that has no row there
pub gap : (k : Key) (cs : List Rows) (i j : ℕ) → Sorted (joined cs) → IsEdge k cs i j → has_key k (row_at cs i j) ≡ false → IsGap k (before cs i j) (after cs i j)
gap k cs i j s g n = by_row (row_at cs i j) refl
  where
    by_row : (o : Option Row) → row_at cs i j ≡ o → IsGap k (before cs i j) (after cs i j)
    by_row None is = record { lower = g.lower; upper = subst (AllAbove k) (sym (none_after (after cs i j) (g.row ∙ is))) tt }
    by_row (Some e) is =
        let rest = after_row cs i j e is in
        let up = subst Sorted (parts_row cs i j e is) s in
        record { lower = g.lower; upper = subst (AllAbove k) (sym rest) (gap_above k (after cs i (suc j)) e (sorted_second (before cs i j) (e ∷ after cs i (suc j)) up) (g.upper e is) (subst (λ (o : Option Row). has_key k o ≡ false) is n)) }

-- ---- what an index reads

pub read_at : (cs : List Rows) (i : ℕ) (r : Rows) → i < length cs → r ≡ get_or cs i r → r ≡ chunk_at cs i
read_at cs i r l is = is ∙ get_or_default cs i r [] l

some_of : (o : Option Row) → IsSome o → (e : Row) × (o ≡ Some e)
some_of None h = absurd (cc)
some_of (Some e) h = (e, refl)

pub there_within : (cs : List Rows) (i j : ℕ) → IsSome (row_at cs i j) → i < length cs
there_within cs i j h = let p = some_of (row_at cs i j) h in chunk_within cs i j p.0 p.1

-- the chunk of a place with a row is long enough
pub row_within : (cs : List Rows) (i j : ℕ) (r : Rows) → IsSome (row_at cs i j) → r ≡ get_or cs i r → j < length r
row_within cs i j r h is =
    let p = some_of (row_at cs i j) h in
    subst (λ (c : Rows). j < length c) (sym (read_at cs i r (chunk_within cs i j p.0 p.1) is)) (get_within (chunk_at cs i) j p.0 p.1)

pub read_row : (cs : List Rows) (i j : ℕ) (r : Rows) (e : Row) → row_at cs i j ≡ Some e → r ≡ get_or cs i r → slice_get r j ≡ Some e
read_row cs i j r e h is = ap (λ (c : Rows). slice_get c j) (read_at cs i r (chunk_within cs i j e h) is) ∙ h

pub on_ok : {T E : Type 0} {P Q : Type 0} (r : Result T E) → (P → Q) → OnOk r P → OnOk r Q
on_ok (Ok x) f p = f p
on_ok (Err e) f p = tt

-- an index is read twice
pub read_again : (cs : List Rows) (i : ℕ) (r : Rows) → r ≡ get_or cs i r → get_or cs i r ≡ get_or cs i (get_or cs i r)
read_again cs i r is = ap (λ (c : Rows). get_or cs i c) is

-- a row is written
pub written : (cs : List Rows) (i j : ℕ) (r n : Rows) (e d : Row) → row_at cs i j ≡ Some e → r ≡ get_or cs i r → (slice_get r j ≡ Some e → n ≡ slice_set r j d) → joined (slice_set cs i n) ≡ before cs i j ++ d ∷ after cs i (suc j)
written cs i j r n e d h is set =
    let l = chunk_within cs i j e h in
    let same : r ≡ chunk_at cs i = read_at cs i r l is in
    let w : n ≡ take j (chunk_at cs i) ++ d ∷ drop (suc j) (chunk_at cs i) = set (subst (λ (c : Rows). slice_get c j ≡ Some e) (sym same) h) ∙ ap (λ (c : Rows). slice_set c j d) same ∙ set_split (chunk_at cs i) j d (get_within (chunk_at cs i) j e h) in
    put cs i n l ∙ ap (λ (c : Rows). front cs i ++ (c ++ back cs i)) w ∙ regroup (front cs i) (take j (chunk_at cs i)) (d ∷ drop (suc j) (chunk_at cs i)) (back cs i)

-- a row is put in
pub put_in_chunk : (cs : List Rows) (i j : ℕ) (r n : Rows) (d : Row) → i < length cs → r ≡ get_or cs i r → n ≡ insert r j d → joined (slice_set cs i n) ≡ before cs i j ++ d ∷ after cs i j
put_in_chunk cs i j r n d l is set =
    let w : n ≡ take j (chunk_at cs i) ++ d ∷ drop j (chunk_at cs i) = set ∙ ap (λ (c : Rows). insert c j d) (read_at cs i r l is) in
    put cs i n l ∙ ap (λ (c : Rows). front cs i ++ (c ++ back cs i)) w ∙ regroup (front cs i) (take j (chunk_at cs i)) (d ∷ drop j (chunk_at cs i)) (back cs i)

-- a row is taken out
pub taken_from_chunk : (cs : List Rows) (i j : ℕ) (r n : Rows) → IsSome (row_at cs i j) → r ≡ get_or cs i r → n ≡ remove r j → joined (slice_set cs i n) ≡ before cs i j ++ after cs i (suc j)
taken_from_chunk cs i j r n h is set =
    let l = there_within cs i j h in
    let w : n ≡ take j (chunk_at cs i) ++ drop (suc j) (chunk_at cs i) = set ∙ ap (λ (c : Rows). remove c j) (read_at cs i r l is) in
    put cs i n l ∙ ap (λ (c : Rows). front cs i ++ (c ++ back cs i)) w ∙ regroup (front cs i) (take j (chunk_at cs i)) (drop (suc j) (chunk_at cs i)) (back cs i)

only_row : (c : Rows) (j : ℕ) → j < length c → length c ≤ 1 → (take j c ≡ []) × (drop (suc j) c ≡ [])
only_row [] j l m = absurd (omega arith)
only_row (e ∷ []) zero l m = (refl, refl)
only_row (e ∷ []) (suc j) l m = absurd (omega arith)
only_row (e ∷ d ∷ c) j l m = absurd (omega arith)

-- a chunk is taken out with its only row
pub taken_with_chunk : (cs : List Rows) (i j : ℕ) (r : Rows) (n : List Rows) → IsSome (row_at cs i j) → r ≡ get_or cs i r → length r ≤ 1 → n ≡ remove cs i → joined n ≡ before cs i j ++ after cs i (suc j)
taken_with_chunk cs i j r n h is m set =
    let l = there_within cs i j h in
    let same : r ≡ chunk_at cs i = read_at cs i r l is in
    let one = only_row (chunk_at cs i) j (subst (λ (c : Rows). j < length c) same (row_within cs i j r h is)) (subst (λ (c : Rows). length c ≤ 1) same m) in
    ap joined set ∙ cut cs i l ∙ rw (one.0, one.1, append-nil (front cs i)) refl

-- a chunk is parted
pub parted_chunk : (cs n : List Rows) (i : ℕ) (r a b : Rows) → i < length cs → r ≡ get_or cs i r → r ≡ a ++ b → n ≡ insert (slice_set cs i a) (i + 1) b → joined n ≡ joined cs
parted_chunk cs n i r a b l is two set =
    let next : i + 1 ≡ suc i = omega arith in
    let same : chunk_at cs i ≡ a ++ b = sym (read_at cs i r l is) ∙ two in
    ap joined set ∙ ap (λ (m : ℕ). joined (insert (slice_set cs i a) m b)) next ∙ put_two cs i a b l ∙ ap (λ (xs : Rows). front cs i ++ xs) (sym (append_assoc a b (back cs i))) ∙ ap (λ (c : Rows). front cs i ++ (c ++ back cs i)) (sym same) ∙ sym (whole cs i)

-- ---- the rows next to a place

pub first_joined : (cs : List Rows) (r : Rows) (e : Row) → Some r ≡ slice_get cs 0 → slice_get r 0 ≡ Some e → Some e ≡ slice_get (joined cs) 0
first_joined [] r e h g = absurd (cc)
first_joined (c ∷ cs) r e h g = let same : r ≡ c = cc in by_chunk c (subst (λ (x : Rows). slice_get x 0 ≡ Some e) same g)
  where
    by_chunk : (c : Rows) → slice_get c 0 ≡ Some e → Some e ≡ slice_get (c ++ joined cs) 0
    by_chunk [] g = absurd (cc)
    by_chunk (x ∷ c) g = sym g

pub first_place : (cs : List Rows) (i : ℕ) (r : Rows) (e : Row) → i < length cs → r ≡ get_or cs i r → slice_get r 0 ≡ Some e → row_at cs i 0 ≡ slice_get (after cs i 0) 0
first_place cs i r e l is g =
    let there : row_at cs i 0 ≡ Some e = subst (λ (c : Rows). slice_get c 0 ≡ Some e) (read_at cs i r l is) g in
    there ∙ sym (ap (λ (es : Rows). slice_get es 0) (after_row cs i 0 e there))

pub next_within : (cs : List Rows) (i j : ℕ) (r : Rows) → i < length cs → r ≡ get_or cs i r → j < length r - 1 → row_at cs i (j + 1) ≡ slice_get (after cs i (suc j)) 0
next_within cs i j r l is m =
    let next : j + 1 ≡ suc j = omega arith in
    let p = get_there (chunk_at cs i) (suc j) (subst (λ (c : Rows). suc j < length c) (read_at cs i r l is) (omega arith)) in
    ap (row_at cs i) next ∙ p.1 ∙ sym (ap (λ (es : Rows). slice_get es 0) (after_row cs i (suc j) p.0 p.1))

-- past the last row of a chunk the next one follows
pub rest_chunk : (cs : List Rows) (i j : ℕ) (r : Rows) → i < length cs → r ≡ get_or cs i r → length r - 1 ≤ j → after cs (i + 1) 0 ≡ after cs i (suc j)
rest_chunk cs i j r l is m =
    let next : i + 1 ≡ suc i = omega arith in
    let end : drop (suc j) (chunk_at cs i) ≡ [] = drop_all (suc j) (chunk_at cs i) (subst (λ (c : Rows). length c ≤ suc j) (read_at cs i r l is) (omega arith)) in
    ap (λ (k : ℕ). after cs k 0) next ∙ sym (back_next cs i) ∙ ap (λ (es : Rows). es ++ back cs i) (sym end)

pub next_chunk : (cs : List Rows) (i j : ℕ) (r : Rows) → i < length cs → r ≡ get_or cs i r → length r - 1 ≤ j → slice_get (after cs (i + 1) 0) 0 ≡ slice_get (after cs i (suc j)) 0
next_chunk cs i j r l is m = ap (λ (es : Rows). slice_get es 0) (rest_chunk cs i j r l is m)

pub rest_within : (cs : List Rows) (i j : ℕ) → after cs i (j + 1) ≡ after cs i (suc j)
rest_within cs i j = let next : j + 1 ≡ suc j = omega arith in ap (after cs i) next

pub rest_past : (cs : List Rows) (i j : ℕ) → length cs ≤ i → after cs i j ≡ after cs i (suc j)
rest_past cs i j l = after_past cs i j l ∙ sym (after_past cs i (suc j) l)

-- ---- the end

nothing_taken : (j : ℕ) → take {A = Row} j [] ≡ []
nothing_taken zero = refl
nothing_taken (suc j) = refl

pub past_end : (cs : List Rows) (i j : ℕ) (e : Row) → length cs ≤ i → joined cs ++ e ∷ [] ≡ before cs i j ++ e ∷ after cs i j
past_end cs i j e l = rw (front_all cs i l, chunk_past cs i l, back_past cs i l, nothing_taken j, nothing_left j, append-nil (joined cs)) refl
  where
    nothing_left : (j : ℕ) → drop {A = Row} j [] ≡ []
    nothing_left zero = refl
    nothing_left (suc j) = refl

pub end_is : (cs : List Rows) (r : Rows) (n : ℕ) → Some r ≡ slice_get cs (length cs - 1) → n ≡ length r → (before cs (length cs - 1) n ≡ joined cs) × (after cs (length cs - 1) n ≡ [])
end_is cs r n h same =
    let i = length cs - 1 in
    let l : i < length cs = get_within cs i r (sym h) in
    let is : chunk_at cs i ≡ r = get_is cs i r [] h in
    let long : length (chunk_at cs i) ≤ n = omega (arith, same, ap (length {A = Row}) is) in
    let over : length cs ≤ suc i = omega arith in (
      ap (λ (xs : Rows). front cs i ++ xs) (take_all n (chunk_at cs i) long) ∙ sym (front_more cs i l) ∙ front_all cs (suc i) over,
      ap (λ (xs : Rows). xs ++ back cs i) (drop_all n (chunk_at cs i) long) ∙ back_next cs i ∙ after_past cs (suc i) zero over,
    )

pub front_zero : (cs : List Rows) → front cs zero ≡ []
front_zero [] = refl
front_zero (c ∷ cs) = refl

pub nothing_passed : (k : Key) (cs : List Rows) (i : ℕ) → length cs ≤ i → is_passed k (chunk_at cs i) ≡ false
nothing_passed k cs i l = rw (chunk_past cs i l) refl

-- ---- where a search ends

pub sorted_chunk : (cs : List Rows) (i : ℕ) (r : Rows) → Sorted (joined cs) → i < length cs → r ≡ get_or cs i r → Sorted r
sorted_chunk cs i r s l is = subst Sorted (sym (read_at cs i r l is)) (sorted_first (chunk_at cs i) (back cs i) (sorted_second (front cs i) (chunk_at cs i ++ back cs i) (subst Sorted (whole cs i) s)))

pub edge_past : (k : Key) (cs : List Rows) (i : ℕ) → length cs ≤ i → AllBelow k (front cs i) → IsEdge k cs i zero
edge_past k cs i l a =
    let none : row_at cs i zero ≡ None = ap (λ (c : Rows). slice_get c zero) (chunk_past cs i l) in
    record {
      lower = subst (AllBelow k) (sym (append-nil (front cs i))) a;
      upper = λ e h. absurd (cc (none, h));
      row = ap (λ (es : Rows). slice_get es 0) (after_past cs i zero l) ∙ sym none;
    }

none_head : (k : Key) (xs ys : Rows) (e : Row) → xs ≡ e ∷ ys → NoneBelow k xs → is_below k e ≡ false
none_head k xs ys e is a = (subst (NoneBelow k) is a).0

pub edge_within : (k : Key) (cs : List Rows) (i j : ℕ) (r : Rows) → i < length cs → r ≡ get_or cs i r → AllBelow k (front cs i) → is_passed k (chunk_at cs i) ≡ false → 0 < length r → j ≤ length r → AllBelow k (take j r) → NoneBelow k (drop j r) → IsEdge k cs i j
edge_within k cs i j r l is a n some le lower upper =
    let same : r ≡ chunk_at cs i = read_at cs i r l is in
    let below : AllBelow k (take j (chunk_at cs i)) = subst (λ (c : Rows). AllBelow k (take j c)) same lower in
    let p = get_there (chunk_at cs i) j (stops_within k (chunk_at cs i) j (subst (λ (c : Rows). 0 < length c) same some) n (subst (λ (c : Rows). j ≤ length c) same le) below) in
    record {
      lower = below_append k (front cs i) (take j (chunk_at cs i)) a below;
      upper = λ e h. none_head k (drop j (chunk_at cs i)) (drop (suc j) (chunk_at cs i)) e (get_drop (chunk_at cs i) j e h) (subst (λ (c : Rows). NoneBelow k (drop j c)) same upper);
      row = ap (λ (es : Rows). slice_get es 0) (after_row cs i j p.0 p.1) ∙ sym p.1;
    }

-- a chunk that is passed: all rows up to there are below
pub passed_chunk : (k : Key) (cs : List Rows) (i : ℕ) → Sorted (joined cs) → i < length cs → is_passed k (chunk_at cs i) ≡ true → AllBelow k (front cs (i + 1))
passed_chunk k cs i s l h = by_row (slice_get (chunk_at cs i) (length (chunk_at cs i) - 1)) refl
  where
    by_row : (o : Option Row) → slice_get (chunk_at cs i) (length (chunk_at cs i) - 1) ≡ o → AllBelow k (front cs (i + 1))
    by_row None is = let no : has_below k None ≡ true = ap (has_below k) (sym is) ∙ h in absurd (cc)
    by_row (Some e) is =
        let next : suc i ≡ i + 1 = omega arith in
        subst (λ (n : ℕ). AllBelow k (front cs n)) next (passed k cs i e s l is (ap (has_below k) (sym is) ∙ h))

-- ---- what comes of a key at a place

pub row_of : (k : Key) (o : Option Row) → has_key k o ≡ true → (e : Row) × (o ≡ Some e) × (is_key k e.0 ≡ true)
row_of k None h = absurd (cc)
row_of k (Some e) h = (e, refl, h)

pub put_in_is : (k : Key) (w : Watched) (cs : List Rows) (i j : ℕ) → IsGap k (before cs i j) (after cs i j) → before cs i j ++ (k, w) ∷ after cs i j ≡ insert_entry key_cmp (joined cs) k w
put_in_is k w cs i j g = sym (insert_gap k w (before cs i j) (after cs i j) g) ∙ ap (λ (es : Rows). insert_entry key_cmp es k w) (sym (parts cs i j))

-- the gap of a key, in other chunks of the same rows
pub gap_kept : (k : Key) (cs : List Rows) (i j : ℕ) (ds : List Rows) (m n : ℕ) → Sorted (joined cs) → IsGap k (before cs i j) (after cs i j) → joined ds ≡ joined cs → IsEdge k ds m n → IsGap k (before ds m n) (after ds m n)
gap_kept k cs i j ds m n s g same edge = by_test (has_key k (row_at ds m n)) refl
  where
    sorted : Sorted (joined ds)
    sorted = subst Sorted (sym same) s

    none : lookup (is_key k) (joined ds) ≡ None
    none = ap (lookup (is_key k)) (same ∙ parts cs i j) ∙ lookup_gap k (before cs i j) (after cs i j) g

    by_test : (b : Bool) → has_key k (row_at ds m n) ≡ b → IsGap k (before ds m n) (after ds m n)
    by_test false is = gap k ds m n sorted edge is
    by_test true is =
        let r = row_of k (row_at ds m n) is in
        let there : joined ds ≡ before ds m n ++ r.0 ∷ after ds m (suc n) = parts_row ds m n r.0 r.1 in
        let some : lookup (is_key k) (joined ds) ≡ Some r.0.1 = ap (lookup (is_key k)) there ∙ lookup_hit k (before ds m n) (after ds m (suc n)) r.0 (subst Sorted there sorted) r.2 in
        absurd (cc (some, none))
