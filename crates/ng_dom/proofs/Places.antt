-- Places in lists.
use Rattle.std.proofs.Common.{◌≡◌, ◌≤◌, ◌<◌, ℕ, zero, suc, List, [], ◌∷◌, ◌++◌, length, map, get_or, refl, ap, sym, ◌∙◌, arith}
use Rattle.std.specs.Prelude.{slice_set}
use Rattle.std.specs.List.{insert, remove}
use Rattle.ng_dom.specs.Lists.{put_at, without_at, list_at, emptied_at}

pub put_at-insert : {X : Type 0} (i : ℕ) (x : X) (xs : List X) → i < length xs → insert xs i x ≡ put_at i x xs
put_at-insert i x [] h = absurd (omega arith)
put_at-insert zero x (y ∷ ys) h = refl
put_at-insert (suc i) x (y ∷ ys) h = ap (λ zs. y ∷ zs) (put_at-insert i x ys (omega arith))

pub put_at-end : {X : Type 0} (i : ℕ) (x : X) (xs : List X) → length xs ≤ i → xs ++ x ∷ [] ≡ put_at i x xs
put_at-end zero x [] h = refl
put_at-end (suc i) x [] h = refl
put_at-end zero x (y ∷ ys) h = absurd (omega arith)
put_at-end (suc i) x (y ∷ ys) h = ap (λ zs. y ∷ zs) (put_at-end i x ys (omega arith))

pub put_at-map : {X Y : Type 0} (f : X → Y) (i : ℕ) (x : X) (xs : List X) → map f (put_at i x xs) ≡ put_at i (f x) (map f xs)
put_at-map f zero x xs = refl
put_at-map f (suc i) x [] = refl
put_at-map f (suc i) x (y ∷ ys) = ap (λ zs. f y ∷ zs) (put_at-map f i x ys)

pub without_at-remove : {X : Type 0} (i : ℕ) (xs : List X) → i < length xs → remove xs i ≡ without_at i xs
without_at-remove i [] h = absurd (omega arith)
without_at-remove zero (y ∷ ys) h = refl
without_at-remove (suc i) (y ∷ ys) h = ap (λ zs. y ∷ zs) (without_at-remove i ys (omega arith))

pub without_at-past : {X : Type 0} (i : ℕ) (xs : List X) → length xs ≤ i → without_at i xs ≡ xs
without_at-past i [] h = refl
without_at-past zero (y ∷ ys) h = absurd (omega arith)
without_at-past (suc i) (y ∷ ys) h = ap (λ zs. y ∷ zs) (without_at-past i ys (omega arith))

pub without_at-map : {X Y : Type 0} (f : X → Y) (i : ℕ) (xs : List X) → map f (without_at i xs) ≡ without_at i (map f xs)
without_at-map f i [] = refl
without_at-map f zero (y ∷ ys) = refl
without_at-map f (suc i) (y ∷ ys) = ap (λ zs. f y ∷ zs) (without_at-map f i ys)

pub put_end : {X Y : Type 0} (f : X → Y) (i : ℕ) (x : X) (xs ys : List X) → ys ≡ xs ++ x ∷ [] → length xs ≤ i → map f ys ≡ put_at i (f x) (map f xs)
put_end f i x xs ys e h = rw (e, put_at-end i x xs h) (put_at-map f i x xs)

pub cut_past : {X Y : Type 0} (f : X → Y) (i : ℕ) (xs : List X) → length xs ≤ i → map f xs ≡ without_at i (map f xs)
cut_past f i xs h = sym (ap (map f) (without_at-past i xs h)) ∙ without_at-map f i xs

pub ruleset puts = (put_at-insert, put_at-end, put_at-map)

pub ruleset cuts = (without_at-remove, without_at-past, without_at-map)

pub list-past : {X Y : Type 0} (f : X → List Y) (i : ℕ) (ys : List X) → length ys ≤ i → [] ≡ list_at i (map f ys)
list-past f i [] h = refl
list-past f zero (y ∷ ys) h = absurd (omega arith)
list-past f (suc i) (y ∷ ys) h = list-past f i ys (omega arith)

pub list-or : {X Y : Type 0} (f : X → List Y) (i : ℕ) (ys : List X) (d : X) → i < length ys → f (get_or ys i d) ≡ list_at i (map f ys)
list-or f i [] d h = absurd (omega arith)
list-or f zero (x ∷ ys) d h = refl
list-or f (suc i) (x ∷ ys) d h = list-or f i ys d (omega arith)

pub emptied_set : {X Y : Type 0} (f : X → List Y) (i : ℕ) (v : X) (xs : List X) → i < length xs → f v ≡ [] → map f (slice_set xs i v) ≡ emptied_at i (map f xs)
emptied_set f i v [] h e = absurd (omega arith)
emptied_set f zero v (x ∷ xs) h e = ap (λ ys. ys ∷ map f xs) e
emptied_set f (suc i) v (x ∷ xs) h e = ap (λ ys. f x ∷ ys) (emptied_set f i v xs (omega arith) e)

pub emptied_past : {X Y : Type 0} (f : X → List Y) (i : ℕ) (xs : List X) → length xs ≤ i → map f xs ≡ emptied_at i (map f xs)
emptied_past f i [] h = refl
emptied_past f zero (x ∷ xs) h = absurd (omega arith)
emptied_past f (suc i) (x ∷ xs) h = ap (λ ys. f x ∷ ys) (emptied_past f i xs (omega arith))
