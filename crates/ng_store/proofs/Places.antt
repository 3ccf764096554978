-- A property that is written at its place.
use Rattle.std.proofs.Common.{◌≡◌, ◌∙◌, ◌<◌, ◌+◌, ℕ, zero, suc, Bool, true, false, List, [], ◌∷◌, Option, Some, None, refl, sym, ap, subst, bytes_eq, slice_get, length, is_some, if◌then◌else◌, cond, not, nat_lt, arith, true≢false}
use Rattle.std.proofs.lemmas.Bool.Decides.{nat_tests}
use Rattle.std.specs.List.{position, position_or_len}
use Rattle.std.proofs.lemmas.Slice.Eq.{bytes_eq-Decides}
use Rattle.std.specs.List.{AllByRecursion, IsDistinct}
use Rattle.std.specs.Map.{keys_of, lookup}
use Rattle.indexmap.specs.IndexMap.{insert_entry, set_value_at}
use Rattle.ng_store.proofs.Turned.{turned}

apart : {X : Type 0} (k : List ℕ) (es : List (List ℕ × X)) (i : ℕ) (e : List ℕ × X) → AllByRecursion (λ y. bytes_eq k y ≡ false) (keys_of es) → slice_get es i ≡ Some e → bytes_eq k e.0 ≡ false
apart k [] i e a g = absurd (cc)
apart k (x ∷ es) zero e a g =
    let is : x ≡ e = cc in
    subst (λ p. bytes_eq k p.0 ≡ false) is a.0
apart k (x ∷ es) (suc i) e a g = apart k es i e a.1 g

pub written_at : {X : Type 0} (es : List (List ℕ × X)) (k : List ℕ) (i : ℕ) (e : List ℕ × X) (v : X) → IsDistinct bytes_eq (keys_of es) → slice_get es i ≡ Some e → bytes_eq k e.0 ≡ true → insert_entry bytes_eq es k v ≡ set_value_at es i v
unfolding IsDistinct
written_at [] k i e v d g h = absurd (cc)
written_at (x ∷ es) k zero e v d g h =
    let same : x ≡ e = cc in
    let is : bytes_eq k x.0 ≡ true = ap (λ p. bytes_eq k p.0) same ∙ h in
    ap (λ b. if b then (x.0, v) ∷ es else x ∷ insert_entry bytes_eq es k v) is
written_at (x ∷ es) k (suc i) e v d g h =
    let same : k ≡ e.0 = (bytes_eq-Decides k e.0).0 h in
    let off : bytes_eq k x.0 ≡ false = turned k x.0 ∙ (ap (bytes_eq x.0) same ∙ apart x.0 es i e d.0 g) in
    ap (λ b. if b then (x.0, v) ∷ es else x ∷ insert_entry bytes_eq es k v) off ∙ ap (λ xs. x ∷ xs) (written_at es k i e v d.1 g h)

some_found : {X : Type 0} (b : Bool) (x : X) (o : Option X) → (b ≡ false → is_some o ≡ true) → is_some (cond b (Some x) o) ≡ true
some_found true x o h = refl
some_found false x o h = h refl

pub found_at : {X : Type 0} (es : List (List ℕ × X)) (k : List ℕ) (i : ℕ) (e : List ℕ × X) → slice_get es i ≡ Some e → bytes_eq k e.0 ≡ true → is_some (lookup (bytes_eq k) es) ≡ true
found_at [] k i e g h = absurd (cc)
found_at (x ∷ es) k zero e g h =
    let same : x ≡ e = cc in
    let is : bytes_eq k x.0 ≡ true = ap (λ p. bytes_eq k p.0) same ∙ h in
    ap (λ b. is_some (cond b (Some x.1) (lookup (bytes_eq k) es))) is
found_at (x ∷ es) k (suc i) e g h = some_found (bytes_eq k x.0) x.1 (lookup (bytes_eq k) es) (λ off. found_at es k i e g h)

first_one : {K X : Type 0} (b : Bool) (x : K × X) (v : X) (es fs : List (K × X)) (n : ℕ) → (b ≡ false → fs ≡ set_value_at es n v) → (if b then (x.0, v) ∷ es else x ∷ fs) ≡ set_value_at (x ∷ es) (cond (not b) (1 + n) 0) v
first_one true x v es fs n go = refl
first_one false x v es fs n go =
    let one : suc n ≡ 1 + n = omega arith in
    subst (λ j. (x ∷ fs) ≡ set_value_at (x ∷ es) j v) one (ap (λ xs. x ∷ xs) (go refl))

below : (b : Bool) (n m : ℕ) → cond (not b) (1 + n) 0 < suc m → b ≡ false → n < m
below true n m h off = absurd (true≢false off)
below false n m h off = omega (arith, h)

written_before : {X : Type 0} (es : List (List ℕ × X)) (k : List ℕ) (v : X) → position_or_len (bytes_eq k) (keys_of es) < length (keys_of es) → insert_entry bytes_eq es k v ≡ set_value_at es (position_or_len (bytes_eq k) (keys_of es)) v
written_before [] k v h = absurd (omega (arith, h))
written_before (x ∷ es) k v h =
    first_one (bytes_eq k x.0) x v es (insert_entry bytes_eq es k v) (position_or_len (bytes_eq k) (keys_of es))
    (λ off. written_before es k v (below (bytes_eq k x.0) (position_or_len (bytes_eq k) (keys_of es)) (length (keys_of es)) h off))

chosen : (b : Bool) (n i : ℕ) → cond b (Some n) None ≡ Some i → (b ≡ true) × (n ≡ i)
chosen true n i h =
    let same : n ≡ i = cc in
    (refl, same)
chosen false n i h = absurd (cc)

pub written_first : {X : Type 0} (es : List (List ℕ × X)) (k : List ℕ) (i : ℕ) (v : X) → position (bytes_eq k) (keys_of es) ≡ Some i → insert_entry bytes_eq es k v ≡ set_value_at es i v
written_first es k i v h =
    let n = position_or_len (bytes_eq k) (keys_of es) in
    let c = chosen (nat_lt n (length (keys_of es))) n i h in
    let less : n < length (keys_of es) = grind (arith, nat_tests, c.0) in
    subst (λ j. insert_entry bytes_eq es k v ≡ set_value_at es j v) c.1 (written_before es k v less)
