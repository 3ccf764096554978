-- Paths of scopes: which are one, and which begin with which.
use Rattle.std.proofs.Common.{◌≡◌, ◌⊎◌, inl, inr, ◌≤◌, ◌<◌, ℕ, Bool, true, false, List, [], ◌∷◌, ◌++◌, refl, ap, ◌∙◌, sym, length, arith}
use Rattle.std.specs.Prelude.{◌==◌, ◌&&◌}
use Rattle.std.specs.Ordering.{is_gt, nat_cmp, ordering_then, ordering_reverse}
use Rattle.std.specs.declared.cmp.Ordering.{Ordering}
use Rattle.std.specs.declared.cmp.Ordering.TheVariants.{Less, Equal, Greater}
use Rattle.std.proofs.lemmas.Bool.{eqb-true, eq-eqb}
use Rattle.std.proofs.lemmas.Cmp.{tied_itself, nat_cmp_total, ranked}
use Rattle.ng_base.specs.Order.{path_cmp}
use Rattle.ng_behaviour.specs.Keys.{begins}

equal_first : (x : ℕ) (o : Ordering) → ordering_then (nat_cmp x x) o ≡ o
equal_first x o = ap (λ (c : Ordering). ordering_then c o) (tied_itself nat_cmp_total x)

pub after_shorter : (p between : List ℕ) (n : ℕ) → path_cmp (p ++ (between ++ n ∷ [])) p ≡ Greater
after_shorter [] [] n = refl
after_shorter [] (x ∷ xs) n = refl
after_shorter (x ∷ xs) between n = equal_first x (path_cmp (xs ++ (between ++ n ∷ [])) xs) ∙ after_shorter xs between n

-- which paths begin with one
pub begins_itself : (p : List ℕ) → begins p p ≡ true
begins_itself [] = refl
begins_itself (x ∷ xs) = ap (λ (b : Bool). b && begins xs xs) (eq-eqb x x refl) ∙ begins_itself xs

both : (b c : Bool) → (b && c) ≡ true → (b ≡ true) × (c ≡ true)
both true c e = (refl, e)
both false c e = absurd (cc)

-- what begins with a path is no shorter
pub begins_length : (p q : List ℕ) → begins p q ≡ true → length p ≤ length q
begins_length [] q e = omega arith
begins_length (x ∷ xs) [] e = absurd (cc)
begins_length (x ∷ xs) (y ∷ ys) e = let more = begins_length xs ys (both (x == y) (begins xs ys) e).1 in omega (arith, more)

pub not_begins : (p q : List ℕ) → (begins p q ≡ true → ⊥) → begins p q ≡ false
not_begins p q ne = by_test (begins p q) refl
  where
    by_test : (b : Bool) → begins p q ≡ b → b ≡ false
    by_test true e = absurd (ne e)
    by_test false e = refl

pub two_ways : {A : Type 0} (b : Bool) → b ≡ true → b ≡ false → A
two_ways true e f = absurd (cc)
two_ways false e f = absurd (cc)

pub begins_more : (p more : List ℕ) → begins p (p ++ more) ≡ true
begins_more [] more = refl
begins_more (x ∷ xs) more = ap (λ (b : Bool). b && begins xs (xs ++ more)) (eq-eqb x x refl) ∙ begins_more xs more

-- and so does what begins with it
pub begins_through : (p q r : List ℕ) → begins p q ≡ true → begins q r ≡ true → begins p r ≡ true
begins_through [] q r e f = refl
begins_through (x ∷ xs) [] r e f = absurd (cc)
begins_through (x ∷ xs) (y ∷ ys) [] e f = absurd (cc)
begins_through (x ∷ xs) (y ∷ ys) (z ∷ zs) e f =
    let one = both (x == y) (begins xs ys) e in
    let two = both (y == z) (begins ys zs) f in
    ap (λ (b : Bool). b && begins xs zs) (eq-eqb x z (eqb-true x y one.0 ∙ eqb-true y z two.0)) ∙ begins_through xs ys zs one.1 two.1

-- of two that a path begins with one begins with the other
pub begins_either : (p q r : List ℕ) → begins p r ≡ true → begins q r ≡ true → (begins p q ≡ true) ⊎ (begins q p ≡ true)
begins_either [] q r e f = inl refl
begins_either (x ∷ xs) [] r e f = inr refl
begins_either (x ∷ xs) (y ∷ ys) [] e f = absurd (cc)
begins_either (x ∷ xs) (y ∷ ys) (z ∷ zs) e f =
    let one = both (x == z) (begins xs zs) e in
    let two = both (y == z) (begins ys zs) f in
    step (eqb-true x z one.0 ∙ sym (eqb-true y z two.0)) (begins_either xs ys zs one.1 two.1)
  where
    step : x ≡ y → (begins xs ys ≡ true) ⊎ (begins ys xs ≡ true) → (((x == y) && begins xs ys) ≡ true) ⊎ (((y == x) && begins ys xs) ≡ true)
    step same (inl more) = inl (ap (λ (b : Bool). b && begins xs ys) (eq-eqb x y same) ∙ more)
    step same (inr more) = inr (ap (λ (b : Bool). b && begins ys xs) (eq-eqb y x (sym same)) ∙ more)

pub begins_each : (p q : List ℕ) → begins p q ≡ true → begins q p ≡ true → p ≡ q
begins_each [] [] e f = refl
begins_each [] (y ∷ ys) e f = absurd (cc)
begins_each (x ∷ xs) [] e f = absurd (cc)
begins_each (x ∷ xs) (y ∷ ys) e f =
    let one = both (x == y) (begins xs ys) e in
    let two = both (y == x) (begins ys xs) f in
    ap (λ (z : ℕ). z ∷ xs) (eqb-true x y one.0) ∙ ap (λ (zs : List ℕ). y ∷ zs) (begins_each xs ys one.1 two.1)

-- a path is not above those that begin with it
pub begins_after : (p q : List ℕ) → begins p q ≡ true → is_gt (path_cmp p q) ≡ false
begins_after [] [] e = refl
begins_after [] (y ∷ ys) e = refl
begins_after (x ∷ xs) [] e = absurd (cc)
begins_after (x ∷ xs) (y ∷ ys) e =
    let two = both (x == y) (begins xs ys) e in
    let same : path_cmp (x ∷ xs) (y ∷ ys) ≡ path_cmp xs ys = ap (λ (z : ℕ). ordering_then (nat_cmp x z) (path_cmp xs ys)) (sym (eqb-true x y two.0)) ∙ equal_first x (path_cmp xs ys) in
    ap is_gt same ∙ begins_after xs ys two.1

-- what stands between a path and one that begins with it begins with it, too
pub begins_between : (p e q : List ℕ) → begins p q ≡ true → is_gt (path_cmp p e) ≡ false → is_gt (path_cmp e q) ≡ false → begins p e ≡ true
begins_between [] e q b from to = refl
begins_between (x ∷ xs) [] q b from to = absurd (cc)
begins_between (x ∷ xs) (z ∷ zs) [] b from to = absurd (cc)
begins_between (x ∷ xs) (z ∷ zs) (y ∷ ys) b from to = by_order (nat_cmp x z) refl (begins_between xs zs ys two.1)
  where
    two : (x == y ≡ true) × (begins xs ys ≡ true)
    two = both (x == y) (begins xs ys) b

    by_order : (o : Ordering) → nat_cmp x z ≡ o → (is_gt (path_cmp xs zs) ≡ false → is_gt (path_cmp zs ys) ≡ false → begins xs zs ≡ true) → (x == z) && begins xs zs ≡ true
    by_order Less e more =
        let lt : x < z = ranked x z Less (sym e) in
        let back : nat_cmp z y ≡ Greater = ap (nat_cmp z) (sym (eqb-true x y two.0)) ∙ (nat_cmp_total.antisymm z x ∙ ap ordering_reverse e) in
        absurd (let no_way : true ≡ false = sym (ap (λ (o : Ordering). is_gt (ordering_then o (path_cmp zs ys))) back) ∙ to in cc)
    by_order Equal e more =
        let same : x ≡ z = ranked x z Equal (sym e) in
        let first : is_gt (path_cmp xs zs) ≡ false = sym (ap (λ (o : Ordering). is_gt (ordering_then o (path_cmp xs zs))) e) ∙ from in
        let equal : nat_cmp z y ≡ Equal = ap (nat_cmp z) (sym (eqb-true x y two.0) ∙ same) ∙ tied_itself nat_cmp_total z in
        let second : is_gt (path_cmp zs ys) ≡ false = sym (ap (λ (o : Ordering). is_gt (ordering_then o (path_cmp zs ys))) equal) ∙ to in
        ap (λ (t : Bool). t && begins xs zs) (eq-eqb x z same) ∙ more first second
    by_order Greater e more = absurd (let no_way : true ≡ false = sym (ap (λ (o : Ordering). is_gt (ordering_then o (path_cmp xs zs))) e) ∙ from in cc)
