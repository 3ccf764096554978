-- Outlets of which one has other bodies, and how often a path is that of a body in them.
use Rattle.std.proofs.Common.{◌≡◌, ◌⊎◌, inl, inr, ◌≤◌, ◌<◌, ℕ, zero, suc, Bool, true, false, List, [], ◌∷◌, Some, refl, ap, sym, subst, ◌∙◌, arith, slice_get}
use Rattle.std.specs.Prelude.{◌==◌}
use Rattle.std.specs.List.{AllByRecursion}
use Rattle.std.proofs.lemmas.Bool.{eqb-true, eq-eqb}
use Rattle.ng_drawing.specs.Template.{Outlet}
use Rattle.ng_instances.specs.Instances.{Body, OutletState, with_body, body_added, with_bodies, bodies_arranged, without_body, body_gone}
use Rattle.ng_link.specs.Standing.{body_count, held_count}
use Rattle.ng_commands.specs.Settled.{AreOutlets}
use Rattle.ng_page.proofs.Bodies.{filter_none}

-- what holds at each place holds of all
pub all_by_place : (P : OutletState → Type 0) (xs : List OutletState) → ((j : ℕ) (x : OutletState) → slice_get xs j ≡ Some x → P x) → AllByRecursion P xs
all_by_place P [] each = tt
all_by_place P (x ∷ xs) each = (each 0 x refl, all_by_place P xs (λ j y at. each (suc j) y at))

-- two places are one, or not
pub by_same_place : (P : Type 0) (i j : ℕ) → (i ≡ j → P) → ((i ≡ j → ⊥) → P) → P
by_same_place P i j same other = by_test (i == j) refl
  where
    by_test : (t : Bool) → (i == j) ≡ t → P
    by_test true e = same (eqb-true i j e)
    by_test false e = other (λ one. let two : true ≡ false = sym (eq-eqb i j one) ∙ e in cc)

-- ---- a path that an outlet has a body on, no other has

pub count_within : (q : List ℕ) (xs : List OutletState) (j : ℕ) (x : OutletState) → slice_get xs j ≡ Some x → body_count q x.bodies ≤ held_count q xs
count_within q [] j x at = absurd (cc)
count_within q (y ∷ xs) zero x at = let same : y ≡ x = cc in subst (λ (z : OutletState). body_count q z.bodies ≤ held_count q (y ∷ xs)) same (omega arith)
count_within q (y ∷ xs) (suc j) x at = let more = count_within q xs j x at in omega (arith, more)

pub alone_there : (q : List ℕ) (xs : List OutletState) (o j : ℕ) (x y : OutletState) → held_count q xs ≤ 1 → slice_get xs o ≡ Some x → 0 < body_count q x.bodies → slice_get xs j ≡ Some y → (j ≡ o → ⊥) → body_count q y.bodies ≡ 0
alone_there q [] o j x y once at some there other = absurd (cc)
alone_there q (z ∷ xs) zero zero x y once at some there other = absurd (other refl)
alone_there q (z ∷ xs) zero (suc j) x y once at some there other =
    let same : z ≡ x = cc in
    let here : 0 < body_count q z.bodies = subst (λ (w : OutletState). 0 < body_count q w.bodies) (sym same) some in
    let low = count_within q xs j y there in
    omega (arith, once, here, low)
alone_there q (z ∷ xs) (suc o) zero x y once at some there other =
    let same : z ≡ y = cc in
    let low = count_within q xs o x at in
    let none : body_count q z.bodies ≡ 0 = omega (arith, once, some, low) in
    ap (λ (w : OutletState). body_count q w.bodies) (sym same) ∙ none
alone_there q (z ∷ xs) (suc o) (suc j) x y once at some there other = alone_there q xs o j x y (omega (arith, once)) at some there (λ e. other (ap suc e))

-- ---- one outlet has other bodies

pub record IsAlike (o j : ℕ) (x y : OutletState) : Type 0 where
  pub serial : y.serial ≡ x.serial
  pub filling : y.filling ≡ x.filling
  pub scope : y.scope ≡ x.scope
  pub bodies : (j ≡ o → ⊥) → y.bodies ≡ x.bodies

abbrev pub Altered : ℕ → List OutletState → List OutletState → Type 0
Altered o xs ys = (j : ℕ) (y : OutletState) → slice_get ys j ≡ Some y → (x : OutletState) × (slice_get xs j ≡ Some x) × IsAlike o j x y

pub altered_first : (o : ℕ) (xs : List OutletState) → Altered o xs xs
altered_first o xs j y at = (y, at, record { serial = refl; filling = refl; scope = refl; bodies = λ other. refl })

pub altered_on : (o : ℕ) (xs ys zs : List OutletState) → Altered o xs ys → Altered o ys zs → Altered o xs zs
altered_on o xs ys zs first next j z at =
    let two = next j z at in
    let one = first j two.0 two.1 in (
      one.0,
      one.1,
      record {
        serial = two.2.serial ∙ one.2.serial;
        filling = two.2.filling ∙ one.2.filling;
        scope = two.2.scope ∙ one.2.scope;
        bodies = λ other. two.2.bodies other ∙ one.2.bodies other;
      },
    )

-- what is at a place of outlets of which one was changed
abbrev pub ChangedAt : (OutletState → OutletState) → ℕ → List OutletState → ℕ → OutletState → Type 0
ChangedAt f o xs j x = (y : OutletState) × (slice_get xs j ≡ Some y) × (((o ≡ j → ⊥) × (x ≡ y)) ⊎ ((o ≡ j) × (x ≡ f y)))

further : (f : OutletState → OutletState) (o : ℕ) (z : OutletState) (xs : List OutletState) (j : ℕ) (x : OutletState) → ChangedAt f o xs j x → ChangedAt f (suc o) (z ∷ xs) (suc j) x
further f o z xs j x (y, get, inl h) = (y, get, inl ((λ e. h.0 (omega (arith, e))), h.1))
further f o z xs j x (y, get, inr h) = (y, get, inr (ap suc h.0, h.1))

pub added_place : (o i : ℕ) (b : Body) (xs : List OutletState) (j : ℕ) (x : OutletState) → slice_get (body_added o i b xs) j ≡ Some x → ChangedAt (with_body i b) o xs j x
added_place o i b [] j x at = absurd (cc)
added_place zero i b (y ∷ xs) zero x at = (y, refl, inr (refl, let same : with_body i b y ≡ x = cc in sym same))
added_place zero i b (y ∷ xs) (suc j) x at = (x, at, inl ((λ e. omega (arith, e)), refl))
added_place (suc o) i b (y ∷ xs) zero x at = (y, refl, inl ((λ e. omega (arith, e)), let same : y ≡ x = cc in sym same))
added_place (suc o) i b (y ∷ xs) (suc j) x at = further (with_body i b) o y xs j x (added_place o i b xs j x at)

pub arranged_place : (o : ℕ) (bs : List Body) (xs : List OutletState) (j : ℕ) (x : OutletState) → slice_get (bodies_arranged o bs xs) j ≡ Some x → ChangedAt (with_bodies bs) o xs j x
arranged_place o bs [] j x at = absurd (cc)
arranged_place zero bs (y ∷ xs) zero x at = (y, refl, inr (refl, let same : with_bodies bs y ≡ x = cc in sym same))
arranged_place zero bs (y ∷ xs) (suc j) x at = (x, at, inl ((λ e. omega (arith, e)), refl))
arranged_place (suc o) bs (y ∷ xs) zero x at = (y, refl, inl ((λ e. omega (arith, e)), let same : y ≡ x = cc in sym same))
arranged_place (suc o) bs (y ∷ xs) (suc j) x at = further (with_bodies bs) o y xs j x (arranged_place o bs xs j x at)

gone_place : (p : List ℕ) (xs : List OutletState) (j : ℕ) (x : OutletState) → slice_get (body_gone p xs) j ≡ Some x → (y : OutletState) × (slice_get xs j ≡ Some y) × (x ≡ without_body p y)
gone_place p [] j x at = absurd (cc)
gone_place p (y ∷ xs) zero x at = (y, refl, let same : without_body p y ≡ x = cc in sym same)
gone_place p (y ∷ xs) (suc j) x at = gone_place p xs j x at

-- a change that leaves number, filling and scope
changed_alike : (f : OutletState → OutletState) (o : ℕ) (xs : List OutletState) (j : ℕ) (x : OutletState) → ((y : OutletState) → IsAlike o o y (f y)) → ChangedAt f o xs j x → (y : OutletState) × (slice_get xs j ≡ Some y) × IsAlike o j y x
changed_alike f o xs j x keeps (y, get, inl h) = (y, get, record { serial = ap (λ (z : OutletState). z.serial) h.1; filling = ap (λ (z : OutletState). z.filling) h.1; scope = ap (λ (z : OutletState). z.scope) h.1; bodies = λ other. ap (λ (z : OutletState). z.bodies) h.1 })
changed_alike f o xs j x keeps (y, get, inr h) = (
  y,
  get,
  record {
    serial = ap (λ (z : OutletState). z.serial) h.1 ∙ (keeps y).serial;
    filling = ap (λ (z : OutletState). z.filling) h.1 ∙ (keeps y).filling;
    scope = ap (λ (z : OutletState). z.scope) h.1 ∙ (keeps y).scope;
    bodies = λ other. absurd (other (sym h.0));
  },
)

pub added_altered : (o i : ℕ) (b : Body) (xs : List OutletState) → Altered o xs (body_added o i b xs)
added_altered o i b xs j x at = changed_alike (with_body i b) o xs j x (λ y. record { serial = refl; filling = refl; scope = refl; bodies = λ other. absurd (other refl) }) (added_place o i b xs j x at)

pub arranged_altered : (o : ℕ) (bs : List Body) (xs : List OutletState) → Altered o xs (bodies_arranged o bs xs)
arranged_altered o bs xs j x at = changed_alike (with_bodies bs) o xs j x (λ y. record { serial = refl; filling = refl; scope = refl; bodies = λ other. absurd (other refl) }) (arranged_place o bs xs j x at)

-- a body that only one of them has goes
pub gone_altered : (o : ℕ) (p : List ℕ) (xs : List OutletState) → ((j : ℕ) (x : OutletState) → slice_get xs j ≡ Some x → (j ≡ o → ⊥) → body_count p x.bodies ≡ 0) → Altered o xs (body_gone p xs)
gone_altered o p xs apart j x at =
    let was = gone_place p xs j x at in (
      was.0,
      was.1,
      record {
        serial = ap (λ (z : OutletState). z.serial) was.2;
        filling = ap (λ (z : OutletState). z.filling) was.2;
        scope = ap (λ (z : OutletState). z.scope) was.2;
        bodies = λ other. ap (λ (z : OutletState). z.bodies) was.2 ∙ filter_none p was.0.bodies (apart j was.0 was.1 other);
      },
    )

-- ---- what holds of all, where one has these bodies

pub arranged_all : (P : OutletState → Type 0) (o : ℕ) (bs : List Body) (xs : List OutletState) → ((x : OutletState) → slice_get xs o ≡ Some x → P x → P (with_bodies bs x)) → AllByRecursion P xs → AllByRecursion P (bodies_arranged o bs xs)
arranged_all P o bs [] f all = tt
arranged_all P zero bs (x ∷ xs) f all = (f x refl all.0, all.1)
arranged_all P (suc o) bs (x ∷ xs) f all = (all.0, arranged_all P o bs xs f all.1)

pub arranged_outlets : (o : ℕ) (bs : List Body) (serials : List ℕ) (os : List Outlet) (xs : List OutletState) → AreOutlets serials os xs → AreOutlets serials os (bodies_arranged o bs xs)
arranged_outlets o bs serials [] [] h = tt
arranged_outlets o bs serials [] (x ∷ xs) h = absurd h
arranged_outlets o bs serials (y ∷ os) [] h = absurd h
arranged_outlets zero bs serials (y ∷ os) (x ∷ xs) h = h
arranged_outlets (suc o) bs serials (y ∷ os) (x ∷ xs) h = (h.0, arranged_outlets o bs serials os xs h.1)

none_at : (q : List ℕ) (xs : List OutletState) → ((j : ℕ) (x : OutletState) → slice_get xs j ≡ Some x → body_count q x.bodies ≡ 0) → held_count q xs ≡ 0
none_at q [] none = refl
none_at q (x ∷ xs) none = let here = none 0 x refl in let more = none_at q xs (λ j y at. none (suc j) y at) in omega (arith, here, more)

-- no path is that of two bodies
arranged_none : (q : List ℕ) (o : ℕ) (bs : List Body) (xs : List OutletState) → body_count q bs ≡ 0 → held_count q (bodies_arranged o bs xs) ≤ held_count q xs
arranged_none q o bs [] none = omega arith
arranged_none q zero bs (x ∷ xs) none = omega (arith, none)
arranged_none q (suc o) bs (x ∷ xs) none = let more = arranged_none q o bs xs none in omega (arith, more)

arranged_alone : (q : List ℕ) (o : ℕ) (bs : List Body) (xs : List OutletState) → body_count q bs ≤ 1 → ((j : ℕ) (x : OutletState) → slice_get xs j ≡ Some x → (j ≡ o → ⊥) → body_count q x.bodies ≡ 0) → held_count q (bodies_arranged o bs xs) ≤ 1
arranged_alone q o bs [] few apart = omega arith
arranged_alone q zero bs (x ∷ xs) few apart =
    let none : held_count q xs ≡ 0 = none_at q xs (λ j y at. apart (suc j) y at (λ e. omega (arith, e))) in
    omega (arith, few, none)
arranged_alone q (suc o) bs (x ∷ xs) few apart =
    let none : body_count q x.bodies ≡ 0 = apart 0 x refl (λ e. omega (arith, e)) in
    let more = arranged_alone q o bs xs few (λ j y at other. apart (suc j) y at (λ e. other (omega (arith, e)))) in
    omega (arith, none, more)

pub arranged_once : (q : List ℕ) (o : ℕ) (bs : List Body) (xs : List OutletState) → held_count q xs ≤ 1 → body_count q bs ≤ 1
    → (0 < body_count q bs → (j : ℕ) (x : OutletState) → slice_get xs j ≡ Some x → (j ≡ o → ⊥) → body_count q x.bodies ≡ 0) → held_count q (bodies_arranged o bs xs) ≤ 1
arranged_once q o bs xs once few apart = by_count (body_count q bs) refl
  where
    by_count : (n : ℕ) → body_count q bs ≡ n → held_count q (bodies_arranged o bs xs) ≤ 1
    by_count zero e = let less = arranged_none q o bs xs e in omega (arith, less, once)
    by_count (suc n) e = arranged_alone q o bs xs few (apart (omega (arith, e)))
