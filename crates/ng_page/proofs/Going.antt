-- The bodies that go at the fire of a site, one after another.
use Rattle.std.proofs.Common.{◌≡◌, ◌≤◌, ◌<◌, ◌+◌, ℕ, zero, suc, Bool, true, false, List, [], ◌∷◌, ◌++◌, cond, Some, refl, ap, sym, subst, ◌∙◌, arith, slice_get}
use Rattle.std.specs.Prelude.{◌||◌, ◌&&◌, not}
use Rattle.std.specs.BTreeMap.{is_at}
use Rattle.std.specs.List.{AllByRecursion, list_any, filter}
use Rattle.std.specs.Ordering.{nat_cmp}
use Rattle.ng_base.specs.Views.{ViewTree}
use Rattle.ng_drawing.specs.Template.{Filling}
use Rattle.ng_rows.specs.Chosen.{has_bodies, goes}
use Rattle.ng_instances.specs.Due.{Due, due_at, due_from}
use Rattle.ng_instances.specs.Instances.{Body, OutletState, is_path, is_filled_by, without_body, body_gone}
use Rattle.ng_link.specs.Standing.{body_count, held_count}
use Rattle.ng_link.proofs.PathsBelow.{same_path}
use Rattle.ng_page.proofs.Bodies.{all_mapped, gone_within, filter_none}
use Rattle.ng_commands.proofs.Watched.{all_map, all_both}

-- whether a path is that of one of these bodies
abbrev pub is_among : List Body → List ℕ → Bool
is_among bs p = list_any (λ (b : Body). is_path b.path p) bs

any_left : (p : Body → Bool) (bs cs : List Body) → list_any p bs ≡ true → list_any p (bs ++ cs) ≡ true
any_left p [] cs e = absurd (cc)
any_left p (b ∷ bs) cs e = by_test (p b) e (any_left p bs cs)
  where
    by_test : (t : Bool) → (t || list_any p bs) ≡ true → (list_any p bs ≡ true → list_any p (bs ++ cs) ≡ true) → (t || list_any p (bs ++ cs)) ≡ true
    by_test true e more = refl
    by_test false e more = more e

any_right : (p : Body → Bool) (bs cs : List Body) → list_any p cs ≡ true → list_any p (bs ++ cs) ≡ true
any_right p [] cs e = e
any_right p (b ∷ bs) cs e = by_test (p b) (any_right p bs cs e)
  where
    by_test : (t : Bool) → list_any p (bs ++ cs) ≡ true → (t || list_any p (bs ++ cs)) ≡ true
    by_test true more = refl
    by_test false more = more

all_append : (P : Body → Type 0) (bs cs : List Body) → AllByRecursion P bs → AllByRecursion P cs → AllByRecursion P (bs ++ cs)
all_append P [] cs one two = two
all_append P (b ∷ bs) cs one two = (one.0, all_append P bs cs one.1 two)

-- bodies are among themselves, and each is counted
all_among : (bs : List Body) → AllByRecursion (λ (b : Body). is_among bs b.path ≡ true) bs
all_among [] = tt
all_among (b ∷ bs) = (
  ap (λ (t : Bool). t || is_among bs b.path) (same_path b.path),
  all_map (λ (c : Body). is_among bs c.path ≡ true) (λ (c : Body). is_among (b ∷ bs) c.path ≡ true) bs (λ c e. any_right (λ (d : Body). is_path d.path c.path) (b ∷ []) bs e) (all_among bs),
)

all_counted : (bs : List Body) → AllByRecursion (λ (b : Body). 0 < body_count b.path bs) bs
all_counted [] = tt
all_counted (b ∷ bs) = (
  (let one : cond {A = ℕ} (is_path b.path b.path) 1 0 ≡ 1 = ap (λ (t : Bool). cond {A = ℕ} t 1 0) (same_path b.path) in omega (arith, one)),
  all_map (λ (c : Body). 0 < body_count c.path bs) (λ (c : Body). 0 < body_count c.path (b ∷ bs)) bs (λ c lt. omega (arith, lt)) (all_counted bs),
)

pub at_place : (P : OutletState → Type 0) (xs : List OutletState) (j : ℕ) (x : OutletState) → AllByRecursion P xs → slice_get xs j ≡ Some x → P x
at_place P [] j x all at = absurd (cc)
at_place P (y ∷ xs) zero x all at = let same : y ≡ x = cc in subst P same all.0
at_place P (y ∷ xs) (suc j) x all at = at_place P xs j x all.1 at

-- ---- the outlets of a site, by its number of registration, whose bodies go at a value

module _ (n : ℕ) (v : ViewTree) where
  abbrev pub leaves : OutletState → Bool
  leaves x = is_filled_by n x && goes x.filling v

  -- the bodies that go
  abbrev pub going : List OutletState → List Body
  going [] = []
  going (x ∷ xs) = cond (leaves x) (x.bodies ++ going xs) (going xs)

  -- how many bodies on a path these outlets have
  abbrev filled_count : List ℕ → List OutletState → ℕ
  filled_count p [] = 0
  filled_count p (x ∷ xs) = cond {A = ℕ} (leaves x) (body_count p x.bodies) 0 + filled_count p xs

  filled_held : (p : List ℕ) (xs : List OutletState) → filled_count p xs ≤ held_count p xs
  filled_held p [] = omega arith
  filled_held p (x ∷ xs) = by_test (leaves x) (filled_held p xs)
    where
      by_test : (t : Bool) → filled_count p xs ≤ held_count p xs → cond {A = ℕ} t (body_count p x.bodies) 0 + filled_count p xs ≤ held_count p (x ∷ xs)
      by_test true more = omega (arith, more)
      by_test false more = omega (arith, more)

  -- a path that one of them has, no other outlet has
  others_none : (p : List ℕ) (xs : List OutletState) → held_count p xs ≤ 1 → 0 < filled_count p xs → AllByRecursion (λ (x : OutletState). leaves x ≡ false → body_count p x.bodies ≡ 0) xs
  others_none p [] one some = tt
  others_none p (x ∷ xs) one some = by_test (leaves x) some (others_none p xs) (filled_held p xs)
    where
      none_further : (xs : List OutletState) → held_count p xs ≡ 0 → AllByRecursion (λ (x : OutletState). leaves x ≡ false → body_count p x.bodies ≡ 0) xs
      none_further [] e = tt
      none_further (x ∷ xs) e = ((λ off. omega (arith, e)), none_further xs (omega (arith, e)))

      by_test : (t : Bool) → 0 < cond {A = ℕ} t (body_count p x.bodies) 0 + filled_count p xs → (held_count p xs ≤ 1 → 0 < filled_count p xs → AllByRecursion (λ (x : OutletState). leaves x ≡ false → body_count p x.bodies ≡ 0) xs)
          → filled_count p xs ≤ held_count p xs → (t ≡ false → body_count p x.bodies ≡ 0) × AllByRecursion (λ (x : OutletState). leaves x ≡ false → body_count p x.bodies ≡ 0) xs
      by_test true some more held = ((λ off. absurd (cc)), by_count (filled_count p xs) refl)
        where
          by_count : (c : ℕ) → filled_count p xs ≡ c → AllByRecursion (λ (x : OutletState). leaves x ≡ false → body_count p x.bodies ≡ 0) xs
          by_count zero e = none_further xs (omega (arith, some, e, one, held))
          by_count (suc c) e = more (omega (arith, one)) (omega (arith, e))
      by_test false some more held = ((λ off. omega (arith, some, one, held)), more (omega (arith, one)) (omega (arith, some)))

  -- each body of theirs is counted
  going_counted : (xs : List OutletState) → AllByRecursion (λ (b : Body). 0 < filled_count b.path xs) (going xs)
  going_counted [] = tt
  going_counted (x ∷ xs) = by_test (leaves x) (going_counted xs)
    where
      by_test : (t : Bool) → AllByRecursion (λ (b : Body). 0 < filled_count b.path xs) (going xs)
          → AllByRecursion (λ (b : Body). 0 < cond {A = ℕ} t (body_count b.path x.bodies) 0 + filled_count b.path xs) (cond t (x.bodies ++ going xs) (going xs))
      by_test true more =
          all_append (λ (b : Body). 0 < body_count b.path x.bodies + filled_count b.path xs) x.bodies (going xs)
          (all_map (λ (b : Body). 0 < body_count b.path x.bodies) (λ (b : Body). 0 < body_count b.path x.bodies + filled_count b.path xs) x.bodies (λ b lt. omega (arith, lt)) (all_counted x.bodies))
          (all_map (λ (b : Body). 0 < filled_count b.path xs) (λ (b : Body). 0 < body_count b.path x.bodies + filled_count b.path xs) (going xs) (λ b lt. omega (arith, lt)) more)
      by_test false more = all_map (λ (b : Body). 0 < filled_count b.path xs) (λ (b : Body). 0 < 0 + filled_count b.path xs) (going xs) (λ b lt. omega (arith, lt)) more

  -- and each body of theirs is among them
  going_among : (xs : List OutletState) → AllByRecursion (λ (x : OutletState). leaves x ≡ true → AllByRecursion (λ (b : Body). is_among (going xs) b.path ≡ true) x.bodies) xs
  going_among [] = tt
  going_among (x ∷ xs) = by_test (leaves x) (going_among xs)
    where
      Among : List Body → OutletState → Type 0
      Among bs y = leaves y ≡ true → AllByRecursion (λ (b : Body). is_among bs b.path ≡ true) y.bodies

      further : (bs cs : List Body) (y : OutletState) → Among cs y → leaves y ≡ true → AllByRecursion (λ (b : Body). is_among (bs ++ cs) b.path ≡ true) y.bodies
      further bs cs y h on = all_map (λ (b : Body). is_among cs b.path ≡ true) (λ (b : Body). is_among (bs ++ cs) b.path ≡ true) y.bodies (λ b e. any_right (λ (d : Body). is_path d.path b.path) bs cs e) (h on)

      by_test : (t : Bool) → AllByRecursion (Among (going xs)) xs
          → (t ≡ true → AllByRecursion (λ (b : Body). is_among (cond t (x.bodies ++ going xs) (going xs)) b.path ≡ true) x.bodies) × AllByRecursion (Among (cond t (x.bodies ++ going xs) (going xs))) xs
      by_test true more = (
        (λ on. all_map (λ (b : Body). is_among x.bodies b.path ≡ true) (λ (b : Body). is_among (x.bodies ++ going xs) b.path ≡ true) x.bodies (λ b e. any_left (λ (d : Body). is_path d.path b.path) x.bodies (going xs) e) (all_among x.bodies)),
        all_map (Among (going xs)) (Among (x.bodies ++ going xs)) xs (λ y h. further x.bodies (going xs) y h) more,
      )
      by_test false more = ((λ on. absurd (cc)), more)

  -- ---- bodies that are to go: these outlets have no other, and no other outlet has one of them

  pub record Goes (bs : List Body) (x : OutletState) : Type 0 where
    pub among : leaves x ≡ true → AllByRecursion (λ (b : Body). is_among bs b.path ≡ true) x.bodies
    pub apart : leaves x ≡ false → AllByRecursion (λ (b : Body). body_count b.path x.bodies ≡ 0) bs

  -- what holds for each of these of each of those holds for each of those of each of these
  all_turned : (R : Body → OutletState → Type 0) (bs : List Body) (xs : List OutletState) → AllByRecursion (λ (b : Body). AllByRecursion (R b) xs) bs → AllByRecursion (λ (x : OutletState). AllByRecursion (λ (b : Body). R b x) bs) xs
  all_turned R [] [] h = tt
  all_turned R [] (x ∷ xs) h = (tt, all_turned R [] xs tt)
  all_turned R (b ∷ bs) xs h = all_both (R b) (λ (x : OutletState). AllByRecursion (λ (c : Body). R c x) bs) (λ (x : OutletState). R b x × AllByRecursion (λ (c : Body). R c x) bs) xs (λ x one more. (one, more)) h.0 (all_turned R bs xs h.1)

  pub goes_first : (xs : List OutletState) → ((q : List ℕ) → held_count q xs ≤ 1) → AllByRecursion (Goes (going xs)) xs
  goes_first xs once =
      all_both (λ (x : OutletState). leaves x ≡ true → AllByRecursion (λ (b : Body). is_among (going xs) b.path ≡ true) x.bodies)
      (λ (x : OutletState). AllByRecursion (λ (b : Body). leaves x ≡ false → body_count b.path x.bodies ≡ 0) (going xs))
      (Goes (going xs)) xs
      (λ x one two. record {
        among = one;
        apart = λ off. all_map (λ (b : Body). leaves x ≡ false → body_count b.path x.bodies ≡ 0) (λ (b : Body). body_count b.path x.bodies ≡ 0) (going xs) (λ b f. f off) two;
      })
      (going_among xs)
      (all_turned (λ (b : Body) (x : OutletState). leaves x ≡ false → body_count b.path x.bodies ≡ 0) (going xs) xs
      (all_map (λ (b : Body). 0 < filled_count b.path xs) (λ (b : Body). AllByRecursion (λ (x : OutletState). leaves x ≡ false → body_count b.path x.bodies ≡ 0) xs) (going xs) (λ b some. others_none b.path xs (once b.path) some) (going_counted xs)))

  -- one goes
  fewer_among : (p : List ℕ) (b : Body) (bs cs : List Body) → p ≡ b.path → AllByRecursion (λ (c : Body). is_among (b ∷ bs) c.path ≡ true) cs → AllByRecursion (λ (c : Body). is_among bs c.path ≡ true) (filter (λ (c : Body). not (is_path p c.path)) cs)
  fewer_among p b bs [] e all = tt
  fewer_among p b bs (c ∷ cs) e all = by_test (is_path p c.path) refl (fewer_among p b bs cs e all.1)
    where
      by_test : (t : Bool) → is_path p c.path ≡ t → AllByRecursion (λ (c : Body). is_among bs c.path ≡ true) (filter (λ (c : Body). not (is_path p c.path)) cs)
          → AllByRecursion (λ (c : Body). is_among bs c.path ≡ true) (cond (not t) (c ∷ filter (λ (c : Body). not (is_path p c.path)) cs) (filter (λ (c : Body). not (is_path p c.path)) cs))
      by_test true is more = more
      by_test false is more = (sym (ap (λ (t : Bool). t || is_among bs c.path) (ap (λ (q : List ℕ). is_path q c.path) (sym e) ∙ is)) ∙ all.0, more)

  one_goes : (b : Body) (bs : List Body) (x : OutletState) → Goes (b ∷ bs) x → Goes bs (without_body b.path x)
  one_goes b bs x h = record {
    among = λ on. fewer_among b.path b bs x.bodies refl (h.among on);
    apart = λ off. all_map (λ (c : Body). body_count c.path x.bodies ≡ 0) (λ (c : Body). body_count c.path (without_body b.path x).bodies ≡ 0) bs (λ c none. let fewer = gone_within b.path c.path x.bodies in omega (arith, fewer, none)) (h.apart off).1;
  }

  pub goes_on : (b : Body) (bs : List Body) (xs : List OutletState) → AllByRecursion (Goes (b ∷ bs)) xs → AllByRecursion (Goes bs) (body_gone b.path xs)
  goes_on b bs xs all = all_mapped (Goes (b ∷ bs)) (Goes bs) (without_body b.path) xs (one_goes b bs) all

  -- once all have gone, these outlets have none
  none_there : (bs : List Body) → AllByRecursion (λ (b : Body). is_among [] b.path ≡ true) bs → has_bodies bs ≡ false
  none_there [] all = refl
  none_there (b ∷ bs) all = let two : false ≡ true = all.0 in absurd (cc)

  pub goes_last : (xs : List OutletState) → AllByRecursion (Goes []) xs → AllByRecursion (λ (x : OutletState). leaves x ≡ true → has_bodies x.bodies ≡ false) xs
  goes_last xs all = all_map (Goes []) (λ (x : OutletState). leaves x ≡ true → has_bodies x.bodies ≡ false) xs (λ x h on. none_there x.bodies (h.among on)) all

  -- ---- what has become of outlets: an outlet whose bodies don't go has what it had

  pub record IsSpared (x y : OutletState) : Type 0 where
    pub serial : y.serial ≡ x.serial
    pub filling : y.filling ≡ x.filling
    pub scope : y.scope ≡ x.scope
    pub bodies : leaves x ≡ false → y.bodies ≡ x.bodies

  abbrev pub AreSpared : List OutletState → List OutletState → Type 0
  AreSpared xs ys = (j : ℕ) (y : OutletState) → slice_get ys j ≡ Some y → (x : OutletState) × (slice_get xs j ≡ Some x) × IsSpared x y

  pub spared_first : (xs : List OutletState) → AreSpared xs xs
  spared_first xs j y at = (y, at, record { serial = refl; filling = refl; scope = refl; bodies = λ off. refl })

  same_leaves : (x y : OutletState) → y.serial ≡ x.serial → y.filling ≡ x.filling → leaves y ≡ leaves x
  same_leaves x y serial filling = ap (λ (m : ℕ). is_at (nat_cmp n) m && goes y.filling v) serial ∙ ap (λ (f : Filling). is_at (nat_cmp n) x.serial && goes f v) filling

  gone_place : (p : List ℕ) (ys : List OutletState) (j : ℕ) (z : OutletState) → slice_get (body_gone p ys) j ≡ Some z → (y : OutletState) × (slice_get ys j ≡ Some y) × (z ≡ without_body p y)
  gone_place p [] j z at = absurd (cc)
  gone_place p (y ∷ ys) zero z at = (y, refl, let same : without_body p y ≡ z = cc in sym same)
  gone_place p (y ∷ ys) (suc j) z at = gone_place p ys j z at

  pub spared_on : (b : Body) (bs : List Body) (xs ys : List OutletState) → AllByRecursion (Goes (b ∷ bs)) ys → AreSpared xs ys → AreSpared xs (body_gone b.path ys)
  spared_on b bs xs ys all h j z at = by_place (gone_place b.path ys j z at)
    where
      by_place : (y : OutletState) × (slice_get ys j ≡ Some y) × (z ≡ without_body b.path y) → (x : OutletState) × (slice_get xs j ≡ Some x) × IsSpared x z
      by_place (y, get, same) =
          let was = h j y get in
          let g : Goes (b ∷ bs) y = at_place (Goes (b ∷ bs)) ys j y all get in (
            was.0,
            was.1,
            record {
              serial = ap (λ (o : OutletState). o.serial) same ∙ was.2.serial;
              filling = ap (λ (o : OutletState). o.filling) same ∙ was.2.filling;
              scope = ap (λ (o : OutletState). o.scope) same ∙ was.2.scope;
              bodies = λ off. ap (λ (o : OutletState). o.bodies) same ∙ (filter_none b.path y.bodies (g.apart (same_leaves was.0 y was.2.serial was.2.filling ∙ off)).0 ∙ was.2.bodies off);
            },
          )

  -- ---- the same of outlets that are due

  abbrev pub due_going : List Due → List Body
  due_going [] = []
  due_going (d ∷ ds) = cond (goes d.filling v) (d.bodies ++ due_going ds) (due_going ds)

  pub same_going : (i : ℕ) (xs : List OutletState) → due_going (due_from n i xs) ≡ going xs
  same_going i [] = refl
  same_going i (x ∷ xs) = by_test (is_filled_by n x) (same_going (i + 1) xs)
    where
      by_test : (t : Bool) → due_going (due_from n (i + 1) xs) ≡ going xs
          → due_going (cond t (due_at i x ∷ due_from n (i + 1) xs) (due_from n (i + 1) xs)) ≡ cond (t && goes x.filling v) (x.bodies ++ going xs) (going xs)
      by_test true more = ap (λ (bs : List Body). cond (goes x.filling v) (x.bodies ++ bs) bs) more
      by_test false more = more
