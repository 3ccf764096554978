-- The outlets that get a body at the fire of a site, one after another.
use Rattle.std.proofs.Common.{◌≡◌, inl, inr, ◌≤◌, ◌<◌, ◌+◌, ℕ, zero, suc, Bool, true, false, List, [], ◌∷◌, ◌++◌, cond, Some, refl, ap, sym, subst, ◌∙◌, arith, slice_get}
use Rattle.std.specs.Prelude.{◌||◌, ◌&&◌, ◌==◌, not, slice_index_or}
use Rattle.std.specs.BTreeMap.{is_at}
use Rattle.std.specs.List.{AllByRecursion, list_any}
use Rattle.std.specs.Ordering.{nat_cmp}
use Rattle.std.proofs.lemmas.Bool.{eqb-true, eq-eqb}
use Rattle.std.proofs.lemmas.Slice.Eq.{bytes_eq-Decides}
use Rattle.ng_base.specs.Views.{ViewTree}
use Rattle.ng_dom.specs.Lists.{put_at}
use Rattle.ng_drawing.specs.Cases.{Case, case_in, calls_for}
use Rattle.ng_drawing.specs.Looks.{is_kept_true}
use Rattle.ng_drawing.specs.Roles.{a_named, has_roles, is_named_so, is_one_named}
use Rattle.ng_drawing.specs.Rows.{is_as_called, is_filled}
use Rattle.ng_drawing.specs.Template.{Filling, body_if, on_case, for_each, by_name, Outlet}
use Rattle.ng_rows.specs.Chosen.{has_bodies, goes, cases_due, comes}
use Rattle.ng_language.specs.Texts.{text_of}
use Rattle.ng_instances.specs.Due.{Due, due_at, due_from}
use Rattle.ng_instances.specs.Instances.{Body, OutletState, is_filled_by, with_body, body_added}
use Rattle.ng_link.specs.State.{roles_in}
use Rattle.ng_link.proofs.Numbers.{both_true}
use Rattle.ng_commands.specs.Settled.{AreOutlets, cases_under}
use Rattle.ng_page.proofs.Altered.{by_same_place, Altered, IsAlike, ChangedAt, added_place}
use Rattle.ng_page.proofs.Going.{leaves, AreSpared, IsSpared, at_place}
use Rattle.ng_commands.proofs.Watched.{all_map}

and_false : (b : Bool) → (b && false) ≡ false
and_false true = refl
and_false false = refl

-- whether an outlet has rows
abbrev pub has_rows : Filling → Bool
has_rows (body_if b) = false
has_rows (on_case c b) = false
has_rows (for_each r b) = true
has_rows (by_name b) = false

-- whether it has the template of a name in it
abbrev pub has_name : Filling → Bool
has_name (body_if b) = false
has_name (on_case c b) = false
has_name (for_each r b) = false
has_name (by_name b) = true

-- no outlet has both
name_rows : (f : Filling) → has_name f ≡ true → has_rows f ≡ false
name_rows (body_if b) name = absurd (cc)
name_rows (on_case c b) name = absurd (cc)
name_rows (for_each r b) name = absurd (cc)
name_rows (by_name b) name = refl

-- all of that goes
name_goes : (f : Filling) (v : ViewTree) → has_name f ≡ true → goes f v ≡ true
name_goes (body_if b) v name = absurd (cc)
name_goes (on_case c b) v name = absurd (cc)
name_goes (for_each r b) v name = absurd (cc)
name_goes (by_name b) v name = refl

-- what is not called for goes
off_goes : (cases : List Case) (f : Filling) (v : ViewTree) → has_rows f ≡ false → calls_for cases f (Some v) ≡ false → goes f v ≡ true
off_goes cases (body_if b) v one e = ap not e
off_goes cases (on_case c b) v one e = refl
off_goes cases (for_each r b) v one e = absurd (cc)
off_goes cases (by_name b) v one e = refl

-- rows are called for by their entries
rows_uncalled : (cases : List Case) (f : Filling) (v : ViewTree) → has_rows f ≡ true → calls_for cases f (Some v) ≡ false
rows_uncalled cases (body_if b) v rows = absurd (cc)
rows_uncalled cases (on_case c b) v rows = absurd (cc)
rows_uncalled cases (for_each r b) v rows = refl
rows_uncalled cases (by_name b) v rows = absurd (cc)

pub not_both : (b : Bool) → b ≡ true → b ≡ false → ⊥
not_both true e f = cc
not_both false e f = cc

-- the cases of outlets that are due are those of the fragment
pub due_cases : (n i : ℕ) (serials : List ℕ) (os : List Outlet) (xs : List OutletState) → AreOutlets serials os xs → cases_due (due_from n i xs) ≡ cases_under serials os n
due_cases n i serials [] [] h = refl
due_cases n i serials [] (x ∷ xs) h = absurd h
due_cases n i serials (o ∷ os) [] h = absurd h
due_cases n i serials (o ∷ os) (x ∷ xs) h =
    by_test (is_filled_by n x) (due_cases n (i + 1) serials os xs h.1)
    ∙ (ap (λ (m : ℕ). with_case (is_at (nat_cmp n) m) x.filling) h.0.0 ∙ ap (with_case (is_at (nat_cmp n) (slice_index_or serials o.site 0))) h.0.1)
  where
    with_case : Bool → Filling → List Case
    with_case b f = cond b (case_in f ++ cases_under serials os n) (cases_under serials os n)

    by_test : (t : Bool) → cases_due (due_from n (i + 1) xs) ≡ cases_under serials os n → cases_due (cond t (due_at i x ∷ due_from n (i + 1) xs) (due_from n (i + 1) xs)) ≡ with_case t x.filling
    by_test true more = ap (λ (cs : List Case). case_in x.filling ++ cs) more
    by_test false more = more

-- whether an outlet of this number is among those that are due and pass a test
abbrev pub is_due_by : (Due → Bool) → ℕ → List Due → Bool
is_due_by p j ds = list_any (λ (d : Due). (d.outlet == j) && p d) ds

or_more : (b c : Bool) → c ≡ true → (b || c) ≡ true
or_more true c e = refl
or_more false c e = e

due_there : (n : ℕ) (p : Due → Bool) (i : ℕ) (xs : List OutletState) (j : ℕ) (x : OutletState) → slice_get xs j ≡ Some x → is_filled_by n x ≡ true → ((k : ℕ) → p (due_at k x) ≡ true) → is_due_by p (i + j) (due_from n i xs) ≡ true
due_there n p i [] j x at on passes = absurd (cc)
due_there n p i (y ∷ xs) zero x at on passes =
    let same : y ≡ x = cc in
    let here : is_filled_by n y ≡ true = ap (is_filled_by n) same ∙ on in
    let called : p (due_at i y) ≡ true = ap (λ (z : OutletState). p (due_at i z)) same ∙ passes i in
    ap (λ (t : Bool). is_due_by p (i + 0) (cond t (due_at i y ∷ due_from n (i + 1) xs) (due_from n (i + 1) xs))) here
    ∙ (ap (λ (t : Bool). ((i == i + 0) && t) || is_due_by p (i + 0) (due_from n (i + 1) xs)) called
    ∙ ap (λ (t : Bool). (t && true) || is_due_by p (i + 0) (due_from n (i + 1) xs)) (eq-eqb i (i + 0) (omega arith)))
due_there n p i (y ∷ xs) (suc j) x at on passes =
    let more : is_due_by p (i + suc j) (due_from n (i + 1) xs) ≡ true = ap (λ (k : ℕ). is_due_by p k (due_from n (i + 1) xs)) (let e : i + suc j ≡ i + 1 + j = omega arith in e) ∙ due_there n p (i + 1) xs j x at on passes in
    by_test (is_filled_by n y) more
  where
    by_test : (t : Bool) → is_due_by p (i + suc j) (due_from n (i + 1) xs) ≡ true → is_due_by p (i + suc j) (cond t (due_at i y ∷ due_from n (i + 1) xs) (due_from n (i + 1) xs)) ≡ true
    by_test true more = or_more _ (is_due_by p (i + suc j) (due_from n (i + 1) xs)) more
    by_test false more = more

-- one that doesn't pass, or has another number, doesn't matter
due_skip : (p : Due → Bool) (d : Due) (ds : List Due) (j : ℕ) → p d ≡ false → is_due_by p j (d ∷ ds) ≡ true → is_due_by p j ds ≡ true
due_skip p d ds j off e = sym (ap (λ (t : Bool). (d.outlet == j && t) || is_due_by p j ds) off ∙ ap (λ (t : Bool). t || is_due_by p j ds) (and_false (d.outlet == j))) ∙ e

not_eqb : (i j : ℕ) → (i ≡ j → ⊥) → (i == j) ≡ false
not_eqb i j ne = by_test (i == j) refl
  where
    by_test : (t : Bool) → (i == j) ≡ t → t ≡ false
    by_test true e = absurd (ne (eqb-true i j e))
    by_test false e = refl

-- one more
due_more : (d : Due) (ds : List Due) (j : ℕ) → is_due_by (λ (e : Due). true) j ds ≡ true → is_due_by (λ (e : Due). true) j (d ∷ ds) ≡ true
due_more d ds j e = or_more (d.outlet == j && true) (is_due_by (λ (c : Due). true) j ds) e

due_here : (d : Due) (ds : List Due) → is_due_by (λ (e : Due). true) d.outlet (d ∷ ds) ≡ true
due_here d ds = ap (λ (t : Bool). (t && true) || is_due_by (λ (c : Due). true) d.outlet ds) (eq-eqb d.outlet d.outlet refl)

-- outlets are due in their order, so that none is due twice
abbrev pub IsRising : List Due → Type 0
IsRising [] = Unit {0}
IsRising (d ∷ ds) = AllByRecursion (λ (e : Due). d.outlet < e.outlet) ds × IsRising ds

no_more : (j : ℕ) (ds : List Due) → AllByRecursion (λ (e : Due). j < e.outlet) ds → is_due_by (λ (e : Due). true) j ds ≡ false
no_more j [] above = refl
no_more j (d ∷ ds) above =
    let lt = above.0 in
    let other : (d.outlet == j) ≡ false = not_eqb d.outlet j (λ same. omega (arith, lt, same)) in
    ap (λ (t : Bool). (t && true) || is_due_by (λ (e : Due). true) j ds) other ∙ no_more j ds above.1

due_other : (p : Due → Bool) (d : Due) (ds : List Due) (j : ℕ) → (d.outlet ≡ j → ⊥) → is_due_by p j (d ∷ ds) ≡ true → is_due_by p j ds ≡ true
due_other p d ds j other e = sym (ap (λ (t : Bool). (t && p d) || is_due_by p j ds) (not_eqb d.outlet j other)) ∙ e

-- one body more, where none stood, is the only one
one_named : (w : List ℕ) (bs : List Body) (b : Body) → has_bodies bs ≡ false → b.role ≡ a_named w → is_one_named w (roles_in (put_at 0 b bs)) ≡ true
one_named w [] b none role = ap (is_named_so w) role ∙ (bytes_eq-Decides w w).1 refl
one_named w (c ∷ bs) b none role = absurd (cc)

module _ (n : ℕ) (cases : List Case) (v : ViewTree) where
  -- An outlet that is called for and has no body is still due, and one that isn't called for has none. One that has rows is still due, or its
  -- rows are those that are called for. One that has a template by its name has none while it is due, and then that of the value's text.
  pub record IsReady (ds : List Due) (j : ℕ) (x : OutletState) : Type 0 where
    pub off : has_rows x.filling ≡ false → calls_for cases x.filling (Some v) ≡ false → has_bodies x.bodies ≡ false
    pub due : calls_for cases x.filling (Some v) ≡ true → has_bodies x.bodies ≡ false → is_due_by (comes cases v) j ds ≡ true
    pub rows : has_rows x.filling ≡ true → is_filled cases x.filling (Some v) (roles_in x.bodies) ≡ false → is_due_by (λ (d : Due). has_rows d.filling) j ds ≡ true
    pub still : has_name x.filling ≡ true → is_due_by (λ (d : Due). true) j ds ≡ true → has_bodies x.bodies ≡ false
    pub named : has_name x.filling ≡ true → has_bodies x.bodies ≡ true → is_one_named (text_of v) (roles_in x.bodies) ≡ true

  abbrev pub AreReady : List Due → List OutletState → Type 0
  AreReady ds xs = (j : ℕ) (x : OutletState) → slice_get xs j ≡ Some x → is_filled_by n x ≡ true → IsReady ds j x

  -- those that are due are the site's, filled as they say, and on their scopes
  pub record IsOfDue (d : Due) (x : OutletState) : Type 0 where
    pub site : is_filled_by n x ≡ true
    pub filling : x.filling ≡ d.filling
    pub scope : x.scope ≡ d.scope

  abbrev pub AreOfSite : List Due → List OutletState → Type 0
  AreOfSite ds xs = AllByRecursion (λ (d : Due). (x : OutletState) → slice_get xs d.outlet ≡ Some x → IsOfDue d x) ds

  -- ---- once all are gone that go

  pub ready_first : (xs ys : List OutletState) → AreSpared n v xs ys → AllByRecursion (λ (y : OutletState). leaves n v y ≡ true → has_bodies y.bodies ≡ false) ys → AreReady (due_from n 0 xs) ys
  ready_first xs ys spared gone j y at on = record {
    off = off;
    due = λ called none. by_old (spared j y at) called none;
    rows = λ rows wrong. by_rows (spared j y at) rows;
    still = λ name due. empty name;
    named = λ name has. absurd (not_both (has_bodies y.bodies) has (empty name));
  }
    where
      empty : has_name y.filling ≡ true → has_bodies y.bodies ≡ false
      empty name = at_place (λ (z : OutletState). leaves n v z ≡ true → has_bodies z.bodies ≡ false) ys j y gone at (ap (λ (b : Bool). b && goes y.filling v) on ∙ name_goes y.filling v name)

      off : has_rows y.filling ≡ false → calls_for cases y.filling (Some v) ≡ false → has_bodies y.bodies ≡ false
      off one e = at_place (λ (z : OutletState). leaves n v z ≡ true → has_bodies z.bodies ≡ false) ys j y gone at (ap (λ (b : Bool). b && goes y.filling v) on ∙ off_goes cases y.filling v one e)

      old_on : (x : OutletState) → IsSpared n v x y → is_filled_by n x ≡ true
      old_on x was = ap (λ (m : ℕ). is_at (nat_cmp n) m) (sym was.serial) ∙ on

      by_rows : (x : OutletState) × (slice_get xs j ≡ Some x) × IsSpared n v x y → has_rows y.filling ≡ true → is_due_by (λ (d : Due). has_rows d.filling) j (due_from n 0 xs) ≡ true
      by_rows (x, get, was) rows =
          ap (λ (k : ℕ). is_due_by (λ (d : Due). has_rows d.filling) k (due_from n 0 xs)) (let e : j ≡ 0 + j = omega arith in e)
          ∙ due_there n (λ (d : Due). has_rows d.filling) 0 xs j x get (old_on x was) (λ k. ap has_rows (sym was.filling) ∙ rows)

      by_old : (x : OutletState) × (slice_get xs j ≡ Some x) × IsSpared n v x y → calls_for cases y.filling (Some v) ≡ true → has_bodies y.bodies ≡ false → is_due_by (comes cases v) j (due_from n 0 xs) ≡ true
      by_old (x, get, was) called none =
          ap (λ (k : ℕ). is_due_by (comes cases v) k (due_from n 0 xs)) (let e : j ≡ 0 + j = omega arith in e)
          ∙ due_there n (comes cases v) 0 xs j x get (old_on x was) (λ k. by_goes k (goes x.filling v) refl)
        where
          calls : calls_for cases x.filling (Some v) ≡ true
          calls = ap (λ (f : Filling). calls_for cases f (Some v)) (sym was.filling) ∙ called

          by_goes : (k : ℕ) (t : Bool) → goes x.filling v ≡ t → comes cases v (due_at k x) ≡ true
          by_goes k true e =
              ap (λ (t : Bool). t && not (has_bodies x.bodies && not (goes x.filling v))) calls
              ∙ (ap (λ (t : Bool). not (has_bodies x.bodies && not t)) e ∙ ap not (and_false (has_bodies x.bodies)))
          by_goes k false e =
              let same = was.bodies (ap (λ (t : Bool). is_filled_by n x && t) e ∙ and_false (is_filled_by n x)) in
              let empty : has_bodies x.bodies ≡ false = ap has_bodies (sym same) ∙ none in
              ap (λ (t : Bool). t && not (has_bodies x.bodies && not (goes x.filling v))) calls ∙ ap (λ (t : Bool). not (t && not (goes x.filling v))) empty

  -- from a place on
  abbrev OfSiteFrom : ℕ → List OutletState → Due → Type 0
  OfSiteFrom i xs d = (i ≤ d.outlet) × ((j : ℕ) (x : OutletState) → d.outlet ≡ i + j → slice_get xs j ≡ Some x → IsOfDue d x)

  later_of : (i : ℕ) (y : OutletState) (xs : List OutletState) (d : Due) → OfSiteFrom (i + 1) xs d → OfSiteFrom i (y ∷ xs) d
  later_of i y xs d h = ((let le = h.0 in omega (arith, le)), at)
    where
      at : (j : ℕ) (x : OutletState) → d.outlet ≡ i + j → slice_get (y ∷ xs) j ≡ Some x → IsOfDue d x
      at zero x e get = absurd (let le : i + 1 ≤ d.outlet = h.0 in omega (arith, le, e))
      at (suc j) x e get = h.1 j x (omega (arith, e)) get

  of_from : (i : ℕ) (xs : List OutletState) → AllByRecursion (OfSiteFrom i xs) (due_from n i xs)
  of_from i [] = tt
  of_from i (y ∷ xs) = by_test (is_filled_by n y) refl (all_map (OfSiteFrom (i + 1) xs) (OfSiteFrom i (y ∷ xs)) (due_from n (i + 1) xs) (later_of i y xs) (of_from (i + 1) xs))
    where
      here : is_filled_by n y ≡ true → (j : ℕ) (x : OutletState) → i ≡ i + j → slice_get (y ∷ xs) j ≡ Some x → IsOfDue (due_at i y) x
      here on zero x e get = let same : y ≡ x = cc in record { site = ap (is_filled_by n) (sym same) ∙ on; filling = ap (λ (z : OutletState). z.filling) (sym same); scope = ap (λ (z : OutletState). z.scope) (sym same) }
      here on (suc j) x e get = absurd (omega (arith, e))

      by_test : (t : Bool) → is_filled_by n y ≡ t → AllByRecursion (OfSiteFrom i (y ∷ xs)) (due_from n (i + 1) xs) → AllByRecursion (OfSiteFrom i (y ∷ xs)) (cond t (due_at i y ∷ due_from n (i + 1) xs) (due_from n (i + 1) xs))
      by_test true on more = ((omega arith, here on), more)
      by_test false off more = more

  -- they are due in their order
  rising_from : (i : ℕ) (xs : List OutletState) → IsRising (due_from n i xs)
  rising_from i [] = tt
  rising_from i (y ∷ xs) = by_test (is_filled_by n y) (rising_from (i + 1) xs)
    where
      by_test : (t : Bool) → IsRising (due_from n (i + 1) xs) → IsRising (cond t (due_at i y ∷ due_from n (i + 1) xs) (due_from n (i + 1) xs))
      by_test true more = (all_map (OfSiteFrom (i + 1) xs) (λ (e : Due). i < e.outlet) (due_from n (i + 1) xs) (λ e h. let le = h.0 in omega (arith, le)) (of_from (i + 1) xs), more)
      by_test false more = more

  pub rising_first : (xs : List OutletState) → IsRising (due_from n 0 xs)
  rising_first xs = rising_from 0 xs

  pub of_first : (xs ys : List OutletState) → AreSpared n v xs ys → AreOfSite (due_from n 0 xs) ys
  of_first xs ys spared = all_map (OfSiteFrom 0 xs) (λ (d : Due). (y : OutletState) → slice_get ys d.outlet ≡ Some y → IsOfDue d y) (due_from n 0 xs) (λ d h y at. by_old d h y (spared d.outlet y at)) (of_from 0 xs)
    where
      by_old : (d : Due) → OfSiteFrom 0 xs d → (y : OutletState) → (x : OutletState) × (slice_get xs d.outlet ≡ Some x) × IsSpared n v x y → IsOfDue d y
      by_old d h y (x, get, was) =
          let one = h.1 d.outlet x (omega arith) get in
          record { site = ap (λ (m : ℕ). is_at (nat_cmp n) m) was.serial ∙ one.site; filling = was.filling ∙ one.filling; scope = was.scope ∙ one.scope }

  -- ---- one after another

  -- one that isn't to get a body, and has no rows, is done
  pub ready_skip : (d : Due) (ds : List Due) (xs : List OutletState) → has_rows d.filling ≡ false → comes cases v d ≡ false → AreReady (d ∷ ds) xs → AreReady ds xs
  ready_skip d ds xs one off h j x at on =
      let was = h j x at on in
      record {
        off = was.off;
        due = λ called none. due_skip (comes cases v) d ds j off (was.due called none);
        rows = λ rows wrong. due_skip (λ (d : Due). has_rows d.filling) d ds j one (was.rows rows wrong);
        still = λ name due. was.still name (due_more d ds j due);
        named = was.named;
      }

  -- and so is one that got a body
  pub ready_next : (d : Due) (ds : List Due) (b : Body) (xs : List OutletState) → has_rows d.filling ≡ false → has_name d.filling ≡ false → comes cases v d ≡ true → AreOfSite (d ∷ ds) xs → AreReady (d ∷ ds) xs → AreReady ds (body_added d.outlet 0 b xs)
  ready_next d ds b xs one plain come of h j x at on = by_place (added_place d.outlet 0 b xs j x at)
    where
      by_place : ChangedAt (with_body 0 b) d.outlet xs j x → IsReady ds j x
      by_place (y, get, inl (ne, same)) =
          let was : IsReady (d ∷ ds) j y = h j y get (ap (is_filled_by n) (sym same) ∙ on) in
          subst (IsReady ds j) (sym same)
          (record {
            off = was.off;
            due = λ called none. due_other (comes cases v) d ds j ne (was.due called none);
            rows = λ rows wrong. due_other (λ (d : Due). has_rows d.filling) d ds j ne (was.rows rows wrong);
            still = λ name due. was.still name (due_more d ds j due);
            named = was.named;
          })
      by_place (y, get, inr (e, same)) =
          let has : IsOfDue d y = of.0 y (ap (slice_get xs) e ∙ get) in
          let asked : calls_for cases d.filling (Some v) ≡ true = (both_true (calls_for cases d.filling (Some v)) (not (has_bodies d.bodies && not (goes d.filling v))) come).0 in
          let calls : calls_for cases y.filling (Some v) ≡ true = ap (λ (f : Filling). calls_for cases f (Some v)) has.filling ∙ asked in
          subst (IsReady ds j) (sym same)
          (record {
            off = λ no off. let two : true ≡ false = sym calls ∙ off in absurd (cc);
            due = λ called none. let two : true ≡ false = none in absurd (cc);
            rows = λ rows wrong. let two : true ≡ false = sym rows ∙ (ap has_rows has.filling ∙ one) in absurd (cc);
            still = λ name due. let two : true ≡ false = sym name ∙ (ap has_name has.filling ∙ plain) in absurd (cc);
            named = λ name some. let two : true ≡ false = sym name ∙ (ap has_name has.filling ∙ plain) in absurd (cc);
          })

  -- and one that got the template of the value's text
  pub ready_named : (d : Due) (ds : List Due) (b : Body) (xs : List OutletState) → has_name d.filling ≡ true → comes cases v d ≡ true → b.role ≡ a_named (text_of v) → IsRising (d ∷ ds) → AreOfSite (d ∷ ds) xs → AreReady (d ∷ ds) xs
      → AreReady ds (body_added d.outlet 0 b xs)
  ready_named d ds b xs name come role rising of h j x at on = by_place (added_place d.outlet 0 b xs j x at)
    where
      by_place : ChangedAt (with_body 0 b) d.outlet xs j x → IsReady ds j x
      by_place (y, get, inl (ne, same)) =
          let was : IsReady (d ∷ ds) j y = h j y get (ap (is_filled_by n) (sym same) ∙ on) in
          subst (IsReady ds j) (sym same)
          (record {
            off = was.off;
            due = λ called none. due_other (comes cases v) d ds j ne (was.due called none);
            rows = λ rows wrong. due_other (λ (d : Due). has_rows d.filling) d ds j ne (was.rows rows wrong);
            still = λ name due. was.still name (due_more d ds j due);
            named = was.named;
          })
      by_place (y, get, inr (e, same)) =
          let has : IsOfDue d y = of.0 y (ap (slice_get xs) e ∙ get) in
          let asked : calls_for cases d.filling (Some v) ≡ true = (both_true (calls_for cases d.filling (Some v)) (not (has_bodies d.bodies && not (goes d.filling v))) come).0 in
          let calls : calls_for cases y.filling (Some v) ≡ true = ap (λ (f : Filling). calls_for cases f (Some v)) has.filling ∙ asked in
          let here : has_name y.filling ≡ true = ap has_name has.filling ∙ name in
          let was : IsReady (d ∷ ds) j y = h j y get (ap (is_filled_by n) (sym same) ∙ on) in
          let none : has_bodies y.bodies ≡ false = was.still here (ap (λ (i : ℕ). is_due_by (λ (c : Due). true) i (d ∷ ds)) (sym e) ∙ due_here d ds) in
          subst (IsReady ds j) (sym same)
          (record {
            off = λ no off. let two : true ≡ false = sym calls ∙ off in absurd (cc);
            due = λ called none. let two : true ≡ false = none in absurd (cc);
            rows = λ rows wrong. absurd (not_both (has_rows y.filling) rows (name_rows y.filling here));
            still = λ name due. absurd (not_both (is_due_by (λ (c : Due). true) j ds) due (ap (λ (i : ℕ). is_due_by (λ (c : Due). true) i ds) (sym e) ∙ no_more d.outlet ds rising.0));
            named = λ name some. one_named (text_of v) y.bodies b none role;
          })

  -- and one whose rows are those that are called for
  pub ready_rows : (d : Due) (ds : List Due) (xs ys : List OutletState) → has_rows d.filling ≡ true → AreOfSite (d ∷ ds) xs → Altered d.outlet xs ys
      → ((y : OutletState) → slice_get ys d.outlet ≡ Some y → is_filled cases y.filling (Some v) (roles_in y.bodies) ≡ true) → AreReady (d ∷ ds) xs → AreReady ds ys
  ready_rows d ds xs ys many of altered right h j y at on = by_old (altered j y at)
    where
      by_old : (x : OutletState) × (slice_get xs j ≡ Some x) × IsAlike d.outlet j x y → IsReady ds j y
      by_old (x, get, like) =
          by_same_place (IsReady ds j y) j d.outlet
          (λ e.
          let rows : has_rows y.filling ≡ true = ap has_rows (like.filling ∙ (of.0 x (ap (slice_get xs) (sym e) ∙ get)).filling) ∙ many in
          record {
            off = λ no off. absurd (not_both (has_rows y.filling) rows no);
            due = λ called none. absurd (not_both (calls_for cases y.filling (Some v)) called (rows_uncalled cases y.filling v rows));
            rows = λ rows wrong. absurd (not_both (is_filled cases y.filling (Some v) (roles_in y.bodies)) (right y (ap (slice_get ys) (sym e) ∙ at)) wrong);
            still = λ name due. absurd (not_both (has_rows y.filling) rows (name_rows y.filling name));
            named = λ name some. absurd (not_both (has_rows y.filling) rows (name_rows y.filling name));
          })
          (λ other.
          let was : IsReady (d ∷ ds) j x = h j x get (ap (λ (m : ℕ). is_at (nat_cmp n) m) (sym like.serial) ∙ on) in
          let same : y.bodies ≡ x.bodies = like.bodies other in
          let ne : d.outlet ≡ j → ⊥ = λ e. other (sym e) in
          record {
            off = λ no off. ap has_bodies same ∙ was.off (ap has_rows (sym like.filling) ∙ no) (ap (λ (f : Filling). calls_for cases f (Some v)) (sym like.filling) ∙ off);
            due = λ called none. due_other (comes cases v) d ds j ne (was.due (ap (λ (f : Filling). calls_for cases f (Some v)) (sym like.filling) ∙ called) (ap has_bodies (sym same) ∙ none));
            rows = λ rows wrong.
                due_other (λ (d : Due). has_rows d.filling) d ds j ne
                (was.rows (ap has_rows (sym like.filling) ∙ rows)
                (ap (λ (f : Filling). is_filled cases f (Some v) (roles_in x.bodies)) (sym like.filling) ∙ (ap (λ (bs : List Body). is_filled cases y.filling (Some v) (roles_in bs)) (sym same) ∙ wrong)));
            still = λ name due. ap has_bodies same ∙ was.still (ap has_name (sym like.filling) ∙ name) (due_more d ds j due);
            named = λ name some. ap (λ (bs : List Body). is_one_named (text_of v) (roles_in bs)) same ∙ was.named (ap has_name (sym like.filling) ∙ name) (ap has_bodies (sym same) ∙ some);
          })

  pub of_next : (o : ℕ) (ds : List Due) (xs ys : List OutletState) → Altered o xs ys → AreOfSite ds xs → AreOfSite ds ys
  of_next o ds xs ys altered all = all_map (λ (d : Due). (x : OutletState) → slice_get xs d.outlet ≡ Some x → IsOfDue d x) (λ (d : Due). (y : OutletState) → slice_get ys d.outlet ≡ Some y → IsOfDue d y) ds (λ d h y at. by_old d h y (altered d.outlet y at)) all
    where
      by_old : (d : Due) → ((x : OutletState) → slice_get xs d.outlet ≡ Some x → IsOfDue d x) → (y : OutletState) → (x : OutletState) × (slice_get xs d.outlet ≡ Some x) × IsAlike o d.outlet x y → IsOfDue d y
      by_old d h y (x, get, like) = record { site = ap (λ (m : ℕ). is_at (nat_cmp n) m) like.serial ∙ (h x get).site; filling = like.filling ∙ (h x get).filling; scope = like.scope ∙ (h x get).scope }

  -- once none is due, all have what is called for
  any_roles : (bs : List Body) → has_roles (roles_in bs) ≡ has_bodies bs
  any_roles [] = refl
  any_roles (b ∷ bs) = refl

  as_called : (called : Bool) (bs : List Body) → (called ≡ false → has_bodies bs ≡ false) → (called ≡ true → has_bodies bs ≡ false → false ≡ true) → is_as_called called (roles_in bs) ≡ true
  as_called true bs off due = any_roles bs ∙ by_bodies (has_bodies bs) refl
    where
      by_bodies : (b : Bool) → has_bodies bs ≡ b → has_bodies bs ≡ true
      by_bodies true e = e
      by_bodies false e = let two : false ≡ true = due refl e in absurd (cc)
  as_called false bs off due = ap not (any_roles bs ∙ off refl)

  one_last : (x : OutletState) (j : ℕ) → IsReady [] j x → (f : Filling) → x.filling ≡ f → is_filled cases f (Some v) (roles_in x.bodies) ≡ true
  one_last x j was (body_if b) is =
      as_called (calls_for cases (body_if b) (Some v)) x.bodies (λ off. was.off (ap has_rows is) (ap (λ (f : Filling). calls_for cases f (Some v)) is ∙ off)) (λ called none. was.due (ap (λ (f : Filling). calls_for cases f (Some v)) is ∙ called) none)
  one_last x j was (on_case c b) is =
      as_called (calls_for cases (on_case c b) (Some v)) x.bodies (λ off. was.off (ap has_rows is) (ap (λ (f : Filling). calls_for cases f (Some v)) is ∙ off)) (λ called none. was.due (ap (λ (f : Filling). calls_for cases f (Some v)) is ∙ called) none)
  one_last x j was (for_each r b) is = by_test (is_filled cases (for_each r b) (Some v) (roles_in x.bodies)) refl
    where
      by_test : (t : Bool) → is_filled cases (for_each r b) (Some v) (roles_in x.bodies) ≡ t → t ≡ true
      by_test true e = refl
      by_test false e = let two : false ≡ true = was.rows (ap has_rows is) (ap (λ (f : Filling). is_filled cases f (Some v) (roles_in x.bodies)) is ∙ e) in absurd (cc)
  one_last x j was (by_name b) is = by_call (is_kept_true (Some v)) refl
    where
      calls : calls_for cases x.filling (Some v) ≡ is_kept_true (Some v)
      calls = ap (λ (f : Filling). calls_for cases f (Some v)) is

      by_bodies : is_kept_true (Some v) ≡ true → (t : Bool) → has_bodies x.bodies ≡ t → is_one_named (text_of v) (roles_in x.bodies) ≡ true
      by_bodies on true e = was.named (ap has_name is) e
      by_bodies on false e = let two : false ≡ true = was.due (calls ∙ on) e in absurd (cc)

      by_call : (t : Bool) → is_kept_true (Some v) ≡ t → cond t (is_one_named (text_of v) (roles_in x.bodies)) (not (has_roles (roles_in x.bodies))) ≡ true
      by_call true on = by_bodies on (has_bodies x.bodies) refl
      by_call false off = ap not (any_roles x.bodies ∙ was.off (ap has_rows is) (calls ∙ off))

  pub ready_last : (xs : List OutletState) → AreReady [] xs → AllByRecursion (λ (x : OutletState). is_filled_by n x ≡ true → is_filled cases x.filling (Some v) (roles_in x.bodies) ≡ true) xs
  ready_last [] h = tt
  ready_last (x ∷ xs) h = ((λ on. one_last x 0 (h 0 x refl on) x.filling refl), ready_last xs (λ j y at on. again j y (h (suc j) y at on)))
    where
      again : (j : ℕ) (y : OutletState) → IsReady [] (suc j) y → IsReady [] j y
      again j y was = record { off = was.off; due = was.due; rows = was.rows; still = was.still; named = was.named }
