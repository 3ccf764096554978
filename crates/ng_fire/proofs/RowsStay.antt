-- What is linked on other paths stays as rows go, are put in order, and are made.
use Rattle.std.proofs.Common.{◌≡◌, ◌∙◌, ◌<◌, ◌≤◌, ◌++◌, ℕ, Bool, true, false, cond, true≢false, List, [], ◌∷◌, slice_get, Option, Some, None, refl, ap, sym, subst, arith, inl, inr, ◌⊎◌}
use Rattle.std.specs.List.{AllByRecursion}
use Rattle.std.specs.Prelude.{not}
use Rattle.ng_base.specs.declared.path.Key.{Key}
use Rattle.ng_drawing.specs.Roles.{Role}
use Rattle.ng_changes.proofs.InnerPaths.{not_true}
use Rattle.ng_fire.proofs.RowsTaken.{one_of}
use Rattle.ng_changes.proofs.AllAt.{all_at}
use Rattle.ng_fire.proofs.Served.{held_below, not_begun}
use Rattle.ng_fire.specs.Repeats.{bodies_or, rows_at}
use Rattle.ng_fire.specs.Serving.{OthersStay, RestStays}
use Rattle.ng_link.proofs.Lookups.{changed_other, inserted_other, kept_found}
use Rattle.ng_build.proofs.Paths.{begins_itself}
use Rattle.ng_link.proofs.PathsBelow.{not_path, other_path, same_path}
use Rattle.ng_link.specs.Calls.{unlinked_at}
use Rattle.ng_instances.specs.Instances.{Body, OutletState, Linked, Instances, is_path, linked_at, outlets_changed, body_added, body_gone, unlinked, with_instance}
use Rattle.ng_instances.specs.PlaceOf.{outlet_of_linked}
use Rattle.ng_link.specs.Standing.{AreHeld, IsBelow, IsHeldIn, body_count, IsPlaced, ArePlaced}
use Rattle.ng_link.specs.State.{State}
use Rattle.ng_behaviour.specs.Keys.{begins}

-- ---- one after another

pub others_same : (holder : List ℕ) (old new : Instances) → new ≡ old → OthersStay holder old new
others_same holder old new e = λ q l off at. ap (linked_at q) e ∙ at

pub others_then : (holder : List ℕ) (old mid new : Instances) → OthersStay holder old mid → OthersStay holder mid new → OthersStay holder old new
others_then holder old mid new h k = λ q l off at. k q l off (h q l off at)

pub rest_none : (holder : List ℕ) (is : Instances) → RestStays holder [] is is
rest_none holder is = λ q below none. refl

all_split : (q : List ℕ) (xs ys : List Body) → AllByRecursion (λ (b : Body). begins b.path q ≡ false) (xs ++ ys) → AllByRecursion (λ (b : Body). begins b.path q ≡ false) xs × AllByRecursion (λ (b : Body). begins b.path q ≡ false) ys
all_split q [] ys h = (tt, h)
all_split q (x ∷ xs) ys h = let more = all_split q xs ys h.1 in ((h.0, more.0), more.1)

pub rest_more : (holder : List ℕ) (xs ys : List Body) (old mid new : Instances) → RestStays holder ys old mid → RestStays holder xs mid new → RestStays holder (xs ++ ys) old new
rest_more holder xs ys old mid new h k = λ q below none. (let two = all_split q xs ys none in k q below two.0 ∙ h q below two.1)

-- ---- a row goes

below_apart : (holder q : List ℕ) → IsBelow holder q → is_path q holder ≡ false
below_apart holder q below = other_path q holder (λ (same : q ≡ holder). true≢false (sym (begins_itself holder) ∙ (ap (λ (r : List ℕ). begins r holder) (sym same) ∙ not_begun holder q below)))

pub inside_other : (holder q : List ℕ) → IsBelow holder q → is_path q holder ≡ false
inside_other holder q below = below_apart holder q below

module _ (places : Key → Option ℕ) (next : ℕ) (holder : List ℕ) (o : ℕ) (is : Instances) (placed : ArePlaced places next is) (q : List ℕ) where
  -- a row's path is below that of its holder, which holds it, and no other row is on it
  pub row_inside : 0 < body_count q (rows_at holder o is) → IsBelow holder q × IsHeldIn holder q is × (body_count q (rows_at holder o is) ≤ 1)
  row_inside lt = by (linked_at holder is) refl lt
    where
      by_get : (l : Linked) → linked_at holder is ≡ Some l → (x : Option OutletState) → slice_get l.page.outlets o ≡ x → 0 < body_count q (bodies_or x)
          → IsBelow holder q × IsHeldIn holder q is × (body_count q (bodies_or x) ≤ 1)
      by_get l at None get lt = absurd (omega (arith, lt))
      by_get l at (Some x) get lt =
          let one : IsPlaced places next holder l = all_at (IsPlaced places next) is holder l placed at in
          let few = one_of q o l.page.outlets x get in
          let most = one.once q in
          (held_below holder q l.page.outlets one.bodies (omega (arith, lt, few)), (l, at, omega (arith, lt, few)), omega (arith, few, most))

      by : (m : Option Linked) → linked_at holder is ≡ m → 0 < body_count q (bodies_or (outlet_of_linked o m))
          → IsBelow holder q × IsHeldIn holder q is × (body_count q (bodies_or (outlet_of_linked o m)) ≤ 1)
      by None at lt = absurd (omega (arith, lt))
      by (Some l) at lt = by_get l at (slice_get l.page.outlets o) refl lt

-- what is not below a row stays where that goes
pub row_rest : (holder : List ℕ) (b : Body) (is : Instances) → RestStays holder (b ∷ []) is (unlinked holder b.path is)
row_rest holder b is = λ q below none.
    kept_found (λ (r : List ℕ). not (begins b.path r)) (outlets_changed holder (body_gone b.path) is) q (ap not none.0)
    ∙ changed_other holder (body_gone b.path) is q (below_apart holder q below)

pub one_rest : (holder : List ℕ) (b : Body) (t u : State) → u ≡ unlinked_at holder b.path t → RestStays holder (b ∷ []) t.instances u.instances
one_rest holder b t u is =
    subst (λ (x : Instances). RestStays holder (b ∷ []) t.instances x) (sym (ap (λ (x : State). x.instances) is)) (row_rest holder b t.instances)

-- ---- rows that go, and those that are kept

-- a body that an instance holds is not below another of them
pub apart_held : (is : Instances) → AreHeld is → (holder p q : List ℕ) → IsHeldIn holder q is → IsHeldIn holder p is → IsBelow holder p → is_path q p ≡ false → begins p q ≡ false
apart_held is held holder p q here there below apart = not_true (begins p q) never
  where
    never : begins p q ≡ true → ⊥
    never e = by (held.nearest holder q p here (held.linked holder p there) e)
      where
        by : (p ≡ q) ⊎ (begins p holder ≡ true) → ⊥
        by (inl same) = not_path q p apart (sym same)
        by (inr round) = true≢false (sym round ∙ not_begun holder p below)

-- where no row on a path goes, none that goes is one with whose path it begins
pub none_round : (is : Instances) → AreHeld is → (holder q : List ℕ) → IsHeldIn holder q is → (bs : List Body) → ((b : Body) → 0 < body_count b.path bs → IsHeldIn holder b.path is × IsBelow holder b.path) → body_count q bs ≡ 0 → AllByRecursion (λ (b : Body). begins b.path q ≡ false) bs
none_round is held holder q here [] those none = tt
none_round is held holder q here (b ∷ bs) those none = (first, none_round is held holder q here bs rest (omega (arith, none)))
  where
    itself : cond {A = ℕ} (is_path b.path b.path) 1 0 ≡ 1
    itself = ap (λ (x : Bool). cond {A = ℕ} x 1 0) (same_path b.path)

    off : (t : Bool) → is_path q b.path ≡ t → t ≡ false
    off true e =
        let one : cond {A = ℕ} (is_path q b.path) 1 0 ≡ 1 = ap (λ (x : Bool). cond {A = ℕ} x 1 0) e in
        absurd (omega (arith, one, none))
    off false e = refl

    first : begins b.path q ≡ false
    first =
        let there = those b (omega (arith, itself)) in
        apart_held is held holder b.path q here there.0 there.1 (off (is_path q b.path) refl)

    rest : (c : Body) → 0 < body_count c.path bs → IsHeldIn holder c.path is × IsBelow holder c.path
    rest c lt = those c (omega (arith, lt))

-- ---- an instance comes

pub others_come : (holder : List ℕ) (o i : ℕ) (role : Role) (p : List ℕ) (m : Linked) (is : Instances) → linked_at p is ≡ None → OthersStay holder is (outlets_changed holder (body_added o i (record { path = p; role = role })) (with_instance p m is))
others_come holder o i role p m is free = λ q l off at.
    (let apart : is_path q p ≡ false = other_path q p (λ same. let two : Some l ≡ None = sym at ∙ (ap (λ (r : List ℕ). linked_at r is) same ∙ free) in cc) in
    changed_other holder (body_added o i (record { path = p; role = role })) (with_instance p m is) q off ∙ (inserted_other p m is q apart ∙ at))
