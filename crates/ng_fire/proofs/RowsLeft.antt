-- Rows that stand in the order of their entries, once others have gone, are left as they stand.
use Rattle.std.proofs.Common.{◌≡◌, ◌∙◌, ◌≤◌, ℕ, zero, suc, Bool, true, false, cond, not, List, [], ◌∷◌, slice_get, option_map, Option, Some, None, refl, ap, sym, subst, arith}
use Rattle.ng_base.specs.declared.path.Key.{Key}
use Rattle.ng_changes.proofs.AllAt.{all_at}
use Rattle.ng_fire.proofs.Parts.{filter_part, none_part, same_part, whole_part}
use Rattle.ng_fire.proofs.RowsTaken.{one_of, outlet_gone}
use Rattle.ng_fire.specs.Repeats.{bodies_at, bodies_or, rows_at, rows_taken}
use Rattle.ng_rows.specs.RowsInOrder.{IsPart}
use Rattle.ng_fire.specs.RowsKnown.{HaveGone, KeptOrGone}
use Rattle.ng_rows.specs.RepeatRows.{Row, kept_rows}
use Rattle.ng_link.proofs.Lookups.{changed_here, kept_found, kept_gone}
use Rattle.ng_link.specs.Calls.{arranged_at}
use Rattle.ng_link.specs.Standing.{ArePlaced, IsPlaced, body_count}
use Rattle.ng_link.specs.State.{State}
use Rattle.ng_instances.specs.Instances.{Body, Instances, Linked, OutletState, bodies_arranged, body_gone, is_path, linked_at, outlets_changed, unlinked, with_bodies, with_outlets, without_body}
use Rattle.ng_instances.specs.PlaceOf.{outlet_of_linked}
use Rattle.ng_behaviour.specs.Keys.{begins}

-- ---- rows go, and the others stay in their order

module _ (holder : List ℕ) (o : ℕ) (p : List ℕ) (all : List Body) where
  by_outlet : (x : Option OutletState) → IsPart (bodies_or x) all → IsPart (bodies_or (option_map (without_body p) x)) all
  by_outlet None h = h
  by_outlet (Some x) h = filter_part (λ (b : Body). not (is_path p b.path)) x.bodies all h

  by_linked : (m : Option Linked) → IsPart (bodies_or (outlet_of_linked o m)) all → IsPart (bodies_or (outlet_of_linked o (option_map (with_outlets (body_gone p)) m))) all
  by_linked None h = h
  by_linked (Some l) h = subst (λ (x : Option OutletState). IsPart (bodies_or x) all) (sym (outlet_gone p o l.page.outlets)) (by_outlet (slice_get l.page.outlets o) h)

  one_part : (is : Instances) → IsPart (rows_at holder o is) all → IsPart (rows_at holder o (unlinked holder p is)) all
  one_part is h = by (begins p holder) refl
    where
      changed : Instances
      changed = outlets_changed holder (body_gone p) is

      by : (t : Bool) → begins p holder ≡ t → IsPart (rows_at holder o (unlinked holder p is)) all
      by true e = subst (λ (m : Option Linked). IsPart (bodies_or (outlet_of_linked o m)) all) (sym (kept_gone (λ (q : List ℕ). not (begins p q)) changed holder (ap not e))) (none_part all)
      by false e =
          subst (λ (m : Option Linked). IsPart (bodies_or (outlet_of_linked o m)) all)
          (sym (kept_found (λ (q : List ℕ). not (begins p q)) changed holder (ap not e) ∙ changed_here holder (body_gone p) is)) (by_linked (linked_at holder is) h)

taken_part : (holder : List ℕ) (o : ℕ) (bs : List Body) (s : State) → IsPart (rows_at holder o (rows_taken holder bs s).instances) (rows_at holder o s.instances)
taken_part holder o [] s = whole_part (rows_at holder o s.instances)
taken_part holder o (b ∷ bs) s = one_part holder o b.path (rows_at holder o s.instances) (rows_taken holder bs s).instances (taken_part holder o bs s)

rows_once : (places : Key → Option ℕ) (next : ℕ) (holder : List ℕ) (o : ℕ) (is : Instances) → ArePlaced places next is → (q : List ℕ) → body_count q (rows_at holder o is) ≤ 1
rows_once places next holder o is placed q = by (linked_at holder is) refl
  where
    by_get : (l : Linked) → linked_at holder is ≡ Some l → (x : Option OutletState) → slice_get l.page.outlets o ≡ x → body_count q (bodies_or x) ≤ 1
    by_get l at None get = omega arith
    by_get l at (Some x) get =
        let one : IsPlaced places next holder l = all_at (IsPlaced places next) is holder l placed at in
        let most = one.once q in
        let few = one_of q o l.page.outlets x get in
        omega (arith, most, few)

    by : (m : Option Linked) → linked_at holder is ≡ m → body_count q (bodies_or (outlet_of_linked o m)) ≤ 1
    by None at = omega arith
    by (Some l) at = by_get l at (slice_get l.page.outlets o) refl

pub left_in_order : (places : Key → Option ℕ) (next : ℕ) (holder : List ℕ) (o : ℕ) (bs : List Body) (gone : List ℕ) (rs : List Row) (old new : State) → ArePlaced places next old.instances → rows_at holder o old.instances ≡ bs
    → KeptOrGone bs gone rs → HaveGone holder o (bodies_at bs gone) old.instances new.instances → new ≡ rows_taken holder (bodies_at bs gone) old → IsPart (kept_rows rs) bs → rows_at holder o new.instances ≡ kept_rows rs
left_in_order places next holder o bs gone rs old new placed stand all left state part =
    same_part bs (rows_at holder o new.instances) (kept_rows rs)
    (subst (λ (xs : List Body). IsPart (rows_at holder o new.instances) xs) stand
    (subst (λ (s : State). IsPart (rows_at holder o s.instances) (rows_at holder o old.instances)) (sym state) (taken_part holder o (bodies_at bs gone) old)))
    part
    (λ q. (let most = rows_once places next holder o old.instances placed q in let here = ap (body_count q) stand in omega (arith, most, here)))
    (λ q. (let here = ap (body_count q) stand in let both = all q in let less = left q in omega (arith, here, both, less)))

-- ---- an outlet gets the rows that it has

same_outlets : (n : ℕ) (bs : List Body) (os : List OutletState) → bodies_or (slice_get os n) ≡ bs → bodies_arranged n bs os ≡ os
same_outlets n bs [] is = refl
same_outlets zero bs (x ∷ os) is = ap (λ (ys : List Body). with_bodies ys x ∷ os) (sym is)
same_outlets (suc n) bs (x ∷ os) is = ap (λ (ys : List OutletState). x ∷ ys) (same_outlets n bs os is)

same_instances : (holder : List ℕ) (o : ℕ) (bs : List Body) (is : Instances) → rows_at holder o is ≡ bs → outlets_changed holder (bodies_arranged o bs) is ≡ is
same_instances holder o bs [] h = refl
same_instances holder o bs (e ∷ es) h = by (is_path holder e.0) h (same_instances holder o bs es)
  where
    by : (t : Bool) → bodies_or (outlet_of_linked o (cond t (Some e.1) (linked_at holder es))) ≡ bs → (rows_at holder o es ≡ bs → outlets_changed holder (bodies_arranged o bs) es ≡ es)
        → cond t ((e.0, with_outlets (bodies_arranged o bs) e.1) ∷ es) (e ∷ outlets_changed holder (bodies_arranged o bs) es) ≡ e ∷ es
    by true k more = ap (λ (os : List OutletState). (e.0, with_outlets (λ (xs : List OutletState). os) e.1) ∷ es) (same_outlets o bs e.1.page.outlets k)
    by false k more = ap (λ (is : Instances). e ∷ is) (more k)

pub arranged_same : (holder : List ℕ) (o : ℕ) (bs : List Body) (s : State) → rows_at holder o s.instances ≡ bs → s ≡ arranged_at holder o bs s
arranged_same holder o bs s h = ap (λ (is : Instances). (let t : State = record s { instances = is } in t)) (sym (same_instances holder o bs s.instances h))
