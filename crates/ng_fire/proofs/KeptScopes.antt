-- The scopes of the rows that are kept, while rows are made.
use Rattle.std.proofs.Common.{◌≡◌, ◌∙◌, ◌<◌, ◌++◌, ℕ, zero, suc, Bool, false, cond, List, [], ◌∷◌, slice_get, option_map, Option, Some, None, ap, sym, subst, arith}
use Rattle.std.specs.Prelude.{IfSome, IsSome}
use Rattle.ng_base.specs.declared.path.Key.{Key}
use Rattle.ng_changes.proofs.Answered.{there}
use Rattle.ng_fire.proofs.RowsStay.{inside_other, row_inside}
use Rattle.ng_fire.specs.Repeats.{rows_at}
use Rattle.ng_fire.specs.RowsKnown.{AreKeptOn, IsKeptOn, TakesScope}
use Rattle.ng_fire.specs.Serving.{OthersStay}
use Rattle.ng_instances.specs.Instances.{Body, Instances, Linked, OutletState, bodies_arranged, is_path, linked_at, outlets_changed, with_outlets}
use Rattle.ng_instances.specs.PlaceOf.{outlet_of_linked}
use Rattle.ng_link.proofs.Lookups.{changed_here}
use Rattle.ng_link.proofs.PathsBelow.{same_path}
use Rattle.ng_link.specs.Events.{scope_in, scopes_at}
use Rattle.ng_link.specs.Standing.{AreHeld, ArePlaced, body_count}
use Rattle.ng_rows.specs.RepeatRows.{Row, kept_from, kept_rows, role_for}

-- the scope of a row that is kept
pub kept_scope : (holder : List ℕ) (is : Instances) (n : ℕ) (o : Option (List ℕ)) → IfSome o (λ p. IsKeptOn holder is p n) → IfSome o (λ p. n ≡ scope_in (linked_at p is))
kept_scope holder is n None h = tt
kept_scope holder is n (Some p) h = sym (ap scope_in h.linked.1 ∙ h.linked.2)

-- what is linked on other paths than the holder's stays, and so do the scopes
pub kept_stay : (holder : List ℕ) (old new : Instances) → OthersStay holder old new → (bs : List Body) (ns : List ℕ) → AreKeptOn holder old bs ns → AreKeptOn holder new bs ns
kept_stay holder old new others [] ns all = tt
kept_stay holder old new others (b ∷ bs) [] all = absurd all
kept_stay holder old new others (b ∷ bs) (n ∷ ns) all = (one, kept_stay holder old new others bs ns all.1)
  where
    one : IsKeptOn holder new b.path n
    one = record { apart = all.0.apart; linked = (all.0.linked.0, others b.path all.0.linked.0 all.0.apart all.0.linked.1, all.0.linked.2) }

-- ---- row by row

pub none_taken : (r : Row) (ns : List ℕ) (n : ℕ) → r.from ≡ None → TakesScope r ns n ns
none_taken r ns n e = λ holder is rs all.
    (subst (λ (o : Option (List ℕ)). IfSome o (λ p. IsKeptOn holder is p n)) (sym e) tt, subst (λ (o : Option (List ℕ)). AreKeptOn holder is (kept_from o (role_for r) ++ kept_rows rs) ns) e all)

pub one_taken : (r : Row) (ns : List ℕ) (n : ℕ) (p : List ℕ) → r.from ≡ Some p → TakesScope r (n ∷ ns) n ns
one_taken r ns n p e = λ holder is rs all.
    (let both = subst (λ (o : Option (List ℕ)). AreKeptOn holder is (kept_from o (role_for r) ++ kept_rows rs) (n ∷ ns)) e all in
    (subst (λ (o : Option (List ℕ)). IfSome o (λ p. IsKeptOn holder is p n)) (sym e) both.0, both.1))

pub nothing_taken : (r : Row) (n : ℕ) (p : List ℕ) → r.from ≡ Some p → TakesScope r [] n []
nothing_taken r n p e = λ holder is rs all. absurd (subst (λ (o : Option (List ℕ)). AreKeptOn holder is (kept_from o (role_for r) ++ kept_rows rs) []) e all)

-- ---- the rows of an outlet that are put in order

arranged_bodies : (o : ℕ) (bs : List Body) (os : List OutletState) (x : OutletState) → slice_get (bodies_arranged o bs os) o ≡ Some x → x.bodies ≡ bs
arranged_bodies o bs [] x e = absurd (cc)
arranged_bodies zero bs (y ∷ os) x e = let same : (let z : OutletState = record y { bodies = bs } in z) ≡ x = cc in ap (λ (z : OutletState). z.bodies) (sym same)
arranged_bodies (suc o) bs (y ∷ os) x e = arranged_bodies o bs os x e

pub arranged_rows : (holder : List ℕ) (o : ℕ) (bs : List Body) (is : Instances) (x : OutletState) → outlet_of_linked o (linked_at holder (outlets_changed holder (bodies_arranged o bs) is)) ≡ Some x → x.bodies ≡ bs
arranged_rows holder o bs is x e = by (linked_at holder is) (sym (ap (outlet_of_linked o) (changed_here holder (bodies_arranged o bs) is)) ∙ e)
  where
    by : (m : Option Linked) → outlet_of_linked o (option_map (with_outlets (bodies_arranged o bs)) m) ≡ Some x → x.bodies ≡ bs
    by None h = absurd (cc)
    by (Some l) h = arranged_bodies o bs l.page.outlets x h

-- bodies that are linked below the holder, with the scopes that they have
linked_kept : (holder : List ℕ) (is : Instances) (bs : List Body) → ((q : List ℕ) → 0 < body_count q bs → (is_path q holder ≡ false) × IsSome (linked_at q is)) → AreKeptOn holder is bs (scopes_at bs is)
linked_kept holder is [] those = tt
linked_kept holder is (b ∷ bs) those = (first, linked_kept holder is bs (λ q lt. those q (omega (arith, lt))))
  where
    itself : cond {A = ℕ} (is_path b.path b.path) 1 0 ≡ 1
    itself = ap (λ (x : Bool). cond {A = ℕ} x 1 0) (same_path b.path)

    first : IsKeptOn holder is b.path (scope_in (linked_at b.path is))
    first =
        let one = those b.path (omega (arith, itself)) in
        let l = there (linked_at b.path is) one.1 in
        record { apart = one.0; linked = (l.0, l.1, sym (ap scope_in l.1)) }

-- so it is with the rows of an outlet
pub rows_kept : (places : Key → Option ℕ) (next : ℕ) (holder : List ℕ) (o : ℕ) (is : Instances) → ArePlaced places next is → AreHeld is → (bs : List Body) → rows_at holder o is ≡ bs → AreKeptOn holder is bs (scopes_at bs is)
rows_kept places next holder o is placed held bs stand =
    linked_kept holder is bs
    (λ q lt.
    (let here = ap (body_count q) stand in
    let inside = row_inside places next holder o is placed q (omega (arith, lt, here)) in
    (inside_other holder q inside.0, held.linked holder q inside.1)))
