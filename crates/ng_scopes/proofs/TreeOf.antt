-- What is read from rows, and how a change of one row changes the tree.
use Rattle.std.proofs.Common.{◌≡◌, ◌<◌, ◌+◌, ◌-◌, ℕ, zero, suc, List, [], ◌∷◌, ◌++◌, length, take, get_or, set, Some, None, refl, ap, sym, ◌∙◌, arith, inl, inr, ◌⊎◌}
use Rattle.std.specs.Prelude.{slice_get}
use Rattle.std.proofs.lemmas.List.{length-append}
use Rattle.std.proofs.Math.Seq.{take-append_seam}
use Rattle.std.proofs.lemmas.Bool.Decides.{eqb_tells}
use Rattle.ng_behaviour.specs.Scopes.{Scope, no_scope, scope_at, object_at, change_at, adopting, scope_from, of_object}
use Rattle.ng_scopes.specs.declared.rows.Row.{Row}
use Rattle.ng_scopes.specs.Rows.{tree_of, scope_of, losing, Rises}

pub tree-length : (rows : List Row) → length (tree_of rows) ≡ length rows
tree-length [] = refl
tree-length (x ∷ rows) = ap suc (tree-length rows)

pub tree-read : (rows : List Row) (s : ℕ) (d : Row) → s < length rows → scope_at (tree_of rows) s ≡ scope_of (get_or rows s d)
tree-read [] s d h = absurd (omega arith)
tree-read (x ∷ rows) zero d h = refl
tree-read (x ∷ rows) (suc s) d h = tree-read rows s d (omega arith)

pub tree-get : (rows : List Row) (s : ℕ) (r : Row) → slice_get rows s ≡ Some r → scope_at (tree_of rows) s ≡ scope_of r
tree-get [] s r e = absurd (cc)
tree-get (x ∷ rows) zero r e = let q : x ≡ r = cc in ap scope_of q
tree-get (x ∷ rows) (suc s) r e = tree-get rows s r e

pub tree-past : (rows : List Row) (s : ℕ) → slice_get rows s ≡ None → scope_at (tree_of rows) s ≡ no_scope
tree-past [] s e = refl
tree-past (x ∷ rows) zero e = absurd (cc)
tree-past (x ∷ rows) (suc s) e = tree-past rows s e

pub tree-set : (rows : List Row) (s : ℕ) (d y : Row) (f : Scope → Scope) → s < length rows → scope_of y ≡ f (scope_of (get_or rows s d)) → tree_of (set rows s y) ≡ change_at (tree_of rows) s f
tree-set [] s d y f h e = absurd (omega arith)
tree-set (x ∷ rows) zero d y f h e = ap (λ z. z ∷ tree_of rows) e
tree-set (x ∷ rows) (suc s) d y f h e = ap (λ zs. scope_of x ∷ zs) (tree-set rows s d y f (omega arith) e)

pub tree-kept : (rows : List Row) (s : ℕ) (d y : Row) → s < length rows → scope_of y ≡ scope_of (get_or rows s d) → tree_of (set rows s y) ≡ tree_of rows
tree-kept [] s d y h e = absurd (omega arith)
tree-kept (x ∷ rows) zero d y h e = ap (λ z. z ∷ tree_of rows) e
tree-kept (x ∷ rows) (suc s) d y h e = ap (λ zs. scope_of x ∷ zs) (tree-kept rows s d y (omega arith) e)

pub tree-push : (rows : List Row) (y : Row) → tree_of (rows ++ y ∷ []) ≡ tree_of rows ++ scope_of y ∷ []
tree-push [] y = refl
tree-push (x ∷ rows) y = ap (λ zs. scope_of x ∷ zs) (tree-push rows y)

take-push : (xs : List ℕ) (y : ℕ) → take (length (xs ++ y ∷ []) - 1) (xs ++ y ∷ []) ≡ xs
take-push xs y =
    let e : length (xs ++ y ∷ []) - 1 ≡ length xs = (let l = length-append xs (y ∷ []) in omega arith) in
    rw e (take-append_seam xs (y ∷ []))

lost : (x : Scope) (c : ℕ) → losing (adopting c x) ≡ x
lost x c = ap (λ (cs : List ℕ). record { path = x.path; parent = x.parent; object = x.object; live = x.live; children = cs }) (take-push x.children c)

-- a child is added and taken out again
pub change-lost : (t : List Scope) (s c : ℕ) → change_at (change_at t s (adopting c)) s losing ≡ t
change-lost [] s c = refl
change-lost (x ∷ t) zero c = ap (λ z. z ∷ t) (lost x c)
change-lost (x ∷ t) (suc s) c = ap (λ zs. x ∷ zs) (change-lost t s c)

from-none : (t : List Scope) (i o : ℕ) → ((r : ℕ) → r < length t → object_at t r ≡ o → ⊥) → scope_from i t o ≡ None
from-none [] i o h = refl
from-none (x ∷ t) i o h = elim (eqb_tells o x.object) [
  | inl q ↦ absurd (h 0 (omega arith) (sym q.1))
  | inr q ↦ rw q.0 (from-none t (suc i) o (λ r l e. h (suc r) (omega arith) e))
]

from-some : (t : List Scope) (i o s : ℕ) → ((r : ℕ) → r < s → object_at t r ≡ o → ⊥) → s < length t → object_at t s ≡ o → scope_from i t o ≡ Some (i + s)
from-some [] i o s h l e = absurd (omega arith)
from-some (x ∷ t) i o zero h l e = elim (eqb_tells o x.object) [
  | inl q ↦ rw q.0 (ap Some (omega arith))
  | inr q ↦ absurd (q.1 (sym e))
]
from-some (x ∷ t) i o (suc s) h l e = elim (eqb_tells o x.object) [
  | inl q ↦ absurd (h 0 (omega arith) (sym q.1))
  | inr q ↦ rw q.0 (from-some t (suc i) o s (λ r k f. h (suc r) (omega arith) f) (omega arith) e ∙ ap Some (omega arith))
]

pub object-none : (t : List Scope) (o : ℕ) → ((r : ℕ) → r < length t → object_at t r ≡ o → ⊥) → of_object t o ≡ None
object-none t o h = from-none t 0 o h

pub object-some : (t : List Scope) (o s : ℕ) → Rises t → s < length t → object_at t s ≡ o → of_object t o ≡ Some s
object-some t o s k l e = from-some t 0 o s (λ r h f. let z = k r s h l in omega arith) l e ∙ ap Some (omega arith)

near : (a b : ℕ) → a < b + 1 → (a < b) ⊎ (a ≡ b)
near a b h = grind arith

-- those up to one below o are below o
pub below-too : (t : List Scope) (s o r : ℕ) → Rises t → s < length t → object_at t s < o → r < s + 1 → object_at t r < o
below-too t s o r k h l m = elim (near r s m) [
  | inl b ↦ let z = k r s b h in omega arith
  | inr e ↦ rw e l
]

pub ruleset reads = (tree-length, tree-read, tree-get, tree-past, object-some, object-none)

pub ruleset writes = (tree-length, tree-set, tree-kept, tree-push, change-lost)
