-- The scopes that are found on a walk over the table of instances.
use Rattle.std.proofs.Common.{◌≡◌, ◌∙◌, ℕ, true, false, List, [], ◌∷◌, Option, Some, None, refl, ap, sym, subst}
use Rattle.std.specs.BTreeMap.{BTreeMap}
use Rattle.std.specs.Prelude.{IfSome, is_some, slice_get}
use Rattle.std.specs.BTreeMap.Range.{IsRangeOf}
use Rattle.std.specs.List.{AllByRecursion}
use Rattle.std.specs.Map.{lookup}
use Rattle.std.specs.Ordering.{is_eq, is_gt, ordering_reverse}
use Rattle.std.specs.declared.cmp.Ordering.{Ordering}
use Rattle.std.specs.declared.cmp.Ordering.TheVariants.{Less, Equal, Greater}
use Rattle.std.specs.declared.ops.Bound.TheVariants.{Included, Unbounded}
use Rattle.std.proofs.lemmas.Cmp.{tied_itself}
use Rattle.std.proofs.lemmas.List.Elements.{recursion_from_All}
use Rattle.ng_base.specs.Order.{path_cmp, path_cmp_total}
use Rattle.ng_drawing.specs.Named.{Named}
use Rattle.ng_instances.proofs.PathIs.{path_is}
use Rattle.ng_instances.specs.Instances.{is_path, linked_at}
use Rattle.ng_instances.specs.InstanceOf.{instances_of}
use Rattle.ng_instances.specs.declared.instances.Linked.{Linked}
use Rattle.ng_link.proofs.Owners.{scope_or, node_scope}
use Rattle.ng_link.specs.Events.{scope_in}
use Rattle.ng_link.specs.Walking.{AreOf, Table}

-- the scope of what is found, and of nothing
pub found_scope : (all : List Named) (is : Table) (p : List ℕ) (o : Option Linked) → lookup (is_path p) is ≡ o → scope_or o ≡ scope_in (linked_at p (instances_of all is))
found_scope all is p o e = ap scope_or (sym e) ∙ sym (node_scope all is (Some p))

-- the first ahead is the instance on its path
pub first_scope : (all : List Named) (is : Table) (ahead rest : Table) (e : List ℕ × Linked) (p : List ℕ) → AreOf is ahead → ahead ≡ e ∷ rest → e.0 ≡ p → e.1.scope.0 ≡ scope_in (linked_at p (instances_of all is))
first_scope all is ahead rest e p are first same =
    let found = (subst (AreOf is) first are).0 in
    found_scope all is p (Some e.1) (ap (λ (q : List ℕ). lookup (is_path q) is) (sym same) ∙ found)

pub rest_of : (is ahead rest : Table) (e : List ℕ × Linked) → AreOf is ahead → ahead ≡ e ∷ rest → AreOf is rest
rest_of is ahead rest e are first = (subst (AreOf is) first are).1

pub none_of : (is ahead : Table) → ahead ≡ [] → AreOf is ahead
none_of is ahead e = subst (AreOf is) (sym e) tt

not_apart : (o : Ordering) → is_gt o ≡ false → is_gt (ordering_reverse o) ≡ false → is_eq o ≡ true
not_apart Less e f = absurd (cc)
not_apart Equal e f = refl
not_apart Greater e f = absurd (cc)

-- those from a path on
module _ (p : List ℕ) (m : BTreeMap (List ℕ) Linked) (r : Table) (from : IsRangeOf path_cmp (Included p) Unbounded m r) where
  pub range_of : AreOf m.entries r
  range_of = by r (recursion_from_All _ r from.0)
    where
      by : (es : Table) → AllByRecursion (λ (e : List ℕ × Linked). (let both : Type 0 = (is_gt (path_cmp p e.0) ≡ false) × Unit {0} in both) × (lookup (is_path e.0) m.entries ≡ Some e.1)) es → AreOf m.entries es
      by [] all = tt
      by (e ∷ es) all = (all.0.1, by es all.1)

  -- where there are none, and where the first is on another path, there is no instance on the path
  pub none_from : r ≡ [] → lookup (is_path p) m.entries ≡ None
  none_from e = from.5 e p (ap is_gt (tied_itself path_cmp_total p), tt)

  pub other_from : (e : List ℕ × Linked) (rest : Table) → r ≡ e ∷ rest → (e.0 ≡ p → ⊥) → lookup (is_path p) m.entries ≡ None
  other_from e rest first off = by (lookup (is_path p) m.entries) refl
    where
      within : is_gt (path_cmp p e.0) ≡ false
      within = (subst (λ (es : Table). IfSome (slice_get es 0) (λ (x : List ℕ × Linked). (is_gt (path_cmp p x.0) ≡ false × Unit {0}) × (lookup (is_path x.0) m.entries ≡ Some x.1))) first from.1).0.0

      before : (l : Linked) → lookup (is_path p) m.entries ≡ Some l → is_gt (path_cmp e.0 p) ≡ false
      before l found =
          subst (λ (es : Table). IfSome (slice_get es 0) (λ (x : List ℕ × Linked). is_gt (path_cmp x.0 p) ≡ false)) first
          (from.2 p (ap is_gt (tied_itself path_cmp_total p), tt) (ap is_some found))

      by : (o : Option Linked) → lookup (is_path p) m.entries ≡ o → o ≡ None
      by None found = refl
      by (Some l) found =
          absurd (off (sym (path_is p e.0 (not_apart (path_cmp p e.0) within (ap is_gt (sym (path_cmp_total.antisymm e.0 p)) ∙ before l found)))))
