-- The outlets of an instance change in the code's table.
use Rattle.std.proofs.Common.{◌≡◌, ◌<◌, ℕ, zero, suc, Bool, true, false, cond, List, [], ◌∷◌, Option, Some, None, refl, ap, ◌∙◌, sym, map, length, get_or, set, arith}
use Rattle.std.specs.Map.{lookup, set_value}
use Rattle.std.specs.Prelude.{option_and_then}
use Rattle.ng_base.specs.declared.path.Key.{Key}
use Rattle.ng_drawing.specs.Named.{Named}
use Rattle.ng_instances.specs.Instances.{Body, OutletState, Linked, Instances, Inners, instance_path, is_path, with_outlets, outlets_changed, with_body, body_added, with_bodies, bodies_arranged}
use Rattle.ng_instances.specs.InstanceOf.{outlet_of, linked_of, instances_of, spot_at, spot_in}
use Rattle.ng_instances.specs.declared.instances.Linked as code
use Rattle.ng_instances.specs.declared.instances.OutletState as code_outlet

-- a body more in one outlet
pub added_set : (b : Body) (i k : ℕ) (xs : List code_outlet.OutletState) (x y : code_outlet.OutletState) → i < length xs → x ≡ get_or xs i x → outlet_of y ≡ with_body k b (outlet_of x)
    → map outlet_of (set xs i y) ≡ body_added i k b (map outlet_of xs)
added_set b i k [] x y lt at e = absurd (omega (arith, lt))
added_set b zero k (z ∷ zs) x y lt at e = ap (λ (o : OutletState). o ∷ map outlet_of zs) (e ∙ ap (λ (u : code_outlet.OutletState). with_body k b (outlet_of u)) at)
added_set b (suc i) k (z ∷ zs) x y lt at e = ap (λ (os : List OutletState). outlet_of z ∷ os) (added_set b i k zs x y (omega (arith, lt)) at e)

pub added_past : (b : Body) (i k : ℕ) (xs : List code_outlet.OutletState) → (i < length xs → ⊥) → body_added i k b (map outlet_of xs) ≡ map outlet_of xs
added_past b i k [] off = refl
added_past b zero k (x ∷ xs) off = absurd (off (omega arith))
added_past b (suc i) k (x ∷ xs) off = ap (λ (os : List OutletState). outlet_of x ∷ os) (added_past b i k xs (λ lt. off (omega (arith, lt))))

-- other bodies in one outlet
pub arranged_set : (bs : List Body) (i : ℕ) (xs : List code_outlet.OutletState) (x y : code_outlet.OutletState) → i < length xs → x ≡ get_or xs i x → outlet_of y ≡ with_bodies bs (outlet_of x)
    → map outlet_of (set xs i y) ≡ bodies_arranged i bs (map outlet_of xs)
arranged_set bs i [] x y lt at e = absurd (omega (arith, lt))
arranged_set bs zero (z ∷ zs) x y lt at e = ap (λ (o : OutletState). o ∷ map outlet_of zs) (e ∙ ap (λ (u : code_outlet.OutletState). with_bodies bs (outlet_of u)) at)
arranged_set bs (suc i) (z ∷ zs) x y lt at e = ap (λ (os : List OutletState). outlet_of z ∷ os) (arranged_set bs i zs x y (omega (arith, lt)) at e)

pub arranged_past : (bs : List Body) (i : ℕ) (xs : List code_outlet.OutletState) → (i < length xs → ⊥) → bodies_arranged i bs (map outlet_of xs) ≡ map outlet_of xs
arranged_past bs i [] off = refl
arranged_past bs zero (x ∷ xs) off = absurd (off (omega arith))
arranged_past bs (suc i) (x ∷ xs) off = ap (λ (os : List OutletState). outlet_of x ∷ os) (arranged_past bs i xs (λ lt. off (omega (arith, lt))))

-- an instance with other outlets
module _ (all : List Named) (holder : List ℕ) (g : List OutletState → List OutletState) where
  pub written : (es : List (List ℕ × code.Linked)) (v w : code.Linked) → lookup (is_path holder) es ≡ Some v → w ≡ record v { outlets = w.outlets } → map outlet_of w.outlets.items ≡ g (map outlet_of v.outlets.items)
      → instances_of all (set_value (is_path holder) es w) ≡ outlets_changed holder g (instances_of all es)
  written [] v w at same outlets = refl
  written (e ∷ es) v w at same outlets = by_test (is_path holder e.0) at (written es v w)
    where
      by_test : (b : Bool) → cond b (Some e.1) (lookup (is_path holder) es) ≡ Some v
          → (lookup (is_path holder) es ≡ Some v → w ≡ record v { outlets = w.outlets } → map outlet_of w.outlets.items ≡ g (map outlet_of v.outlets.items) → instances_of all (set_value (is_path holder) es w) ≡ outlets_changed holder g (instances_of all es))
          → instances_of all (cond b ((e.0, w) ∷ es) (e ∷ set_value (is_path holder) es w)) ≡ cond b ((e.0, with_outlets g (linked_of all e.0 e.1)) ∷ instances_of all es) ((e.0, linked_of all e.0 e.1) ∷ outlets_changed holder g (instances_of all es))
      by_test true here more =
          let one : e.1 ≡ v = cc in
          let made : linked_of all e.0 w ≡ with_outlets g (linked_of all e.0 v) =
          ap (linked_of all e.0) same ∙ ap (λ (os : List OutletState). with_outlets (λ x. os) (linked_of all e.0 v)) outlets in
          ap (λ (l : Linked). (e.0, l) ∷ instances_of all es) (made ∙ ap (λ (u : code.Linked). with_outlets g (linked_of all e.0 u)) (sym one))
      by_test false here more = ap (λ (is : Instances). (e.0, linked_of all e.0 e.1) ∷ is) (more here same outlets)

  pub unwritten : (es : List (List ℕ × code.Linked)) → lookup (is_path holder) es ≡ None → instances_of all es ≡ outlets_changed holder g (instances_of all es)
  unwritten [] at = refl
  unwritten (e ∷ es) at = by_test (is_path holder e.0) at (unwritten es)
    where
      by_test : (b : Bool) → cond b (Some e.1) (lookup (is_path holder) es) ≡ None → (lookup (is_path holder) es ≡ None → instances_of all es ≡ outlets_changed holder g (instances_of all es))
          → instances_of all (e ∷ es) ≡ cond b ((e.0, with_outlets g (linked_of all e.0 e.1)) ∷ instances_of all es) ((e.0, linked_of all e.0 e.1) ∷ outlets_changed holder g (instances_of all es))
      by_test true here more = absurd (cc)
      by_test false here more = ap (λ (is : Instances). (e.0, linked_of all e.0 e.1) ∷ is) (more here)

-- each site is drawn where it was
pub spots_written : (inner : Inners) (holder : List ℕ) (k : Key) (es : List (List ℕ × code.Linked)) (v w : code.Linked) → lookup (is_path holder) es ≡ Some v → w ≡ record v { outlets = w.outlets } → spot_in inner (set_value (is_path holder) es w) k ≡ spot_in inner es k
spots_written inner holder k [] v w at same = refl
spots_written inner holder k (e ∷ es) v w at same = by_test (is_path holder e.0) at (spots_written inner holder k es v w)
  where
    spot_of : Option code.Linked → Option ℕ
    spot_of o = option_and_then (λ (i : code.Linked). spot_at i k) o

    by_test : (b : Bool) → cond b (Some e.1) (lookup (is_path holder) es) ≡ Some v → (lookup (is_path holder) es ≡ Some v → w ≡ record v { outlets = w.outlets } → spot_in inner (set_value (is_path holder) es w) k ≡ spot_in inner es k)
        → spot_in inner (cond b ((e.0, w) ∷ es) (e ∷ set_value (is_path holder) es w)) k ≡ spot_in inner (e ∷ es) k
    by_test true here more =
        let one : e.1 ≡ v = cc in
        let alike : spot_at w k ≡ spot_at e.1 k = ap (λ (i : code.Linked). spot_at i k) same ∙ ap (λ (i : code.Linked). spot_at i k) (sym one) in
        by_key (is_path (instance_path inner k.path) e.0) alike
      where
        by_key : (c : Bool) → spot_at w k ≡ spot_at e.1 k → spot_of (cond c (Some w) (lookup (is_path (instance_path inner k.path)) es)) ≡ spot_of (cond c (Some e.1) (lookup (is_path (instance_path inner k.path)) es))
        by_key true same_spot = same_spot
        by_key false same_spot = refl
    by_test false here more = by_key (is_path (instance_path inner k.path) e.0) (more here same)
      where
        by_key : (c : Bool) → spot_of (lookup (is_path (instance_path inner k.path)) (set_value (is_path holder) es w)) ≡ spot_of (lookup (is_path (instance_path inner k.path)) es)
            → spot_of (cond c (Some e.1) (lookup (is_path (instance_path inner k.path)) (set_value (is_path holder) es w))) ≡ spot_of (cond c (Some e.1) (lookup (is_path (instance_path inner k.path)) es))
        by_key true more_spot = refl
        by_key false more_spot = more_spot
