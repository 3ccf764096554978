-- What is found in a table by paths where an entry comes.
use Rattle.std.proofs.Common.{◌≡◌, ℕ, Bool, true, false, cond, List, [], ◌∷◌, Option, Some, None, refl, ap, ◌∙◌, sym}
use Rattle.std.specs.BTreeMap.{insert_entry}
use Rattle.std.specs.Map.{lookup}
use Rattle.std.specs.Ordering.{is_eq, match_ordering}
use Rattle.std.specs.declared.cmp.Ordering.{Ordering}
use Rattle.std.specs.declared.cmp.Ordering.TheVariants.{Less, Equal, Greater}
use Rattle.ng_base.specs.Order.{path_cmp}
use Rattle.ng_instances.specs.Instances.{is_path}
use Rattle.ng_instances.proofs.PathIs.{path_is}
use Rattle.ng_link.proofs.PathsBelow.{is_that, other_path, not_path}

-- what is found where an entry comes
path_swap : (p q : List ℕ) → is_path q p ≡ is_path p q
path_swap p q = by_test (is_path p q) refl
  where
    by_test : (b : Bool) → is_path p q ≡ b → is_path q p ≡ b
    by_test true e = is_that q p (sym (path_is p q e))
    by_test false e = other_path q p (λ same. not_path p q e (sym same))

pub noted_found : {X : Type 0} (p : List ℕ) (x : X) (es : List (List ℕ × X)) (q : List ℕ) → lookup (is_path q) (insert_entry path_cmp es p x) ≡ cond (is_path p q) (Some x) (lookup (is_path q) es)
noted_found p x [] q = ap (λ (b : Bool). cond b (Some x) None) (path_swap p q)
noted_found {X} p x (e ∷ es) q = by_order (path_cmp p e.0) refl (noted_found p x es q)
  where
    there : Option X
    there = lookup (is_path q) (e ∷ es)

    by_order : (o : Ordering) → path_cmp p e.0 ≡ o → lookup (is_path q) (insert_entry path_cmp es p x) ≡ cond (is_path p q) (Some x) (lookup (is_path q) es)
        → lookup (is_path q) (match_ordering o ((p, x) ∷ e ∷ es) ((e.0, x) ∷ es) (e ∷ insert_entry path_cmp es p x)) ≡ cond (is_path p q) (Some x) there
    by_order Less is more = ap (λ (b : Bool). cond b (Some x) there) (path_swap p q)
    by_order Equal is more =
        let here : is_path q e.0 ≡ is_path p q = ap (is_path q) (sym (path_is p e.0 (ap is_eq is))) ∙ path_swap p q in
        ap (λ (b : Bool). cond b (Some x) (lookup (is_path q) es)) here ∙ by_path (is_path p q) here
      where
        by_path : (b : Bool) → is_path q e.0 ≡ b → cond b (Some x) (lookup (is_path q) es) ≡ cond b (Some x) there
        by_path true t = refl
        by_path false t = sym (ap (λ (c : Bool). cond c (Some e.1) (lookup (is_path q) es)) t)
    by_order Greater is more = by_path (is_path q e.0) refl
      where
        by_path : (b : Bool) → is_path q e.0 ≡ b → cond b (Some e.1) (lookup (is_path q) (insert_entry path_cmp es p x)) ≡ cond (is_path p q) (Some x) (cond b (Some e.1) (lookup (is_path q) es))
        by_path true t =
            let off : is_path p q ≡ false = ap (is_path p) (path_is q e.0 t) ∙ ap is_eq is in
            sym (ap (λ (c : Bool). cond c (Some x) (Some e.1)) off)
        by_path false t = more
