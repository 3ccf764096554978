-- A table by paths, whose instances are seen as what they stand for.
use Rattle.std.proofs.Common.{◌≡◌, ℕ, Bool, true, false, cond, List, [], ◌∷◌, Some, refl, ap, sym, map}
use Rattle.std.specs.BTreeMap.{insert_entry}
use Rattle.std.specs.Map.{lookup, keys_of}
use Rattle.std.specs.Ordering.{is_eq, match_ordering}
use Rattle.std.specs.Prelude.{option_map}
use Rattle.std.specs.declared.cmp.Ordering.{Ordering}
use Rattle.std.specs.declared.cmp.Ordering.TheVariants.{Less, Equal, Greater}
use Rattle.ng_base.specs.Order.{path_cmp}
use Rattle.ng_instances.specs.Instances.{is_path}
use Rattle.ng_instances.proofs.PathIs.{path_is}

-- entries whose values are seen, by their paths, as something else
module _ {X Y : Type 0} (f : List ℕ → X → Y) where
  abbrev pub seen_at : List (List ℕ × X) → List (List ℕ × Y)
  seen_at es = map (λ e. (e.0, f e.0 e.1)) es

  pub keys-seen : (es : List (List ℕ × X)) → keys_of (seen_at es) ≡ keys_of es
  keys-seen [] = refl
  keys-seen (e ∷ es) = ap (λ (ps : List (List ℕ)). e.0 ∷ ps) (keys-seen es)

  pub found-seen : (p : List ℕ) (es : List (List ℕ × X)) → lookup (is_path p) (seen_at es) ≡ option_map (f p) (lookup (is_path p) es)
  found-seen p [] = refl
  found-seen p (e ∷ es) = by_test (is_path p e.0) refl (found-seen p es)
    where
      by_test : (b : Bool) → is_path p e.0 ≡ b → lookup (is_path p) (seen_at es) ≡ option_map (f p) (lookup (is_path p) es)
          → cond b (Some (f e.0 e.1)) (lookup (is_path p) (seen_at es)) ≡ option_map (f p) (cond b (Some e.1) (lookup (is_path p) es))
      by_test true is more = ap (λ (q : List ℕ). Some (f q e.1)) (sym (path_is p e.0 is))
      by_test false is more = more

  pub noted-seen : (p : List ℕ) (x : X) (es : List (List ℕ × X)) → seen_at (insert_entry path_cmp es p x) ≡ insert_entry path_cmp (seen_at es) p (f p x)
  noted-seen p x [] = refl
  noted-seen p x (e ∷ es) = by_order (path_cmp p e.0) refl (noted-seen p x es)
    where
      by_order : (o : Ordering) → path_cmp p e.0 ≡ o → seen_at (insert_entry path_cmp es p x) ≡ insert_entry path_cmp (seen_at es) p (f p x)
          → seen_at (match_ordering o ((p, x) ∷ e ∷ es) ((e.0, x) ∷ es) (e ∷ insert_entry path_cmp es p x))
          ≡ match_ordering o ((p, f p x) ∷ (e.0, f e.0 e.1) ∷ seen_at es) ((e.0, f p x) ∷ seen_at es) ((e.0, f e.0 e.1) ∷ insert_entry path_cmp (seen_at es) p (f p x))
      by_order Less is more = refl
      by_order Equal is more = ap (λ (q : List ℕ). (e.0, f q x) ∷ seen_at es) (sym (path_is p e.0 (ap is_eq is)))
      by_order Greater is more = ap (λ (ys : List (List ℕ × Y)). (e.0, f e.0 e.1) ∷ ys) more
