-- What is found in a table where an entry comes or goes.
use Rattle.std.proofs.Common.{◌≡◌, Bool, true, false, cond, List, [], ◌∷◌, Option, Some, None, refl, ap, ◌∙◌, sym, map, Bor}
use Rattle.std.specs.BTreeMap.{insert_entry}
use Rattle.std.specs.List.{AllByRecursion, filter}
use Rattle.std.specs.List.Sorted.{IsStrictlySortedBy}
use Rattle.std.specs.Map.{lookup, remove_entry, keys_of}
use Rattle.std.specs.Option.{option_copied}
use Rattle.std.specs.Prelude.{option_map}
use Rattle.std.specs.Ordering.{is_eq, match_ordering}
use Rattle.std.specs.declared.cmp.Ordering.{Ordering}
use Rattle.std.specs.declared.cmp.Ordering.TheVariants.{Less, Equal, Greater}
use Rattle.std.proofs.lemmas.Map.Keys.{sorted_head, sorted_tail}
use Rattle.ng_base.specs.declared.path.Key.{Key}
use Rattle.ng_behaviour.specs.Keys.{key_cmp, is_key}
use Rattle.ng_build.proofs.Keys.{key_is, same_key, other_key}

ordered_then : (k : Key) (ks : List Key) → AllByRecursion (λ y. key_cmp k y ≡ Less) ks → IsStrictlySortedBy key_cmp ks → IsStrictlySortedBy key_cmp (k ∷ ks)
unfolding IsStrictlySortedBy
ordered_then k ks above o = (above, o)

module _ {X : Type 0} where
  -- at another key than that which is put in, the same is found
  pub put-other : (k q : Key) (v : X) (es : List (Key × X)) → (q ≡ k → ⊥) → lookup (is_key q) (insert_entry key_cmp es k v) ≡ lookup (is_key q) es
  put-other k q v [] ne = rw (other_key q k (λ e. ne (sym e))) refl
  put-other k q v (e ∷ es) ne = by_order (key_cmp k e.0) refl (put-other k q v es ne)
    where
      off : is_key q k ≡ false
      off = other_key q k (λ s. ne (sym s))

      by_order : (o : Ordering) → key_cmp k e.0 ≡ o → lookup (is_key q) (insert_entry key_cmp es k v) ≡ lookup (is_key q) es
          → lookup (is_key q) (match_ordering o ((k, v) ∷ e ∷ es) ((e.0, v) ∷ es) (e ∷ insert_entry key_cmp es k v)) ≡ cond (is_key q e.0) (Some e.1) (lookup (is_key q) es)
      by_order Less is more = rw off refl
      by_order Equal is more = let same : k ≡ e.0 = key_is k e.0 (ap is_eq is) in let apart : is_key q e.0 ≡ false = rw (← same) off in rw apart refl
      by_order Greater is more = ap (cond (is_key q e.0) (Some e.1)) more

  -- what is put in is found
  pub put-same : (k : Key) (v : X) (es : List (Key × X)) → lookup (is_key k) (insert_entry key_cmp es k v) ≡ Some v
  put-same k v [] = rw (same_key k) refl
  put-same k v (e ∷ es) = by_order (key_cmp k e.0) refl (put-same k v es)
    where
      by_order : (o : Ordering) → key_cmp k e.0 ≡ o → lookup (is_key k) (insert_entry key_cmp es k v) ≡ Some v
          → lookup (is_key k) (match_ordering o ((k, v) ∷ e ∷ es) ((e.0, v) ∷ es) (e ∷ insert_entry key_cmp es k v)) ≡ Some v
      by_order Less is more = rw (same_key k) refl
      by_order Equal is more = let here : is_key k e.0 ≡ true = ap is_eq is in rw here refl
      by_order Greater is more = let off : is_key k e.0 ≡ false = ap is_eq is in rw off more

  -- at another key than that which is taken out, the same is found
  pub removed-other : (k q : Key) (es : List (Key × X)) → (q ≡ k → ⊥) → lookup (is_key q) (remove_entry (is_key k) es) ≡ lookup (is_key q) es
  removed-other k q [] ne = refl
  removed-other k q (e ∷ es) ne = by_test (is_key k e.0) refl (removed-other k q es ne)
    where
      by_test : (b : Bool) → is_key k e.0 ≡ b → lookup (is_key q) (remove_entry (is_key k) es) ≡ lookup (is_key q) es
          → lookup (is_key q) (cond b es (e ∷ remove_entry (is_key k) es)) ≡ cond (is_key q e.0) (Some e.1) (lookup (is_key q) es)
      by_test true is more = let same : k ≡ e.0 = key_is k e.0 is in let apart : is_key q e.0 ≡ false = rw (← same) (other_key q k (λ s. ne (sym s))) in rw apart refl
      by_test false is more = ap (cond (is_key q e.0) (Some e.1)) more

  -- a key below all others isn't found among them
  absent : (q : Key) (es : List (Key × X)) → AllByRecursion (λ y. key_cmp q y ≡ Less) (keys_of es) → lookup (is_key q) es ≡ None
  absent q [] below = refl
  absent q (e ∷ es) below = let off : is_key q e.0 ≡ false = ap is_eq below.0 in rw off (absent q es below.1)

  -- the key of the first entry isn't found in the others
  pub first_alone : (e : Key × X) (es : List (Key × X)) → IsStrictlySortedBy key_cmp (keys_of (e ∷ es)) → lookup (is_key e.0) es ≡ None
  first_alone e es o = absent e.0 es (sorted_head key_cmp e.0 (keys_of es) o)

  -- what was found, where it passes a test
  abbrev pub passed : (Key × X → Bool) → Key → Option X → Option X
  passed p q None = None
  passed p q (Some w) = cond (p (q, w)) (Some w) None

  -- the first entry, and an entry of another key
  found_first : (p : Key × X → Bool) (e : Key × X) (es : List (Key × X)) → lookup (is_key e.0) (filter p es) ≡ None → (b : Bool) → p e ≡ b
      → lookup (is_key e.0) (cond b (e ∷ filter p es) (filter p es)) ≡ cond b (Some e.1) None
  found_first p e es none true pass = rw (same_key e.0) refl
  found_first p e es none false pass = none

  found_later : (p : Key × X → Bool) (q : Key) (e : Key × X) (es : List (Key × X)) → is_key q e.0 ≡ false → (b : Bool) → lookup (is_key q) (cond b (e ∷ filter p es) (filter p es)) ≡ lookup (is_key q) (filter p es)
  found_later p q e es off true = rw off refl
  found_later p q e es off false = refl

  -- among the entries that pass a test the same is found, where it passes
  pub found_filtered : (p : Key × X → Bool) (q : Key) (es : List (Key × X)) → IsStrictlySortedBy key_cmp (keys_of es) → lookup (is_key q) (filter p es) ≡ passed p q (lookup (is_key q) es)
  found_filtered p q [] o = refl
  found_filtered p q (e ∷ es) o = by_key (is_key q e.0) refl (found_filtered p q es (sorted_tail key_cmp e.0 (keys_of es) o))
    where
      by_key : (b : Bool) → is_key q e.0 ≡ b → lookup (is_key q) (filter p es) ≡ passed p q (lookup (is_key q) es)
          → lookup (is_key q) (filter p (e ∷ es)) ≡ passed p q (cond b (Some e.1) (lookup (is_key q) es))
      by_key true is more =
          let same : q ≡ e.0 = key_is q e.0 is in
          let none : lookup (is_key q) (filter p es) ≡ None = more ∙ ap (passed p q) (ap (λ (k : Key). lookup (is_key k) es) same ∙ first_alone e es o) in
          let none_there : lookup (is_key e.0) (filter p es) ≡ None = ap (λ (k : Key). lookup (is_key k) (filter p es)) (sym same) ∙ none in
          ap (λ (k : Key). lookup (is_key k) (filter p (e ∷ es))) same
          ∙ (found_first p e es none_there (p e) refl ∙ ap (λ (k : Key). cond (p (k, e.1)) (Some e.1) None) (sym same))
      by_key false is more = found_later p q e es is (p e) ∙ more

  all_filtered : (P : Key → Type 0) (p : Key × X → Bool) (es : List (Key × X)) → AllByRecursion P (keys_of es) → AllByRecursion P (keys_of (filter p es))
  all_filtered P p [] all = tt
  all_filtered P p (e ∷ es) all = by_pass (p e) (all_filtered P p es all.1)
    where
      by_pass : (c : Bool) → AllByRecursion P (keys_of (filter p es)) → AllByRecursion P (keys_of (cond c (e ∷ filter p es) (filter p es)))
      by_pass true more = (all.0, more)
      by_pass false more = more

  -- the entries that pass a test are in order
  pub ordered_filtered : (p : Key × X → Bool) (es : List (Key × X)) → IsStrictlySortedBy key_cmp (keys_of es) → IsStrictlySortedBy key_cmp (keys_of (filter p es))
  ordered_filtered p [] o = o
  ordered_filtered p (e ∷ es) o = by_pass (p e) (ordered_filtered p es (sorted_tail key_cmp e.0 (keys_of es) o))
    where
      by_pass : (c : Bool) → IsStrictlySortedBy key_cmp (keys_of (filter p es)) → IsStrictlySortedBy key_cmp (keys_of (cond c (e ∷ filter p es) (filter p es)))
      by_pass true more = ordered_then e.0 (keys_of (filter p es)) (all_filtered (λ y. key_cmp e.0 y ≡ Less) p es (sorted_head key_cmp e.0 (keys_of es) o)) more
      by_pass false more = more

-- entries whose values are seen as something else
module _ {K X Y : Type 0} (f : X → Y) where
  abbrev pub seen : List (K × X) → List (K × Y)
  seen es = map (λ e. (e.0, f e.1)) es

  pub put-seen : (cmp : K → K → Ordering) (k : K) (v : X) (es : List (K × X)) → seen (insert_entry cmp es k v) ≡ insert_entry cmp (seen es) k (f v)
  put-seen cmp k v [] = refl
  put-seen cmp k v (e ∷ es) = by_order (cmp k e.0) (put-seen cmp k v es)
    where
      by_order : (o : Ordering) → seen (insert_entry cmp es k v) ≡ insert_entry cmp (seen es) k (f v)
          → seen (match_ordering o ((k, v) ∷ e ∷ es) ((e.0, v) ∷ es) (e ∷ insert_entry cmp es k v)) ≡ match_ordering o ((k, f v) ∷ (e.0, f e.1) ∷ seen es) ((e.0, f v) ∷ seen es) ((e.0, f e.1) ∷ insert_entry cmp (seen es) k (f v))
      by_order Less more = refl
      by_order Equal more = refl
      by_order Greater more = ap (λ (ys : List (K × Y)). (e.0, f e.1) ∷ ys) more

  pub removed-seen : (test : K → Bool) (es : List (K × X)) → seen (remove_entry test es) ≡ remove_entry test (seen es)
  removed-seen test [] = refl
  removed-seen test (e ∷ es) = by_test (test e.0) (removed-seen test es)
    where
      by_test : (b : Bool) → seen (remove_entry test es) ≡ remove_entry test (seen es) → seen (cond b es (e ∷ remove_entry test es)) ≡ cond b (seen es) ((e.0, f e.1) ∷ remove_entry test (seen es))
      by_test true more = refl
      by_test false more = ap (λ (ys : List (K × Y)). (e.0, f e.1) ∷ ys) more

  pub filtered-seen : (test : K → Bool) (es : List (K × X)) → seen (filter (λ e. test e.0) es) ≡ filter (λ e. test e.0) (seen es)
  filtered-seen test [] = refl
  filtered-seen test (e ∷ es) = by_test (test e.0) (filtered-seen test es)
    where
      by_test : (b : Bool) → seen (filter (λ e. test e.0) es) ≡ filter (λ e. test e.0) (seen es)
          → seen (cond b (e ∷ filter (λ e. test e.0) es) (filter (λ e. test e.0) es)) ≡ cond b ((e.0, f e.1) ∷ filter (λ e. test e.0) (seen es)) (filter (λ e. test e.0) (seen es))
      by_test true more = ap (λ (ys : List (K × Y)). (e.0, f e.1) ∷ ys) more
      by_test false more = more

-- what stands behind a reference that a look-up gives
pub seen_through : {X Y : Type 0} (f : X → Y) (r : Option (Bor X)) (o : Option X) → option_copied r ≡ o → option_map (λ (b : Bor X). f b.now) r ≡ option_map f o
seen_through f None o e = ap (option_map f) e
seen_through f (Some b) o e = ap (option_map f) e
