-- What is found in the table of instances, and what holds of all its entries, where it changes.
use Rattle.std.proofs.Common.{◌≡◌, inl, inr, ℕ, Bool, true, false, cond, List, [], ◌∷◌, Option, Some, None, refl, ap, ◌∙◌, sym, subst}
use Rattle.std.specs.Prelude.{option_map}
use Rattle.std.specs.List.{AllByRecursion, filter}
use Rattle.std.specs.Map.{keys_of as map_keys}
use Rattle.std.specs.Ordering.{is_eq, match_ordering}
use Rattle.std.specs.declared.cmp.Ordering.{Ordering}
use Rattle.std.specs.declared.cmp.Ordering.TheVariants.{Less, Equal, Greater}
use Rattle.ng_base.specs.Order.{path_cmp}
use Rattle.ng_instances.specs.Instances.{OutletState, Linked, Instances, is_path, linked_at, with_outlets, outlets_changed, with_instance}
use Rattle.ng_link.specs.Standing.{Apart, AreApart}
use Rattle.ng_instances.proofs.PathIs.{path_is}
use Rattle.ng_link.proofs.PathsBelow.{same_path, other_path}

-- the outlets of an instance change
module _ (p : List ℕ) (f : List OutletState → List OutletState) where
  pub changed_keys : (is : Instances) → map_keys (outlets_changed p f is) ≡ map_keys is
  changed_keys [] = refl
  changed_keys (e ∷ es) = by_test (is_path p e.0) (changed_keys es)
    where
      by_test : (b : Bool) → map_keys (outlets_changed p f es) ≡ map_keys es → map_keys (cond b ((e.0, with_outlets f e.1) ∷ es) (e ∷ outlets_changed p f es)) ≡ map_keys (e ∷ es)
      by_test true more = refl
      by_test false more = ap (λ (ks : List (List ℕ)). e.0 ∷ ks) more

  -- at another path the same is found
  pub changed_other : (is : Instances) (q : List ℕ) → is_path q p ≡ false → linked_at q (outlets_changed p f is) ≡ linked_at q is
  changed_other [] q off = refl
  changed_other (e ∷ es) q off = by_test (is_path p e.0) refl (changed_other es q off)
    where
      apart : is_path p e.0 ≡ true → is_path q e.0 ≡ false
      apart is = ap (is_path q) (sym (path_is p e.0 is)) ∙ off

      by_test : (b : Bool) → is_path p e.0 ≡ b → linked_at q (outlets_changed p f es) ≡ linked_at q es → linked_at q (cond b ((e.0, with_outlets f e.1) ∷ es) (e ∷ outlets_changed p f es)) ≡ linked_at q (e ∷ es)
      by_test true is more = ap (λ (b : Bool). cond b (Some (with_outlets f e.1)) (linked_at q es)) (apart is) ∙ sym (ap (λ (b : Bool). cond b (Some e.1) (linked_at q es)) (apart is))
      by_test false is more = ap (λ (o : Option Linked). cond (is_path q e.0) (Some e.1) o) more

  -- at that path the instance is found with other outlets
  pub changed_here : (is : Instances) → linked_at p (outlets_changed p f is) ≡ option_map (with_outlets f) (linked_at p is)
  changed_here [] = refl
  changed_here (e ∷ es) = by_test (is_path p e.0) refl (changed_here es)
    where
      by_test : (b : Bool) → is_path p e.0 ≡ b → linked_at p (outlets_changed p f es) ≡ option_map (with_outlets f) (linked_at p es)
          → linked_at p (cond b ((e.0, with_outlets f e.1) ∷ es) (e ∷ outlets_changed p f es)) ≡ option_map (with_outlets f) (linked_at p (e ∷ es))
      by_test true is more = ap (λ (b : Bool). cond b (Some (with_outlets f e.1)) (linked_at p es)) is ∙ sym (ap (λ (b : Bool). option_map (with_outlets f) (cond b (Some e.1) (linked_at p es))) is)
      by_test false is more =
          ap (λ (b : Bool). cond b (Some e.1) (linked_at p (outlets_changed p f es))) is
          ∙ (more ∙ sym (ap (λ (b : Bool). option_map (with_outlets f) (cond b (Some e.1) (linked_at p es))) is))

  -- what holds of all holds of all, where it holds of the one that changes
  pub changed_all : (P : List ℕ × Linked → Type 0) (is : Instances) → ((l : Linked) → linked_at p is ≡ Some l → P (p, l) → P (p, with_outlets f l)) → AllByRecursion P is → AllByRecursion P (outlets_changed p f is)
  changed_all P [] one all = tt
  changed_all P (e ∷ es) one all = by_test (is_path p e.0) refl (changed_all P es)
    where
      by_test : (b : Bool) → is_path p e.0 ≡ b → (((l : Linked) → linked_at p es ≡ Some l → P (p, l) → P (p, with_outlets f l)) → AllByRecursion P es → AllByRecursion P (outlets_changed p f es))
          → AllByRecursion P (cond b ((e.0, with_outlets f e.1) ∷ es) (e ∷ outlets_changed p f es))
      by_test true is more =
          let same : p ≡ e.0 = path_is p e.0 is in
          let found : linked_at p (e ∷ es) ≡ Some e.1 = ap (λ (b : Bool). cond b (Some e.1) (linked_at p es)) is in
          (subst (λ (q : List ℕ). P (q, with_outlets f e.1)) same (one e.1 found (subst (λ (q : List ℕ). P (q, e.1)) (sym same) all.0)), all.1)
      by_test false is more = (all.0, more (λ l at. one l (ap (λ (b : Bool). cond b (Some e.1) (linked_at p es)) is ∙ at)) all.1)

  apart_all : (l : Linked) (is : Instances) → AllByRecursion (λ (x : List ℕ × Linked). Apart l x.1) is → AllByRecursion (λ (x : List ℕ × Linked). Apart l x.1) (outlets_changed p f is)
  apart_all l is all = changed_all (λ (x : List ℕ × Linked). Apart l x.1) is (λ m at apart. apart) all

  pub changed_apart : (is : Instances) → AreApart is → AreApart (outlets_changed p f is)
  changed_apart [] all = tt
  changed_apart (e ∷ es) all = by_test (is_path p e.0) (changed_apart es all.1)
    where
      by_test : (b : Bool) → AreApart (outlets_changed p f es) → AreApart (cond b ((e.0, with_outlets f e.1) ∷ es) (e ∷ outlets_changed p f es))
      by_test true more = all
      by_test false more = (apart_all e.1 es all.0, more)

-- an instance comes
module _ (p : List ℕ) (l : Linked) where
  pub inserted_here : (is : Instances) → linked_at p (with_instance p l is) ≡ Some l
  inserted_here [] = ap (λ (b : Bool). cond b (Some l) None) (same_path p)
  inserted_here (e ∷ es) = by_order (path_cmp p e.0) refl (inserted_here es)
    where
      goes : Ordering → Instances
      goes o = match_ordering o ((p, l) ∷ e ∷ es) ((e.0, l) ∷ es) (e ∷ with_instance p l es)

      by_order : (o : Ordering) → path_cmp p e.0 ≡ o → linked_at p (with_instance p l es) ≡ Some l → linked_at p (goes o) ≡ Some l
      by_order Less is more = ap (λ (b : Bool). cond b (Some l) (linked_at p (e ∷ es))) (same_path p)
      by_order Equal is more = ap (λ (b : Bool). cond b (Some l) (linked_at p es)) (ap is_eq is)
      by_order Greater is more = ap (λ (b : Bool). cond b (Some e.1) (linked_at p (with_instance p l es))) (ap is_eq is) ∙ more

  pub inserted_other : (is : Instances) (q : List ℕ) → is_path q p ≡ false → linked_at q (with_instance p l is) ≡ linked_at q is
  inserted_other [] q off = ap (λ (b : Bool). cond b (Some l) None) off
  inserted_other (e ∷ es) q off = by_order (path_cmp p e.0) refl (inserted_other es q off)
    where
      goes : Ordering → Instances
      goes o = match_ordering o ((p, l) ∷ e ∷ es) ((e.0, l) ∷ es) (e ∷ with_instance p l es)

      apart : is_path p e.0 ≡ true → is_path q e.0 ≡ false
      apart is = ap (is_path q) (sym (path_is p e.0 is)) ∙ off

      by_order : (o : Ordering) → path_cmp p e.0 ≡ o → linked_at q (with_instance p l es) ≡ linked_at q es → linked_at q (goes o) ≡ linked_at q (e ∷ es)
      by_order Less is more = ap (λ (b : Bool). cond b (Some l) (linked_at q (e ∷ es))) off
      by_order Equal is more = ap (λ (b : Bool). cond b (Some l) (linked_at q es)) (apart (ap is_eq is)) ∙ sym (ap (λ (b : Bool). cond b (Some e.1) (linked_at q es)) (apart (ap is_eq is)))
      by_order Greater is more = ap (λ (o : Option Linked). cond (is_path q e.0) (Some e.1) o) more

  -- what holds of all and of the one that comes holds of all
  pub inserted_all : (P : List ℕ × Linked → Type 0) (is : Instances) → P (p, l) → AllByRecursion P is → AllByRecursion P (with_instance p l is)
  inserted_all P [] one all = (one, tt)
  inserted_all P (e ∷ es) one all = by_order (path_cmp p e.0) refl (inserted_all P es one all.1)
    where
      by_order : (o : Ordering) → path_cmp p e.0 ≡ o → AllByRecursion P (with_instance p l es) → AllByRecursion P (match_ordering o ((p, l) ∷ e ∷ es) ((e.0, l) ∷ es) (e ∷ with_instance p l es))
      by_order Less is more = (one, all)
      by_order Equal is more = (subst (λ (q : List ℕ). P (q, l)) (path_is p e.0 (ap is_eq is)) one, all.1)
      by_order Greater is more = (all.0, more)

  swapped : (m : Linked) → Apart l m → Apart m l
  swapped m (inl h) = inr h
  swapped m (inr h) = inl h

  pub inserted_apart : (is : Instances) → AllByRecursion (λ (x : List ℕ × Linked). Apart l x.1) is → AreApart is → AreApart (with_instance p l is)
  inserted_apart [] one all = (tt, tt)
  inserted_apart (e ∷ es) one all = by_order (path_cmp p e.0) (inserted_apart es one.1 all.1)
    where
      by_order : (o : Ordering) → AreApart (with_instance p l es) → AreApart (match_ordering o ((p, l) ∷ e ∷ es) ((e.0, l) ∷ es) (e ∷ with_instance p l es))
      by_order Less more = ((one.0, one.1), (all.0, all.1))
      by_order Equal more = (one.1, all.1)
      by_order Greater more = (inserted_all (λ (x : List ℕ × Linked). Apart e.1 x.1) es (swapped e.1 one.0) all.0, more)

-- the instances that pass a test stay
module _ (test : List ℕ → Bool) where
  abbrev kept : Instances → Instances
  kept is = filter (λ (e : List ℕ × Linked). test e.0) is

  pub kept_all : (P : List ℕ × Linked → Type 0) (is : Instances) → AllByRecursion P is → AllByRecursion P (kept is)
  kept_all P [] all = tt
  kept_all P (e ∷ es) all = by_test (test e.0) (kept_all P es all.1)
    where
      by_test : (b : Bool) → AllByRecursion P (kept es) → AllByRecursion P (cond b (e ∷ kept es) (kept es))
      by_test true more = (all.0, more)
      by_test false more = more

  pub kept_apart : (is : Instances) → AreApart is → AreApart (kept is)
  kept_apart [] all = tt
  kept_apart (e ∷ es) all = by_test (test e.0) (kept_apart es all.1)
    where
      by_test : (b : Bool) → AreApart (kept es) → AreApart (cond b (e ∷ kept es) (kept es))
      by_test true more = (kept_all (λ (x : List ℕ × Linked). Apart e.1 x.1) es all.0, more)
      by_test false more = more

  -- those that stay pass it
  pub kept_pass : (is : Instances) → AllByRecursion (λ (e : List ℕ × Linked). test e.0 ≡ true) (kept is)
  kept_pass [] = tt
  kept_pass (e ∷ es) = by_test (test e.0) refl (kept_pass es)
    where
      by_test : (b : Bool) → test e.0 ≡ b → AllByRecursion (λ (x : List ℕ × Linked). test x.0 ≡ true) (kept es) → AllByRecursion (λ (x : List ℕ × Linked). test x.0 ≡ true) (cond b (e ∷ kept es) (kept es))
      by_test true is more = (is, more)
      by_test false is more = more

  pub kept_found : (is : Instances) (q : List ℕ) → test q ≡ true → linked_at q (kept is) ≡ linked_at q is
  kept_found [] q stays = refl
  kept_found (e ∷ es) q stays = by_test (test e.0) refl (kept_found es q stays)
    where
      apart : test e.0 ≡ false → is_path q e.0 ≡ false
      apart goes = other_path q e.0 (λ same. let two : true ≡ false = sym stays ∙ (ap test same ∙ goes) in cc)

      by_test : (b : Bool) → test e.0 ≡ b → linked_at q (kept es) ≡ linked_at q es → linked_at q (cond b (e ∷ kept es) (kept es)) ≡ linked_at q (e ∷ es)
      by_test true is more = ap (λ (o : Option Linked). cond (is_path q e.0) (Some e.1) o) more
      by_test false is more = more ∙ sym (ap (λ (b : Bool). cond b (Some e.1) (linked_at q es)) (apart is))

  pub kept_gone : (is : Instances) (q : List ℕ) → test q ≡ false → linked_at q (kept is) ≡ None
  kept_gone [] q goes = refl
  kept_gone (e ∷ es) q goes = by_test (test e.0) refl (kept_gone es q goes)
    where
      apart : test e.0 ≡ true → is_path q e.0 ≡ false
      apart stays = other_path q e.0 (λ same. let two : true ≡ false = sym stays ∙ (ap test (sym same) ∙ goes) in cc)

      by_test : (b : Bool) → test e.0 ≡ b → linked_at q (kept es) ≡ None → linked_at q (cond b (e ∷ kept es) (kept es)) ≡ None
      by_test true is more = ap (λ (b : Bool). cond b (Some e.1) (linked_at q (kept es))) (apart is) ∙ more
      by_test false is more = more
