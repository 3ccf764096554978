-- What is read off the table of instances.
use Rattle.std.proofs.Common.{◌≡◌, ◌<◌, ℕ, zero, suc, Bool, true, false, cond, List, [], ◌∷◌, Some, None, refl, ap, ◌∙◌, sym, subst, map, arith}
use Rattle.std.specs.Prelude.{not}
use Rattle.std.specs.List.{AllByRecursion}
use Rattle.std.specs.List.Sorted.{IsStrictlySortedBy}
use Rattle.std.specs.Map.{keys_of as map_keys}
use Rattle.std.specs.Ordering.{is_eq, match_ordering}
use Rattle.std.specs.declared.cmp.Ordering.{Ordering}
use Rattle.std.specs.declared.cmp.Ordering.TheVariants.{Less, Equal, Greater}
use Rattle.std.proofs.lemmas.Map.Keys.{sorted_head, sorted_tail}
use Rattle.ng_base.specs.Order.{path_cmp}
use Rattle.ng_behaviour.specs.Keys.{begins}
use Rattle.ng_instances.specs.Instances.{Body, OutletState, Linked, Instances, is_path, linked_at, read_bodies, read, without_below, with_instance}
use Rattle.ng_link.specs.Standing.{IsBelow, IsIn, AreIn, body_count, held_count}
use Rattle.ng_instances.proofs.PathIs.{path_is}
use Rattle.ng_link.proofs.PathsBelow.{same_path, other_path, below_other, not_after}

-- a body is among those that it is counted with
count_here : (b : Body) (bs : List Body) → 0 < body_count b.path (b ∷ bs)
count_here b bs = let one : cond {A = ℕ} (is_path b.path b.path) 1 0 ≡ 1 = ap (λ (t : Bool). cond {A = ℕ} t 1 0) (same_path b.path) in omega (arith, one)

module _ {A : Type 0} (f g : List ℕ → A) where
  same_list : (bs : List Body) → ((q : List ℕ) → 0 < body_count q bs → f q ≡ g q) → map (λ (b : Body). f b.path) bs ≡ map (λ (b : Body). g b.path) bs
  same_list [] h = refl
  same_list (b ∷ bs) h =
      ap (λ (x : A). x ∷ map (λ (c : Body). f c.path) bs) (h b.path (count_here b bs))
      ∙ ap (λ (xs : List A). g b.path ∷ xs) (same_list bs (λ q lt. h q (omega (arith, lt))))

  -- what is read alike of each body that is held is read alike
  pub same_held : (os : List OutletState) → ((q : List ℕ) → 0 < held_count q os → f q ≡ g q) → read_bodies f os ≡ read_bodies g os
  same_held [] h = refl
  same_held (o ∷ os) h =
      ap (λ (xs : List A). xs ∷ read_bodies f os) (same_list o.bodies (λ q lt. h q (omega (arith, lt))))
      ∙ ap (λ (xss : List (List A)). map (λ (b : Body). g b.path) o.bodies ∷ xss) (same_held os (λ q lt. h q (omega (arith, lt))))

-- a body that is held is in its holder
module _ (p q : List ℕ) where
  in_list : (bs : List Body) → AllByRecursion (IsIn p) bs → 0 < body_count q bs → IsBelow p q
  in_list [] all lt = absurd (omega (arith, lt))
  in_list (b ∷ bs) all lt = by_test (is_path q b.path) refl (in_list bs all.1)
    where
      by_test : (t : Bool) → is_path q b.path ≡ t → (0 < body_count q bs → IsBelow p q) → IsBelow p q
      by_test true is more = subst (IsBelow p) (sym (path_is q b.path is)) all.0
      by_test false is more = more (let off : cond {A = ℕ} (is_path q b.path) 1 0 ≡ 0 = ap (λ (t : Bool). cond {A = ℕ} t 1 0) is in omega (arith, off, lt))

  pub in_held : (os : List OutletState) → AreIn p os → 0 < held_count q os → IsBelow p q
  in_held [] all lt = absurd (omega (arith, lt))
  in_held (o ∷ os) all lt = by_count (body_count q o.bodies) refl (in_held os all.1)
    where
      by_count : (c : ℕ) → body_count q o.bodies ≡ c → (0 < held_count q os → IsBelow p q) → IsBelow p q
      by_count zero e more = more (omega (arith, e, lt))
      by_count (suc c) e more = in_list o.bodies all.0 (omega (arith, e))

-- what holds of all entries holds of the one on a path
pub at_path : (P : List ℕ × Linked → Type 0) (p : List ℕ) (l : Linked) (is : Instances) → AllByRecursion P is → linked_at p is ≡ Some l → P (p, l)
at_path P p l [] all e = absurd (cc)
at_path P p l (x ∷ xs) all e = by_test (is_path p x.0) refl e (at_path P p l xs all.1)
  where
    by_test : (t : Bool) → is_path p x.0 ≡ t → cond t (Some x.1) (linked_at p xs) ≡ Some l → (linked_at p xs ≡ Some l → P (p, l)) → P (p, l)
    by_test true is same more =
        let one : x.1 ≡ l = cc in
        subst (λ (m : Linked). P (p, m)) one (subst (λ (q : List ℕ). P (q, x.1)) (sym (path_is p x.0 is)) all.0)
    by_test false is same more = more same

-- a key of all that are after the first
pub after_first : (p q : List ℕ) (l : Linked) (is : Instances) → AllByRecursion (λ (y : List ℕ). path_cmp q y ≡ Less) (map_keys is) → linked_at p is ≡ Some l → path_cmp q p ≡ Less
after_first p q l [] all e = absurd (cc)
after_first p q l (x ∷ xs) all e = by_test (is_path p x.0) refl e (after_first p q l xs all.1)
  where
    by_test : (t : Bool) → is_path p x.0 ≡ t → cond t (Some x.1) (linked_at p xs) ≡ Some l → (linked_at p xs ≡ Some l → path_cmp q p ≡ Less) → path_cmp q p ≡ Less
    by_test true is same more = ap (path_cmp q) (path_is p x.0 is) ∙ all.0
    by_test false is same more = more same

-- each instance holds bodies that are in it
abbrev pub AllIn : Instances → Type 0
AllIn is = AllByRecursion (λ (e : List ℕ × Linked). AreIn e.0 e.1.page.outlets) is

module _ {A : Type 0} (none : A) (join : Linked → List (List A) → A) where
  pub read_here : (p : List ℕ) (e : List ℕ × Linked) (es : Instances) → is_path p e.0 ≡ true → read none join (e ∷ es) p ≡ join e.1 (read_bodies (read none join es) e.1.page.outlets)
  read_here p e es is = ap (λ (b : Bool). cond b (join e.1 (read_bodies (read none join es) e.1.page.outlets)) (read none join es p)) is

  pub read_past : (p : List ℕ) (e : List ℕ × Linked) (es : Instances) → is_path p e.0 ≡ false → read none join (e ∷ es) p ≡ read none join es p
  read_past p e es is = ap (λ (b : Bool). cond b (join e.1 (read_bodies (read none join es) e.1.page.outlets)) (read none join es p)) is

  -- where nothing is linked, nothing is read
  pub read_none : (is : Instances) (p : List ℕ) → linked_at p is ≡ None → read none join is p ≡ none
  read_none [] p e = refl
  read_none (x ∷ xs) p e = by_test (is_path p x.0) refl e (read_none xs p)
    where
      by_test : (t : Bool) → is_path p x.0 ≡ t → cond t (Some x.1) (linked_at p xs) ≡ None → (linked_at p xs ≡ None → read none join xs p ≡ none) → read none join (x ∷ xs) p ≡ none
      by_test true is same more = absurd (cc)
      by_test false is same more = read_past p x xs is ∙ more same

  -- bodies in an instance are read after what stands before it
  pub bodies_past : (p : List ℕ) (e : List ℕ × Linked) (es : Instances) (os : List OutletState) → AreIn p os → (IsBelow p e.0 → ⊥) → read_bodies (read none join (e ∷ es)) os ≡ read_bodies (read none join es) os
  bodies_past p e es os all ne =
      same_held (read none join (e ∷ es)) (read none join es) os
      (λ q lt. read_past q e es (other_path q e.0 (λ same. ne (subst (IsBelow p) same (in_held p q os all lt)))))

  -- an instance is read from its own, and from the bodies that it holds
  pub read_found : (is : Instances) (p : List ℕ) (l : Linked) → IsStrictlySortedBy path_cmp (map_keys is) → AllIn is → linked_at p is ≡ Some l → read none join is p ≡ join l (read_bodies (read none join is) l.page.outlets)
  read_found [] p l ordered all e = absurd (cc)
  read_found (x ∷ xs) p l ordered all e = by_test (is_path p x.0) refl e (read_found xs p l (sorted_tail path_cmp x.0 (map_keys xs) ordered) all.1)
    where
      by_test : (t : Bool) → is_path p x.0 ≡ t → cond t (Some x.1) (linked_at p xs) ≡ Some l
          → (linked_at p xs ≡ Some l → read none join xs p ≡ join l (read_bodies (read none join xs) l.page.outlets))
          → read none join (x ∷ xs) p ≡ join l (read_bodies (read none join (x ∷ xs)) l.page.outlets)
      by_test true is same rest =
          let one : x.1 ≡ l = cc in
          read_here p x xs is
          ∙ (ap (λ (m : List (List A)). join x.1 m) (sym (bodies_past x.0 x xs x.1.page.outlets all.0 (λ below. below_other x.0 x.0 below refl)))
          ∙ ap (λ (m : Linked). join m (read_bodies (read none join (x ∷ xs)) m.page.outlets)) one)
      by_test false is more rest =
          let less = after_first p x.0 l xs (sorted_head path_cmp x.0 (map_keys xs) ordered) more in
          let ins = at_path (λ (e : List ℕ × Linked). AreIn e.0 e.1.page.outlets) p l xs all.1 more in
          read_past p x xs is
          ∙ (rest more
          ∙ ap (λ (m : List (List A)). join l m) (sym (bodies_past p x xs l.page.outlets ins (λ below. not_after p x.0 less below))))

  -- what is read where an instance comes that nothing holds
  pub read_inserted : (p : List ℕ) (l : Linked) (is : Instances) → linked_at p is ≡ None → AllByRecursion (λ (e : List ℕ × Linked). held_count p e.1.page.outlets ≡ 0) is
      → (q : List ℕ) → is_path q p ≡ false → read none join (with_instance p l is) q ≡ read none join is q
  read_inserted p l [] none_there all q off = read_past q (p, l) [] off
  read_inserted p l (x ∷ xs) none_there all q off = by_order (path_cmp p x.0) refl (λ rest. read_inserted p l xs rest all.1)
    where
      Rest : Type 0
      Rest = linked_at p xs ≡ None → (r : List ℕ) → is_path r p ≡ false → read none join (with_instance p l xs) r ≡ read none join xs r

      goes : Ordering → Instances
      goes o = match_ordering o ((p, l) ∷ x ∷ xs) ((x.0, l) ∷ xs) (x ∷ with_instance p l xs)

      later : is_path p x.0 ≡ false → linked_at p xs ≡ None
      later off_here = sym (ap (λ (b : Bool). cond b (Some x.1) (linked_at p xs)) off_here) ∙ none_there

      by_here : (t : Bool) → is_path q x.0 ≡ t → ((r : List ℕ) → is_path r p ≡ false → read none join (with_instance p l xs) r ≡ read none join xs r) → read none join (x ∷ with_instance p l xs) q ≡ read none join (x ∷ xs) q
      by_here true is rest =
          read_here q x (with_instance p l xs) is
          ∙ (ap (λ (m : List (List A)). join x.1 m)
          (same_held (read none join (with_instance p l xs)) (read none join xs) x.1.page.outlets
          (λ r lt. rest r (other_path r p (λ same. let at : held_count r x.1.page.outlets ≡ held_count p x.1.page.outlets = ap (λ (s : List ℕ). held_count s x.1.page.outlets) same in omega (arith, at, lt, all.0)))))
          ∙ sym (read_here q x xs is))
      by_here false is rest = read_past q x (with_instance p l xs) is ∙ (rest q off ∙ sym (read_past q x xs is))

      by_order : (o : Ordering) → path_cmp p x.0 ≡ o → Rest → read none join (with_instance p l (x ∷ xs)) q ≡ read none join (x ∷ xs) q
      by_order Less e rest = ap (λ (es : Instances). read none join es q) (ap goes e) ∙ read_past q (p, l) (x ∷ xs) off
      by_order Equal e rest = absurd (let here : Some x.1 ≡ None = sym (ap (λ (b : Bool). cond b (Some x.1) (linked_at p xs)) (ap is_eq e)) ∙ none_there in cc)
      by_order Greater e rest = ap (λ (es : Instances). read none join es q) (ap goes e) ∙ by_here (is_path q x.0) refl (rest (later (ap is_eq e)))

  -- what is read where all below a path goes, and nothing that stays holds a body there
  pub read_without : (p : List ℕ) (is : Instances) → AllByRecursion (λ (e : List ℕ × Linked). begins p e.0 ≡ false → (q : List ℕ) → 0 < held_count q e.1.page.outlets → begins p q ≡ false) is
      → (q : List ℕ) → begins p q ≡ false → read none join (without_below p is) q ≡ read none join is q
  read_without p [] all q off = refl
  read_without p (x ∷ xs) all q off = by_test (begins p x.0) refl (read_without p xs all.1)
    where
      Rest : Type 0
      Rest = (r : List ℕ) → begins p r ≡ false → read none join (without_below p xs) r ≡ read none join xs r

      stays : Bool → Instances
      stays b = cond (not b) (x ∷ without_below p xs) (without_below p xs)

      apart : begins p x.0 ≡ true → is_path q x.0 ≡ false
      apart t = other_path q x.0 (λ same. let two : true ≡ false = sym t ∙ (ap (begins p) (sym same) ∙ off) in cc)

      by_here : (t : Bool) → is_path q x.0 ≡ t → begins p x.0 ≡ false → Rest → read none join (x ∷ without_below p xs) q ≡ read none join (x ∷ xs) q
      by_here true is kept rest =
          read_here q x (without_below p xs) is
          ∙ (ap (λ (m : List (List A)). join x.1 m) (same_held (read none join (without_below p xs)) (read none join xs) x.1.page.outlets (λ r lt. rest r (all.0 kept r lt)))
          ∙ sym (read_here q x xs is))
      by_here false is kept rest = read_past q x (without_below p xs) is ∙ (rest q off ∙ sym (read_past q x xs is))

      by_test : (b : Bool) → begins p x.0 ≡ b → Rest → read none join (without_below p (x ∷ xs)) q ≡ read none join (x ∷ xs) q
      by_test true e rest = ap (λ (es : Instances). read none join es q) (ap stays e) ∙ (rest q off ∙ sym (read_past q x xs (apart e)))
      by_test false e rest = ap (λ (es : Instances). read none join es q) (ap stays e) ∙ by_here (is_path q x.0) refl e rest

-- what holds of nothing, and of an instance where it holds of the bodies in it, holds of all that is read
module _ {A : Type 0} (none : A) (join : Linked → List (List A) → A) (P : A → Type 0) where
  all_list : (go : List ℕ → A) → ((q : List ℕ) → P (go q)) → (bs : List Body) → AllByRecursion P (map (λ (b : Body). go b.path) bs)
  all_list go h [] = tt
  all_list go h (b ∷ bs) = (h b.path, all_list go h bs)

  all_bodies : (go : List ℕ → A) → ((q : List ℕ) → P (go q)) → (os : List OutletState) → AllByRecursion (AllByRecursion P) (read_bodies go os)
  all_bodies go h [] = tt
  all_bodies go h (o ∷ os) = (all_list go h o.bodies, all_bodies go h os)

  pub read_all : P none → (is : Instances) → AllByRecursion (λ (e : List ℕ × Linked). (xss : List (List A)) → AllByRecursion (AllByRecursion P) xss → P (join e.1 xss)) is → (p : List ℕ) → P (read none join is p)
  read_all first [] all p = first
  read_all first (x ∷ xs) all p = by_test (is_path p x.0) (read_all first xs all.1)
    where
      by_test : (t : Bool) → ((q : List ℕ) → P (read none join xs q)) → P (cond t (join x.1 (read_bodies (read none join xs) x.1.page.outlets)) (read none join xs p))
      by_test true rest = all.0 (read_bodies (read none join xs) x.1.page.outlets) (all_bodies (read none join xs) rest x.1.page.outlets)
      by_test false rest = rest p
