-- What is read of an instance's bodies comes after it in the table, and fewer entries do each time.
use Rattle.std.proofs.Common.{◌≡◌, ◌<◌, ◌≤◌, ◌+◌, ℕ, Bool, true, false, cond, List, [], ◌∷◌, Option, Some, None, refl, ap, ◌∙◌, sym, arith}
use Rattle.std.specs.List.{AllByRecursion}
use Rattle.std.specs.List.Sorted.{IsStrictlySortedBy}
use Rattle.std.specs.Map.{lookup, keys_of as map_keys}
use Rattle.std.specs.Ordering.{is_eq, is_lt, ordering_reverse}
use Rattle.std.specs.declared.cmp.Ordering.{Ordering}
use Rattle.std.specs.declared.cmp.Ordering.TheVariants.{Less, Equal, Greater}
use Rattle.std.proofs.lemmas.Map.Keys.{sorted_head, sorted_tail}
use Rattle.ng_base.specs.Order.{path_cmp, path_cmp_total}
use Rattle.ng_instances.specs.Instances.{Linked, Instances, is_path, linked_at, read_bodies, read, read_after}
use Rattle.ng_instances.proofs.PathIs.{path_is}
use Rattle.ng_link.proofs.PathsBelow.{is_that, other_path}
use Rattle.ng_link.proofs.ReadOff.{same_held, after_first, read_here, read_past, read_none}

-- an entry on a path or after it, and one after it
abbrev on_or_after : Ordering → ℕ
on_or_after Less = 1
on_or_after Equal = 1
on_or_after Greater = 0

abbrev after : Ordering → ℕ
after Less = 1
after Equal = 0
after Greater = 0

-- how many entries are on a path or after it, and how many are after it
abbrev pub count_from : {X : Type 0} → List ℕ → List (List ℕ × X) → ℕ
count_from p [] = 0
count_from p (e ∷ es) = on_or_after (path_cmp p e.0) + count_from p es

abbrev pub count_after : {X : Type 0} → List ℕ → List (List ℕ × X) → ℕ
count_after p [] = 0
count_after p (e ∷ es) = after (path_cmp p e.0) + count_after p es

one_most : (o : Ordering) → after o ≤ on_or_after o
one_most Less = omega arith
one_most Equal = omega arith
one_most Greater = omega arith

one_less : (o : Ordering) → is_eq o ≡ true → after o < on_or_after o
one_less Less e = absurd (cc)
one_less Equal e = omega arith
one_less Greater e = absurd (cc)

after_most : {X : Type 0} (p : List ℕ) (es : List (List ℕ × X)) → count_after p es ≤ count_from p es
after_most p [] = omega arith
after_most p (e ∷ es) = let one = one_most (path_cmp p e.0) in let more = after_most p es in omega (arith, one, more)

-- where there is one on a path, fewer are after it
pub after_fewer : {X : Type 0} (p : List ℕ) (es : List (List ℕ × X)) (x : X) → lookup (is_path p) es ≡ Some x → count_after p es < count_from p es
after_fewer p [] x at = absurd (cc)
after_fewer {X} p (e ∷ es) x at = by_test (is_path p e.0) refl at (after_fewer p es x)
  where
    by_test : (b : Bool) → is_path p e.0 ≡ b → cond b (Some e.1) (lookup (is_path p) es) ≡ Some x → (lookup (is_path p) es ≡ Some x → count_after p es < count_from p es) → count_after p (e ∷ es) < count_from p (e ∷ es)
    by_test true is here more = let one = one_less (path_cmp p e.0) is in let rest = after_most p es in omega (arith, one, rest)
    by_test false is here more = let one = one_most (path_cmp p e.0) in let rest = more here in omega (arith, one, rest)

-- what is on a path or after it is after each path before
one_later : (p q r : List ℕ) → path_cmp p q ≡ Less → on_or_after (path_cmp q r) ≤ after (path_cmp p r)
one_later p q r less = by_order (path_cmp q r) refl
  where
    is_after : path_cmp p r ≡ Less → 1 ≤ after (path_cmp p r)
    is_after e = let one : after (path_cmp p r) ≡ 1 = ap after e in omega (arith, one)

    by_order : (o : Ordering) → path_cmp q r ≡ o → on_or_after o ≤ after (path_cmp p r)
    by_order Less e = is_after (path_cmp_total.trans p q r less e)
    by_order Equal e = is_after (ap (path_cmp p) (sym (path_is q r (ap is_eq e))) ∙ less)
    by_order Greater e = omega arith

pub from_later : {X : Type 0} (p q : List ℕ) (es : List (List ℕ × X)) → path_cmp p q ≡ Less → count_from q es ≤ count_after p es
from_later p q [] less = omega arith
from_later p q (e ∷ es) less = let one = one_later p q e.0 less in let more = from_later p q es less in omega (arith, one, more)

equal_is : (o : Ordering) → is_eq o ≡ true → o ≡ Equal
equal_is Less e = absurd (cc)
equal_is Equal e = refl
equal_is Greater e = absurd (cc)

pub less_is : (o : Ordering) → is_lt o ≡ true → o ≡ Less
less_is Less e = refl
less_is Equal e = absurd (cc)
less_is Greater e = absurd (cc)

module _ {A : Type 0} (none : A) (join : Linked → List (List A) → A) where
  nothing_read : (q : List ℕ) (is : Instances) → ((m : Linked) → linked_at q is ≡ Some m → ⊥) → read none join is q ≡ none
  nothing_read q is off = by_found (linked_at q is) refl
    where
      by_found : (o : Option Linked) → linked_at q is ≡ o → read none join is q ≡ none
      by_found None e = read_none none join is q e
      by_found (Some m) e = absurd (off m e)

  module _ (x : List ℕ × Linked) (xs : Instances) where
    -- what is read after the first entry is read after its path
    after_here : (p : List ℕ) → p ≡ x.0 → AllByRecursion (λ (y : List ℕ). path_cmp x.0 y ≡ Less) (map_keys xs) → (q : List ℕ) → read none join xs q ≡ read_after none (read none join (x ∷ xs)) p q
    after_here p same first q = by_test (is_lt (path_cmp p q)) refl
      where
        other : is_lt (path_cmp p q) ≡ true → q ≡ x.0 → ⊥
        other on e =
            let equal : Less ≡ Equal = sym (less_is (path_cmp p q) on) ∙ equal_is (path_cmp p q) (is_that p q (same ∙ sym e)) in
            let two : true ≡ false = ap is_lt equal in
            cc

        not_later : is_lt (path_cmp p q) ≡ false → (m : Linked) → linked_at q xs ≡ Some m → ⊥
        not_later off m e = let two : true ≡ false = sym (ap is_lt (ap (λ (r : List ℕ). path_cmp r q) same ∙ after_first q x.0 m xs first e)) ∙ off in cc

        by_test : (b : Bool) → is_lt (path_cmp p q) ≡ b → read none join xs q ≡ cond b (read none join (x ∷ xs) q) none
        by_test true on = sym (read_past none join q x xs (other_path q x.0 (other on)))
        by_test false off = nothing_read q xs (not_later off)

    after_later : (p : List ℕ) → path_cmp x.0 p ≡ Less → (q : List ℕ) → read_after none (read none join xs) p q ≡ read_after none (read none join (x ∷ xs)) p q
    after_later p less q = by_test (is_lt (path_cmp p q)) refl
      where
        other : is_lt (path_cmp p q) ≡ true → q ≡ x.0 → ⊥
        other on e = let two : true ≡ false = sym on ∙ ap is_lt (ap (path_cmp p) e ∙ (path_cmp_total.antisymm p x.0 ∙ ap ordering_reverse less)) in cc

        by_test : (b : Bool) → is_lt (path_cmp p q) ≡ b → cond b (read none join xs q) none ≡ cond b (read none join (x ∷ xs) q) none
        by_test true on = sym (read_past none join q x xs (other_path q x.0 (other on)))
        by_test false off = refl

  -- an instance is read from its own, and from those of the bodies that it holds that come after it
  pub read_ahead : (is : Instances) (p : List ℕ) (l : Linked) → IsStrictlySortedBy path_cmp (map_keys is) → linked_at p is ≡ Some l
      → read none join is p ≡ join l (read_bodies (read_after none (read none join is) p) l.page.outlets)
  read_ahead [] p l ordered e = absurd (cc)
  read_ahead (x ∷ xs) p l ordered e = by_test (is_path p x.0) refl e (read_ahead xs p l (sorted_tail path_cmp x.0 (map_keys xs) ordered))
    where
      first : AllByRecursion (λ (y : List ℕ). path_cmp x.0 y ≡ Less) (map_keys xs)
      first = sorted_head path_cmp x.0 (map_keys xs) ordered

      now : List ℕ → A
      now = read_after none (read none join (x ∷ xs)) p

      by_test : (t : Bool) → is_path p x.0 ≡ t → cond t (Some x.1) (linked_at p xs) ≡ Some l
          → (linked_at p xs ≡ Some l → read none join xs p ≡ join l (read_bodies (read_after none (read none join xs) p) l.page.outlets))
          → read none join (x ∷ xs) p ≡ join l (read_bodies now l.page.outlets)
      by_test true is same rest =
          let one : x.1 ≡ l = cc in
          read_here none join p x xs is
          ∙ (ap (λ (m : List (List A)). join x.1 m) (same_held (read none join xs) now x.1.page.outlets (λ q lt. after_here x xs p (path_is p x.0 is) first q))
          ∙ ap (λ (m : Linked). join m (read_bodies now m.page.outlets)) one)
      by_test false is more rest =
          let less = after_first p x.0 l xs first more in
          read_past none join p x xs is
          ∙ (rest more
          ∙ ap (λ (m : List (List A)). join l m) (same_held (read_after none (read none join xs) p) now l.page.outlets (λ q lt. after_later x xs p less q)))
