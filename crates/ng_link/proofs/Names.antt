-- The names of what stands of a fragment whose outlets nothing fills: they follow one another.
use Rattle.std.proofs.Common.{◌≡◌, ◌+◌, ◌<◌, ◌≤◌, ℕ, zero, suc, Bool, true, false, cond, List, [], ◌∷◌, ◌++◌, None, refl, ap, ◌∙◌, sym, arith, nat_eq, eqb-true, eq-eqb, ne_eqb}
use Rattle.std.specs.Prelude.{◌==◌}
use Rattle.std.specs.List.{AllByRecursion, IsDistinct}
use Rattle.std.proofs.lemmas.Map.Keys.{IsDistinct-head, IsDistinct-tail, IsDistinct-cons}
use Rattle.ng_base.specs.declared.path.Key.{Key}
use Rattle.ng_dom.specs.Document.{rooms, next_name, Holds}
use Rattle.ng_dom.specs.Drawing.{stand_names, names_standing}
use Rattle.ng_dom.specs.Lists.{among}
use Rattle.ng_dom.specs.Nodes.{NamedForest, all_names}
use Rattle.ng_dom.specs.declared.dom.Dom.{Dom}
use Rattle.ng_dom.proofs.Apart.{names_are_live}
use Rattle.ng_dom.proofs.Homes.{live_names_are_given}
use Rattle.ng_drawing.specs.Nodes.{part_nodes, content_nodes, nodes}
use Rattle.ng_drawing.specs.Template.{Part, Contents, Parts, text_part, comment_part, element_part, anchor_part, children, bound, no_parts, part_then}
use Rattle.ng_build.specs.Shape.{part_shape, content_shape, shape, unfilled}

-- so many names from one on
abbrev pub up : ℕ → ℕ → List ℕ
up n zero = []
up n (suc c) = n ∷ up (n + 1) c

up_append : (n c d : ℕ) → up n (c + d) ≡ up n c ++ up (n + c) d
up_append n zero d = let few : 0 + d ≡ d = omega arith in let same : n + 0 ≡ n = omega arith in ap (up n) few ∙ ap (λ (m : ℕ). up m d) (sym same)
up_append n (suc c) d =
    let more : suc c + d ≡ suc (c + d) = omega arith in
    let same : (n + 1) + c ≡ n + suc c = omega arith in
    ap (up n) more ∙ ap (λ (ks : List ℕ). n ∷ ks) (up_append (n + 1) c d ∙ ap (λ (m : ℕ). up (n + 1) c ++ up m d) same)

up_one : (n c : ℕ) → up n (1 + c) ≡ n ∷ up (n + 1) c
up_one n c = let more : 1 + c ≡ suc c = omega arith in ap (up n) more

module _ (keys : ℕ → Key) where
  mutual
    part_names : (n : ℕ) (p : Part) → stand_names (part_shape keys n unfilled p) ≡ up n (part_nodes p)
    part_names n (text_part ps) = refl
    part_names n (comment_part t) = refl
    part_names n (element_part e own acts ats c) = ap (λ (ks : List ℕ). n ∷ ks) (content_names (n + 1) c) ∙ sym (up_one n (content_nodes c))
    part_names n (anchor_part outlet own starts) = refl

    content_names : (n : ℕ) (c : Contents) → names_standing (content_shape keys n unfilled c) ≡ up n (content_nodes c)
    content_names n (children ps) = shape_names n ps
    content_names n (bound k) = refl

    pub shape_names : (n : ℕ) (ps : Parts) → names_standing (shape keys n unfilled ps) ≡ up n (nodes ps)
    shape_names n no_parts = refl
    shape_names n (part_then p ps) =
        ap (λ (ks : List ℕ). ks ++ names_standing (shape keys (n + part_nodes p) unfilled ps)) (part_names n p)
        ∙ (ap (λ (ks : List ℕ). up n (part_nodes p) ++ ks) (shape_names (n + part_nodes p) ps) ∙ sym (up_append n (part_nodes p) (nodes ps)))

-- which names these are
pub among_up : (q n c : ℕ) → among q (up n c) ≡ true → (n ≤ q) × (q < n + c)
among_up q n zero e = absurd (cc)
among_up q n (suc c) e = by_test (n == q) refl (among_up q (n + 1) c) e
  where
    by_test : (b : Bool) → (n == q) ≡ b → (among q (up (n + 1) c) ≡ true → ((n + 1) ≤ q) × (q < (n + 1) + c)) → cond b true (among q (up (n + 1) c)) ≡ true → (n ≤ q) × (q < n + suc c)
    by_test true is more h = let same = eqb-true n q is in (omega (arith, same), omega (arith, same))
    by_test false is more h = let two = more h in (omega (arith, two.0), omega (arith, two.1))

pub up_among : (q n c : ℕ) → n ≤ q → q < n + c → among q (up n c) ≡ true
up_among q n zero from to = absurd (omega (arith, from, to))
up_among q n (suc c) from to = by_test (n == q) refl (up_among q (n + 1) c)
  where
    by_test : (b : Bool) → (n == q) ≡ b → ((n + 1) ≤ q → q < (n + 1) + c → among q (up (n + 1) c) ≡ true) → cond b true (among q (up (n + 1) c)) ≡ true
    by_test true is more = refl
    by_test false is more = let ne : n ≡ q → ⊥ = λ e. (let two : true ≡ false = sym (eq-eqb n q e) ∙ is in cc) in more (above ne) (omega (arith, to))
      where
        above : (n ≡ q → ⊥) → (n + 1) ≤ q
        above off = omega (arith, from, off)

-- names differ where none of a list is equal to one
apart_all : (n : ℕ) (ks : List ℕ) → (among n ks ≡ true → ⊥) → AllByRecursion (λ k. nat_eq n k ≡ false) ks
apart_all n [] none = tt
apart_all n (k ∷ ks) none = (
  ne_eqb n k (λ e. none (ap (λ (b : Bool). cond b true (among n ks)) (eq-eqb k n (sym e)))),
  apart_all n ks (λ h. none (later (k == n) (among n ks) h)),
)
  where
    later : (b c : Bool) → c ≡ true → cond b true c ≡ true
    later true c h = refl
    later false c h = h

pub distinct_up : (n c : ℕ) → IsDistinct nat_eq (up n c)
unfolding IsDistinct
distinct_up n zero = tt
distinct_up n (suc c) = (apart_all n (up (n + 1) c) (λ h. let two = among_up n (n + 1) c h in omega (arith, two.0)), distinct_up (n + 1) c)

pub distinct_append : (xs ys : List ℕ) → IsDistinct nat_eq xs → IsDistinct nat_eq ys → ((q : ℕ) → among q xs ≡ true → among q ys ≡ true → ⊥) → IsDistinct nat_eq (xs ++ ys)
distinct_append [] ys dx dy none = dy
distinct_append (x ∷ xs) ys dx dy none =
    IsDistinct-cons nat_eq x (xs ++ ys)
    (both xs (IsDistinct-head nat_eq x xs dx) (apart_all x ys (λ h. none x (ap (λ (b : Bool). cond b true (among x xs)) (eq-eqb x x refl)) h)))
    (distinct_append xs ys (IsDistinct-tail nat_eq x xs dx) dy (λ q h k. none q (later (x == q) (among q xs) h) k))
  where
    later : (b c : Bool) → c ≡ true → cond b true c ≡ true
    later true c h = refl
    later false c h = h

    both : (ks : List ℕ) → AllByRecursion (λ k. nat_eq x k ≡ false) ks → AllByRecursion (λ k. nat_eq x k ≡ false) ys → AllByRecursion (λ k. nat_eq x k ≡ false) (ks ++ ys)
    both [] h k = k
    both (z ∷ zs) h k = (h.0, both zs h.1 k)

-- the names of a document were given
pub names_given : (d : Dom) (f : NamedForest) → Holds d f → (q : ℕ) → among q (all_names f) ≡ true → q < next_name d
names_given d f h q e = live_names_are_given d q (names_are_live (rooms d) None f q h.shows.1 e)
