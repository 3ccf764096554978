-- Nothing is drawn from the sites of outlets.
use Rattle.std.proofs.Common.{◌≡◌, ◌<◌, ◌≤◌, ◌⊎◌, inl, inr, ℕ, Bool, true, List, [], ◌∷◌, ◌++◌, None, Some, refl, subst, ◌∙◌, arith}
use Rattle.std.proofs.lemmas.Bool.{and_parts, and_from}
use Rattle.std.specs.Prelude.{◌&&◌, ◌==◌, not}
use Rattle.std.specs.List.{AllByRecursion, list_all}
use Rattle.ng_drawing.specs.Template.{Outlet, PartAttributes, Part, Contents, Parts}
use Rattle.ng_elements.specs.Elements.{Switch, switch_in}
use Rattle.ng_drawing.specs.Numbering.{is_within, is_apart, are_drawn, after_part, after_parts, part_draws, contents_draw, parts_draw}
use Rattle.ng_parts.proofs.Within.{apart_from, within_parts, within_from, apart_parts, apart_make}
use Rattle.ng_template.proofs.Drawn.{is_bound_within}
use Rattle.ng_parts.proofs.More.{all_more, attributes_more, part_more, contents_more, parts_more}
use Rattle.ng_parts.proofs.Ranges.{part_within, parts_within}

-- the site of the switch round something is one of so many
abbrev pub IsInside : Switch → ℕ → Type 0
IsInside None k = Unit {0}
IsInside (Some s) k = s < k

-- an outlet has the site of the switch round it, or one from a number on, below another, from which nothing is drawn
abbrev pub Apart : Switch → ℕ → ℕ → ((ℕ → Bool) → Bool) → Outlet → Type 0
Apart outer a b draws x = (outer ≡ Some x.site) ⊎ ((a ≤ x.site) × ((x.site < b) × (draws (is_apart x.site a b) ≡ true)))

pub all_weaker : {X : Type 0} (P Q : X → Type 0) → ((x : X) → P x → Q x) → (xs : List X) → AllByRecursion P xs → AllByRecursion Q xs
all_weaker P Q h [] all = tt
all_weaker P Q h (x ∷ xs) all = (h x all.0, all_weaker P Q h xs all.1)

pub all_joined : {X : Type 0} (P : X → Type 0) → (xs ys : List X) → AllByRecursion P xs → AllByRecursion P ys → AllByRecursion P (xs ++ ys)
all_joined P [] ys all more = more
all_joined P (x ∷ xs) ys all more = (all.0, all_joined P xs ys all.1 more)

-- a number apart from a site among fewer is so among more
apart_wider : (s a b c d : ℕ) → a ≤ b → c ≤ d → (k : ℕ) → is_apart s b c k ≡ true → is_apart s a d k ≡ true
apart_wider s a b c d l u k e =
    let h = and_parts (is_within b c k) (not (k == s)) e in
    let g = within_parts b c k h.0 in
    let lo = g.0 in
    let hi = g.1 in
    and_from (is_within a d k) (not (k == s)) (within_from a d k (omega (arith, l, lo)) (omega (arith, u, hi))) h.1

-- numbers below a site, and numbers above it, are apart from it
below_apart : (s a c d : ℕ) → c ≤ s → c ≤ d → (k : ℕ) → is_within a c k ≡ true → is_apart s a d k ≡ true
below_apart s a c d l u k e =
    let g = within_parts a c k e in
    let lo = g.0 in
    let hi = g.1 in
    apart_make a d s k lo (omega (arith, hi, u)) (λ same. omega (arith, same, hi, l))

above_apart : (s a c d : ℕ) → s < c → a ≤ c → (k : ℕ) → is_within c d k ≡ true → is_apart s a d k ≡ true
above_apart s a c d l u k e =
    let g = within_parts c d k e in
    let lo = g.0 in
    let hi = g.1 in
    apart_make a d s k (omega (arith, u, lo)) hi (λ same. omega (arith, same, lo, l))

-- the contents of an element with these attributes, whose own sites are those from n on, below c
module _ (n c b : ℕ) (ats : PartAttributes) (ps : Parts) (w outer : Switch) (l : n ≤ c) (own : is_bound_within n c w ≡ true) (drawn : are_drawn (apart_from None w n c) ats ≡ true) (regular : after_parts c ps ≡ Some b) where
  range : (c ≤ b) × (parts_draw (is_within c b) ps ≡ true)
  range = parts_within c b ps regular

  abbrev draws : (ℕ → Bool) → Bool
  draws test = are_drawn test ats && parts_draw test ps

  apart_both : (s : ℕ) → are_drawn (is_apart s n b) ats ≡ true → parts_draw (is_apart s n b) ps ≡ true → draws (is_apart s n b) ≡ true
  apart_both s e f = and_from (are_drawn (is_apart s n b) ats) (parts_draw (is_apart s n b) ps) e f

  of_own : (s : ℕ) → w ≡ Some s → (n ≤ s) × ((s < b) × (draws (is_apart s n b) ≡ true))
  of_own s e =
      let bound = within_parts n c s (subst (λ (v : Switch). is_bound_within n c v ≡ true) e own) in
      let lo = bound.0 in
      let hi = bound.1 in
      let up = range.0 in
      let here : are_drawn (apart_from None (Some s) n c) ats ≡ true = subst (λ (v : Switch). are_drawn (apart_from None v n c) ats ≡ true) e drawn in (
        lo,
        (
          omega (arith, hi, up),
          apart_both s
              (attributes_more (apart_from None (Some s) n c) (is_apart s n b)
              (λ k f. let h = apart_parts n c None (Some s) k f in and_from (is_within n b k) (not (k == s)) (let g = within_parts n c k h.0 in let below = g.1 in within_from n b k g.0 (omega (arith, below, up))) h.1.1) ats here)
              (parts_more (is_within c b) (is_apart s n b) (above_apart s n c b hi l) ps range.1),
        ),
      )

  pub apart_contents : (x : Outlet) → Apart (switch_in w outer) c b (λ test. parts_draw test ps) x → Apart outer n b draws x
  apart_contents x (inl e) = by w refl e
    where
      by : (v : Switch) → w ≡ v → switch_in v outer ≡ Some x.site → Apart outer n b draws x
      by None is same = inl same
      by (Some s) is same = inr (of_own x.site (is ∙ same))
  apart_contents x (inr h) =
      let lo = h.0 in
      let up = range.0 in
      inr (
        omega (arith, l, lo),
        (
          h.1.0,
          apart_both x.site
              (attributes_more (apart_from None w n c) (is_apart x.site n b) (λ k f. below_apart x.site n c b lo up k (apart_parts n c None w k f).0) ats drawn)
              (parts_more (is_apart x.site c b) (is_apart x.site n b) (apart_wider x.site n c b b l (omega arith)) ps h.1.1),
        ),
      )

-- and so is an element, whose bindings have numbers from a lower one on
module _ (from n b : ℕ) (bs : List ℕ) (ats : PartAttributes) (p : Contents) (outer : Switch) (low : from ≤ n) (up : n ≤ b) (within : list_all (is_within from n) bs ≡ true) where
  abbrev of_element : (ℕ → Bool) → Bool
  of_element test = list_all test bs && (are_drawn test ats && contents_draw test p)

  pub apart_element : (x : Outlet) → Apart outer n b (λ test. are_drawn test ats && contents_draw test p) x → Apart outer from b of_element x
  apart_element x (inl e) = inl e
  apart_element x (inr h) =
      let at : n ≤ x.site = h.0 in
      let wider : (k : ℕ) → is_apart x.site n b k ≡ true → is_apart x.site from b k ≡ true = apart_wider x.site from n b b low (omega arith) in
      let both = and_parts (are_drawn (is_apart x.site n b) ats) (contents_draw (is_apart x.site n b) p) h.1.1 in
      inr (
        omega (arith, low, at),
        (
          h.1.0,
          and_from (list_all (is_apart x.site from b) bs) (are_drawn (is_apart x.site from b) ats && contents_draw (is_apart x.site from b) p)
              (all_more (is_within from n) (is_apart x.site from b) (below_apart x.site from n b at up) bs within)
              (and_from (are_drawn (is_apart x.site from b) ats) (contents_draw (is_apart x.site from b) p) (attributes_more (is_apart x.site n b) (is_apart x.site from b) wider ats both.0)
              (contents_more (is_apart x.site n b) (is_apart x.site from b) wider p both.1)),
        ),
      )

-- a part, and parts after it
module _ (m n k : ℕ) (p : Part) (ps : Parts) (outer : Switch) (here : after_part m p ≡ Some n) (after : after_parts n ps ≡ Some k) where
  abbrev both : (ℕ → Bool) → Bool
  both test = part_draws test p && parts_draw test ps

  first : (m ≤ n) × (part_draws (is_within m n) p ≡ true)
  first = part_within m n p here

  last : (n ≤ k) × (parts_draw (is_within n k) ps ≡ true)
  last = parts_within n k ps after

  pub apart_first : (x : Outlet) → Apart outer m n (λ test. part_draws test p) x → Apart outer m k both x
  apart_first x (inl e) = inl e
  apart_first x (inr h) =
      let hi = h.1.0 in
      let up = last.0 in
      let lo = first.0 in
      inr (
        h.0,
        (
          omega (arith, hi, up),
          and_from (part_draws (is_apart x.site m k) p) (parts_draw (is_apart x.site m k) ps) (part_more (is_apart x.site m n) (is_apart x.site m k) (apart_wider x.site m m n k (omega arith) up) p h.1.1)
              (parts_more (is_within n k) (is_apart x.site m k) (above_apart x.site m n k hi lo) ps last.1),
        ),
      )

  pub apart_second : (x : Outlet) → Apart outer n k (λ test. parts_draw test ps) x → Apart outer m k both x
  apart_second x (inl e) = inl e
  apart_second x (inr h) =
      let lo = first.0 in
      let at = h.0 in
      let up = last.0 in
      inr (
        omega (arith, lo, at),
        (
          h.1.0,
          and_from (part_draws (is_apart x.site m k) p) (parts_draw (is_apart x.site m k) ps) (part_more (is_within m n) (is_apart x.site m k) (below_apart x.site m n k at up) p first.1)
              (parts_more (is_apart x.site n k) (is_apart x.site m k) (apart_wider x.site m n k k lo (omega arith)) ps h.1.1),
        ),
      )

-- without a switch round them nothing is drawn from the site of any
pub all_apart : (b : ℕ) (draws : (ℕ → Bool) → Bool) (xs : List Outlet) → AllByRecursion (Apart None 0 b draws) xs → list_all (λ (x : Outlet). draws (is_apart x.site 0 b)) xs ≡ true
all_apart b draws [] all = refl
all_apart b draws (x ∷ xs) all = and_from (draws (is_apart x.site 0 b)) (list_all (λ (y : Outlet). draws (is_apart y.site 0 b)) xs) (one all.0) (all_apart b draws xs all.1)
  where
    one : Apart None 0 b draws x → draws (is_apart x.site 0 b) ≡ true
    one (inl e) = absurd (cc)
    one (inr h) = h.1.1
