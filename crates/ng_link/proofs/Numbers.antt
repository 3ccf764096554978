-- Sites that are numbered in document order: how many there are.
use Rattle.std.proofs.Common.{◌≡◌, ◌+◌, ℕ, Bool, true, false, cond, List, [], ◌∷◌, ◌++◌, Option, Some, None, refl, ap, map, length, arith, length-append}
use Rattle.std.specs.Prelude.{◌==◌, ◌&&◌, option_and_then}
use Rattle.std.specs.List.{list_all}
use Rattle.std.proofs.lemmas.Bool.{eqb-true}
use Rattle.std.proofs.lemmas.List.{length-map}
use Rattle.ng_drawing.specs.Nodes.{part_nodes}
use Rattle.ng_drawing.specs.Template as template
use Rattle.ng_drawing.specs.Template.{word, hole, PartAttributes, Acts, Part, Contents, Parts, text_part, comment_part, element_part, anchor_part, children, bound, no_parts, part_then, Fragment}
use Rattle.ng_drawing.specs.Numbering.{bound_numbers, after_pieces, after_own, after_contents, after_part, after_parts, is_within, is_apart, after_outlets, are_drawn, is_number, is_outlet, is_undrawn, are_outlets, are_undrawn, is_numbered, is_whole}
use Rattle.ng_build.specs.Shape.{own_node, piece_holes, part_holes, content_holes, holes}

pub both_true : (b c : Bool) → (b && c) ≡ true → (b ≡ true) × (c ≡ true)
both_true true c e = (refl, e)
both_true false c e = absurd (cc)

-- what is asked for where a test holds was had there
pub where_true : {A : Type 0} (b : Bool) (o : Option A) (x : A) → cond b o None ≡ Some x → (b ≡ true) × (o ≡ Some x)
where_true true o x e = (refl, e)
where_true false o x e = absurd (cc)

-- what came after a first answer
pub first_then : {A B : Type 0} (o : Option A) (f : A → Option B) (y : B) → option_and_then f o ≡ Some y → (x : A) × (o ≡ Some x) × (f x ≡ Some y)
first_then None f y e = absurd (cc)
first_then (Some x) f y e = (x, refl, e)

number_is : (n : ℕ) (o : Option ℕ) → is_number n o ≡ true → o ≡ Some n
number_is n None e = absurd (cc)
number_is n (Some k) e = ap Some (eqb-true k n e)

-- the numbers after all sites, and after all outlets, of a fragment as the compiler makes it
module _ (bodies : ℕ) (f : Fragment) (e : is_whole bodies f ≡ true) where
  both_parts : (is_numbered f ≡ true) × ((are_outlets bodies f && are_undrawn f) ≡ true)
  both_parts = both_true (is_numbered f) (are_outlets bodies f && are_undrawn f) e

  both_counts : (is_number (length f.sites) (after_parts 0 f.parts) ≡ true) × (is_number (length f.outlets) (after_outlets 0 f.parts) ≡ true)
  both_counts = both_true (is_number (length f.sites) (after_parts 0 f.parts)) (is_number (length f.outlets) (after_outlets 0 f.parts)) both_parts.0

  pub whole_count : after_parts 0 f.parts ≡ Some (length f.sites)
  whole_count = number_is (length f.sites) (after_parts 0 f.parts) both_counts.0

  pub whole_outlets : after_outlets 0 f.parts ≡ Some (length f.outlets)
  whole_outlets = number_is (length f.outlets) (after_outlets 0 f.parts) both_counts.1

  pub whole_numbers : list_all (is_outlet (length f.sites) bodies) f.outlets ≡ true
  whole_numbers = (both_true (are_outlets bodies f) (are_undrawn f) both_parts.1).0

  pub whole_undrawn : list_all (is_undrawn (length f.sites) f.parts) f.outlets ≡ true
  whole_undrawn = (both_true (are_outlets bodies f) (are_undrawn f) both_parts.1).1

-- one number more
pub next_own : (n k : ℕ) (ks : List ℕ) (c : ℕ) → after_own n (k ∷ ks) ≡ Some c → (k ≡ n) × (after_own (n + 1) ks ≡ Some c)
next_own n k ks c e = let h = where_true (k == n) (after_own (n + 1) ks) c e in (eqb-true k n h.0, h.1)

pub next_hole : (n k : ℕ) (ps : List template.Piece) (c : ℕ) → after_pieces n (hole k ∷ ps) ≡ Some c → (k ≡ n) × (after_pieces (n + 1) ps ≡ Some c)
next_hole n k ps c e = let h = where_true (k == n) (after_pieces (n + 1) ps) c e in (eqb-true k n h.0, h.1)

-- the contents of an element follow its own sites
pub contents_children : (n c d : ℕ) (ats : PartAttributes) (ps : Parts) → after_contents n c ats (children ps) ≡ Some d → (are_drawn (is_within n c) ats ≡ true) × (after_parts c ps ≡ Some d)
contents_children n c d ats ps e = where_true (are_drawn (is_within n c) ats) (after_parts c ps) d e

pub contents_bound : (n c d : ℕ) (ats : PartAttributes) (b : ℕ) → after_contents n c ats (bound b) ≡ Some d → (is_within n c b ≡ true) × (are_drawn (is_apart b n c) ats ≡ true) × (c ≡ d)
contents_bound n c d ats b e =
    let h = where_true (is_within n c b && are_drawn (is_apart b n c) ats) (Some c) d e in
    let two = both_true (is_within n c b) (are_drawn (is_apart b n c) ats) h.0 in
    (two.0, two.1, let same : Some c ≡ Some d = h.1 in cc)

-- the own sites of an element follow those of its bindings
pub bound_then : (n : ℕ) (own : List ℕ) (acts : Acts) (ats : PartAttributes) (p : Contents) (c : ℕ) → option_and_then (λ k. option_and_then (λ d. after_contents k d ats p) (after_own k own)) (after_own n (bound_numbers acts)) ≡ Some c
    → (k : ℕ) × (after_own n (bound_numbers acts) ≡ Some k) × (option_and_then (λ d. after_contents k d ats p) (after_own k own) ≡ Some c)
bound_then n own acts ats p c e = first_then (after_own n (bound_numbers acts)) (λ k. option_and_then (λ d. after_contents k d ats p) (after_own k own)) c e

-- the number after sites counts them
pub counted_own : (n c : ℕ) (own : List ℕ) → after_own n own ≡ Some c → c ≡ n + length own
counted_own n c [] e = let same : n ≡ c = cc in omega (arith, same)
counted_own n c (k ∷ ks) e = let rest = counted_own (n + 1) c ks (next_own n k ks c e).1 in omega (arith, rest)

counted_pieces : (n m c : ℕ) (ps : List template.Piece) → after_pieces n ps ≡ Some c → c ≡ n + length (piece_holes m ps)
counted_pieces n m c [] e = let same : n ≡ c = cc in omega (arith, same)
counted_pieces n m c (word w ∷ ps) e = counted_pieces n m c ps e
counted_pieces n m c (hole k ∷ ps) e = let rest = counted_pieces (n + 1) m c ps (next_hole n k ps c e).1 in omega (arith, rest)

mutual
  pub counted_part : (n m c : ℕ) (p : Part) → after_part n p ≡ Some c → c ≡ n + length (part_holes m p)
  counted_part n m c (text_part ps) e = counted_pieces n m c ps e
  counted_part n m c (comment_part t) e = let same : n ≡ c = cc in omega (arith, same)
  counted_part n m c (element_part t own acts ats p) e =
      let z = bound_then n own acts ats p c e in
      let h = first_then (after_own z.0 own) (λ d. after_contents z.0 d ats p) c z.2 in
      let before = counted_own n z.0 (bound_numbers acts) z.1 in
      let first = counted_own z.0 h.0 own h.1 in
      let rest = counted_contents z.0 h.0 (m + 1) c ats p h.2 in
      let inside : List ℕ = map (own_node m p) own ++ content_holes (m + 1) p in
      omega (arith, before, first, rest, length-map (bound_numbers acts) (λ (k : ℕ). m), length-map own (own_node m p), length-append (map (own_node m p) own) (content_holes (m + 1) p), length-append (map (λ (k : ℕ). m) (bound_numbers acts)) inside)
  counted_part n m c (anchor_part outlet own starts) e = let first = counted_own n c own e in omega (arith, first, length-map own (λ (k : ℕ). m))

  pub counted_contents : (n d m c : ℕ) (ats : PartAttributes) (p : Contents) → after_contents n d ats p ≡ Some c → c ≡ d + length (content_holes m p)
  counted_contents n d m c ats (children ps) e = counted d m c ps (contents_children n d c ats ps e).1
  counted_contents n d m c ats (bound b) e = let same = (contents_bound n d c ats b e).2 in omega (arith, same)

  pub counted : (n m c : ℕ) (ps : Parts) → after_parts n ps ≡ Some c → c ≡ n + length (holes m ps)
  counted n m c no_parts e = let same : n ≡ c = cc in omega (arith, same)
  counted n m c (part_then p ps) e =
      let h = first_then (after_part n p) (λ k. after_parts k ps) c e in
      let first = counted_part n m h.0 p h.1 in
      let rest = counted h.0 (m + part_nodes p) c ps h.2 in
      omega (arith, first, rest, length-append (part_holes m p) (holes (m + part_nodes p) ps))
