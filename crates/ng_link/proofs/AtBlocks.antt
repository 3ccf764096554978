-- The bodies of a block change: what stands of a fragment then.
use Rattle.std.proofs.Common.{◌≡◌, ◌⊎◌, inl, inr, ◌+◌, ◌<◌, ◌≤◌, ℕ, zero, suc, Bool, false, cond, List, [], ◌∷◌, ◌++◌, Some, refl, ap, ◌∙◌, sym, map, length, slice_get, arith, length-append, ne_eqb, eqb-true}
use Rattle.std.specs.Prelude.{◌==◌}
use Rattle.std.proofs.Math.Path.{fun_ext}
use Rattle.ng_base.specs.declared.path.Key.{Key}
use Rattle.ng_dom.specs.Drawing.{Stand, Stands, Bodies, element_stands, block_stands, stand_then, body_then, at_block, at_block_all, at_block_bodies}
use Rattle.ng_drawing.specs.Nodes.{part_nodes, content_nodes, nodes}
use Rattle.ng_drawing.specs.Template.{Part, Contents, Parts, text_part, comment_part, element_part, anchor_part, children, bound, no_parts, part_then}
use Rattle.ng_drawing.specs.Numbering.{outlets_of_part, outlets_of_contents, after_outlets}
use Rattle.ng_instances.specs.Instances.{Body, OutletState, bodies_from, groups_from, read_bodies}
use Rattle.ng_build.specs.Shape.{linked_values, part_shape, content_shape, shape, part_anchors, content_anchors, anchors}
use Rattle.ng_link.proofs.Numbers.{first_then, where_true}

-- the number after outlets counts their anchors
mutual
  pub counted_part : (n k c : ℕ) (p : Part) → outlets_of_part k p ≡ Some c → c ≡ k + length (part_anchors n p)
  counted_part n k c (text_part ps) e = let same : k ≡ c = cc in omega (arith, same)
  counted_part n k c (comment_part t) e = let same : k ≡ c = cc in omega (arith, same)
  counted_part n k c (element_part t own acts ats p) e = counted_contents (n + 1) k c p e
  counted_part n k c (anchor_part outlet own starts) e = let two = (where_true (outlet == k) (Some (k + 1)) c e).1 in let same : k + 1 ≡ c = cc in omega (arith, same)

  counted_contents : (n k c : ℕ) (p : Contents) → outlets_of_contents k p ≡ Some c → c ≡ k + length (content_anchors n p)
  counted_contents n k c (children ps) e = counted_anchors n k c ps e
  counted_contents n k c (bound b) e = let same : k ≡ c = cc in omega (arith, same)

  pub counted_anchors : (n k c : ℕ) (ps : Parts) → after_outlets k ps ≡ Some c → c ≡ k + length (anchors n ps)
  counted_anchors n k c no_parts e = let same : k ≡ c = cc in omega (arith, same)
  counted_anchors n k c (part_then p ps) e =
      let two = first_then (outlets_of_part k p) (λ j. after_outlets j ps) c e in
      let first = counted_part n k two.0 p two.1 in
      let rest = counted_anchors (n + part_nodes p) two.0 c ps two.2 in
      omega (arith, first, rest, length-append (part_anchors n p) (anchors (n + part_nodes p) ps))

-- a name that is none of so many from one on
abbrev pub IsOff : ℕ → ℕ → ℕ → Type 0
IsOff a n count = (a < n) ⊎ (n + count ≤ a)

-- it is none of some of them either
off_first : (a n c d : ℕ) → IsOff a n (c + d) → IsOff a n c
off_first a n c d (inl h) = inl h
off_first a n c d (inr h) = inr (omega (arith, h))

off_rest : (a n c d : ℕ) → IsOff a n (c + d) → IsOff a (n + c) d
off_rest a n c d (inl h) = inl (omega (arith, h))
off_rest a n c d (inr h) = inr (omega (arith, h))

off_one : (a n : ℕ) → IsOff a n 1 → (n == a) ≡ false
off_one a n (inl h) = ne_eqb n a (λ e. omega (arith, e, h))
off_one a n (inr h) = ne_eqb n a (λ e. omega (arith, e, h))

module _ (a : ℕ) (h : Bodies → Bodies) (keys : ℕ → Key) (groups : ℕ → Bodies) where
  abbrev within : ℕ → Bodies
  within o = at_block_bodies a h (groups o)

  -- where the anchor is none of a fragment, the bodies in it change alone
  mutual
    part_off : (n : ℕ) (p : Part) → IsOff a n (part_nodes p) → at_block a h (part_shape keys n groups p) ≡ part_shape keys n within p
    part_off n (text_part ps) off = refl
    part_off n (comment_part t) off = refl
    part_off n (element_part e own acts ats c) off = ap (λ (ms : Stands). element_stands n e (linked_values keys ats) ms) (content_off (n + 1) c (off_rest a n 1 (content_nodes c) off))
    part_off n (anchor_part outlet own starts) off = ap (λ (b : Bool). block_stands n (cond b (h (within outlet)) (within outlet))) (off_one a n off)

    content_off : (n : ℕ) (c : Contents) → IsOff a n (content_nodes c) → at_block_all a h (content_shape keys n groups c) ≡ content_shape keys n within c
    content_off n (children ps) off = shape_off n ps off
    content_off n (bound k) off = refl

    pub shape_off : (n : ℕ) (ps : Parts) → IsOff a n (nodes ps) → at_block_all a h (shape keys n groups ps) ≡ shape keys n within ps
    shape_off n no_parts off = refl
    shape_off n (part_then p ps) off =
        ap (λ (m : Stand). stand_then m (at_block_all a h (shape keys (n + part_nodes p) groups ps))) (part_off n p (off_first a n (part_nodes p) (nodes ps) off))
        ∙ ap (stand_then (part_shape keys n within p)) (shape_off (n + part_nodes p) ps (off_rest a n (part_nodes p) (nodes ps) off))

  module _ (changed : ℕ → Bodies) where
    -- the outlets from one on have their anchors in this order, and their bodies are changed where the anchor is that
    abbrev pub Follow : ℕ → List ℕ → Type 0
    Follow k [] = Unit {0}
    Follow k (x ∷ xs) = (cond (x == a) (h (within k)) (within k) ≡ changed k) × Follow (k + 1) xs

    follow_cut : (k j : ℕ) (xs ys : List ℕ) → j ≡ k + length xs → Follow k (xs ++ ys) → Follow k xs × Follow j ys
    follow_cut k j [] ys e f = let same : j ≡ k = omega (arith, e) in (tt, rw same f)
    follow_cut k j (x ∷ xs) ys e f = let more = follow_cut (k + 1) j xs ys (omega (arith, e)) f.1 in ((f.0, more.0), more.1)

    -- where the anchor is one of a fragment's, the bodies of its outlet are changed
    mutual
      part_on : (n k c : ℕ) (p : Part) → outlets_of_part k p ≡ Some c → Follow k (part_anchors n p) → at_block a h (part_shape keys n groups p) ≡ part_shape keys n changed p
      part_on n k c (text_part ps) e f = refl
      part_on n k c (comment_part t) e f = refl
      part_on n k c (element_part t own acts ats p) e f = ap (λ (ms : Stands). element_stands n t (linked_values keys ats) ms) (content_on (n + 1) k c p e f)
      part_on n k c (anchor_part outlet own starts) e f =
          let here : outlet ≡ k = eqb-true outlet k (where_true (outlet == k) (Some (k + 1)) c e).0 in
          ap (λ (o : ℕ). block_stands n (cond (n == a) (h (within o)) (within o))) here
          ∙ (ap (block_stands n) f.0 ∙ ap (λ (o : ℕ). block_stands n (changed o)) (sym here))

      content_on : (n k c : ℕ) (p : Contents) → outlets_of_contents k p ≡ Some c → Follow k (content_anchors n p) → at_block_all a h (content_shape keys n groups p) ≡ content_shape keys n changed p
      content_on n k c (children ps) e f = shape_on n k c ps e f
      content_on n k c (bound b) e f = refl

      pub shape_on : (n k c : ℕ) (ps : Parts) → after_outlets k ps ≡ Some c → Follow k (anchors n ps) → at_block_all a h (shape keys n groups ps) ≡ shape keys n changed ps
      shape_on n k c no_parts e f = refl
      shape_on n k c (part_then p ps) e f =
          let two = first_then (outlets_of_part k p) (λ j. after_outlets j ps) c e in
          let both = follow_cut k two.0 (part_anchors n p) (anchors (n + part_nodes p) ps) (counted_part n k two.0 p two.1) f in
          ap (λ (m : Stand). stand_then m (at_block_all a h (shape keys (n + part_nodes p) groups ps))) (part_on n k two.0 p two.1 both.0)
          ∙ ap (stand_then (part_shape keys n changed p)) (shape_on (n + part_nodes p) two.0 c ps two.2 both.1)

-- the names of anchors are among those of their fragment, and rise
abbrev pub AllRange : ℕ → ℕ → List ℕ → Type 0
AllRange low high [] = low ≤ high
AllRange low high (x ∷ xs) = (low ≤ x) × AllRange (x + 1) high xs

range_lower : (low from high : ℕ) (xs : List ℕ) → low ≤ from → AllRange from high xs → AllRange low high xs
range_lower low from high [] le r = omega (arith, le, r)
range_lower low from high (x ∷ xs) le r = (omega (arith, le, r.0), r.1)

range_append : (low mid high : ℕ) (xs ys : List ℕ) → AllRange low mid xs → AllRange mid high ys → AllRange low high (xs ++ ys)
range_append low mid high [] ys r s = range_lower low mid high ys r s
range_append low mid high (x ∷ xs) ys r s = (r.0, range_append (x + 1) mid high xs ys r.1 s)

mutual
  part_range : (n : ℕ) (p : Part) → AllRange n (n + part_nodes p) (part_anchors n p)
  part_range n (text_part ps) = omega arith
  part_range n (comment_part t) = omega arith
  part_range n (element_part e own acts ats c) =
      let end : (n + 1) + content_nodes c ≡ n + (1 + content_nodes c) = omega arith in
      rw (sym end) (range_lower n (n + 1) ((n + 1) + content_nodes c) (content_anchors (n + 1) c) (omega arith) (content_range (n + 1) c))
  part_range n (anchor_part outlet own starts) = (omega arith, omega arith)

  content_range : (n : ℕ) (c : Contents) → AllRange n (n + content_nodes c) (content_anchors n c)
  content_range n (children ps) = anchors_range n ps
  content_range n (bound k) = omega arith

  pub anchors_range : (n : ℕ) (ps : Parts) → AllRange n (n + nodes ps) (anchors n ps)
  anchors_range n no_parts = omega arith
  anchors_range n (part_then p ps) =
      let end : (n + part_nodes p) + nodes ps ≡ n + (part_nodes p + nodes ps) = omega arith in
      rw (sym end) (range_append n (n + part_nodes p) ((n + part_nodes p) + nodes ps) (part_anchors n p) (anchors (n + part_nodes p) ps) (part_range n p) (anchors_range (n + part_nodes p) ps))

pub in_range : (low high : ℕ) (xs : List ℕ) (i x : ℕ) → AllRange low high xs → slice_get xs i ≡ Some x → (low ≤ x) × (x < high)
in_range low high [] i x r e = absurd (cc)
in_range low high (y ∷ ys) zero x r e = let same : y ≡ x = cc in let end = above (y + 1) ys r.1 in (omega (arith, same, r.0), omega (arith, same, end))
  where
    above : (from : ℕ) (zs : List ℕ) → AllRange from high zs → from ≤ high
    above from [] s = s
    above from (z ∷ zs) s = let more = above (z + 1) zs s.1 in omega (arith, s.0, more)
in_range low high (y ∷ ys) (suc i) x r e = let more = in_range (y + 1) high ys i x r.1 e in (omega (arith, r.0, more.0), more.1)

-- one name is that of one anchor
pub one_place : (low high : ℕ) (xs : List ℕ) (i j x : ℕ) → AllRange low high xs → slice_get xs i ≡ Some x → slice_get xs j ≡ Some x → i ≡ j
one_place low high [] i j x r e f = absurd (cc)
one_place low high (y ∷ ys) zero zero x r e f = refl
one_place low high (y ∷ ys) zero (suc j) x r e f = let same : y ≡ x = cc in let more = in_range (y + 1) high ys j x r.1 f in absurd (omega (arith, same, more.0))
one_place low high (y ∷ ys) (suc i) zero x r e f = let same : y ≡ x = cc in let more = in_range (y + 1) high ys i x r.1 e in absurd (omega (arith, same, more.0))
one_place low high (y ∷ ys) (suc i) (suc j) x r e f = ap suc (one_place (y + 1) high ys i j x r.1 e f)

-- what stands of a fragment, where the same bodies fill its outlets
pub same_shape : (keys : ℕ → Key) (n : ℕ) (f g : ℕ → Bodies) (ps : Parts) → ((o : ℕ) → f o ≡ g o) → shape keys n f ps ≡ shape keys n g ps
same_shape keys n f g ps h = ap (λ (k : ℕ → Bodies). shape keys n k ps) (fun_ext h)

-- the bodies of an outlet, each changed within
module _ (a : ℕ) (h : Bodies → Bodies) (go : List ℕ → Stands) where
  from_list : (bs : List Body) → at_block_bodies a h (bodies_from (map (λ (b : Body). go b.path) bs)) ≡ bodies_from (map (λ (b : Body). at_block_all a h (go b.path)) bs)
  from_list [] = refl
  from_list (b ∷ bs) = ap (body_then (at_block_all a h (go b.path))) (from_list bs)

  pub within_bodies : (os : List OutletState) (o : ℕ) → at_block_bodies a h (groups_from (read_bodies go os) o) ≡ groups_from (read_bodies (λ q. at_block_all a h (go q)) os) o
  within_bodies [] o = refl
  within_bodies (x ∷ xs) zero = from_list x.bodies
  within_bodies (x ∷ xs) (suc o) = within_bodies xs o
