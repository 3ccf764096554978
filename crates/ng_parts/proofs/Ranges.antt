-- Parts whose sites are numbered from one on are drawn from these alone.
use Rattle.std.proofs.Common.{◌≡◌, ◌≤◌, ◌+◌, ℕ, Bool, true, false, cond, List, [], ◌∷◌, Option, None, Some, refl, arith, eqb-true}
use Rattle.std.proofs.lemmas.Bool.{and_parts, and_from}
use Rattle.std.specs.Prelude.{◌&&◌, ◌==◌, not, option_and_then}
use Rattle.std.specs.List.{list_all}
use Rattle.ng_drawing.specs.Template.{Piece, word, hole, PartAttributes, Part, Contents, Parts, text_part, comment_part, element_part, anchor_part, children, bound, no_parts, part_then}
use Rattle.ng_drawing.specs.Numbering.{after_pieces, after_own, bound_numbers, is_within, is_apart, is_piece_drawn, are_drawn, after_part, after_contents, after_parts, part_draws, contents_draw, parts_draw}
use Rattle.ng_parts.proofs.Within.{within_parts, within_from}
use Rattle.ng_parts.proofs.More.{all_more, attributes_more, part_more, contents_more, parts_more}

-- what a number that is tested for says
tested : {A : Type 0} (b : Bool) (o : Option A) (x : A) → cond b o None ≡ Some x → (b ≡ true) × (o ≡ Some x)
tested true o x e = (refl, e)
tested false o x e = absurd (cc)

chained : {A B : Type 0} (o : Option A) (go : A → Option B) (y : B) → option_and_then go o ≡ Some y → (x : A) × ((o ≡ Some x) × (go x ≡ Some y))
chained None go y e = absurd (cc)
chained (Some x) go y e = (x, (refl, e))

-- fewer numbers are among more
pub within_wider : (a b c d : ℕ) → a ≤ b → c ≤ d → (k : ℕ) → is_within b c k ≡ true → is_within a d k ≡ true
within_wider a b c d l u k e = let h = within_parts b c k e in let lo = h.0 in let hi = h.1 in within_from a d k (omega (arith, l, lo)) (omega (arith, u, hi))

pub own_rise : (n c : ℕ) (own : List ℕ) → after_own n own ≡ Some c → n ≤ c
own_rise n c [] e = let same : n ≡ c = cc in omega (arith, same)
own_rise n c (k ∷ ks) e = let h = own_rise (n + 1) c ks (tested (k == n) (after_own (n + 1) ks) c e).1 in omega (arith, h)

pub own_within : (n c : ℕ) (own : List ℕ) → after_own n own ≡ Some c → list_all (is_within n c) own ≡ true
own_within n c [] e = refl
own_within n c (k ∷ ks) e =
    let t = tested (k == n) (after_own (n + 1) ks) c e in
    let same : k ≡ n = eqb-true k n t.0 in
    let up : n + 1 ≤ c = own_rise (n + 1) c ks t.1 in
    and_from (is_within n c k) (list_all (is_within n c) ks) (within_from n c k (omega (arith, same)) (omega (arith, same, up)))
    (all_more (is_within (n + 1) c) (is_within n c) (within_wider n (n + 1) c c (omega arith) (omega arith)) ks (own_within (n + 1) c ks t.1))

pieces_within : (n c : ℕ) (ps : List Piece) → after_pieces n ps ≡ Some c → (n ≤ c) × (list_all (is_piece_drawn (is_within n c)) ps ≡ true)
pieces_within n c [] e = let same : n ≡ c = cc in (omega (arith, same), refl)
pieces_within n c (word w ∷ ps) e = pieces_within n c ps e
pieces_within n c (hole k ∷ ps) e =
    let t = tested (k == n) (after_pieces (n + 1) ps) c e in
    let same : k ≡ n = eqb-true k n t.0 in
    let h = pieces_within (n + 1) c ps t.1 in
    let up : n + 1 ≤ c = h.0 in
    let wider : (j : ℕ) → is_within (n + 1) c j ≡ true → is_within n c j ≡ true = within_wider n (n + 1) c c (omega arith) (omega arith) in (
      omega (arith, up),
      and_from (is_within n c k) (list_all (is_piece_drawn (is_within n c)) ps) (within_from n c k (omega (arith, same)) (omega (arith, same, up)))
          (all_more (is_piece_drawn (is_within (n + 1) c)) (is_piece_drawn (is_within n c)) (λ x d. by_piece x d wider) ps h.1),
    )
  where
    by_piece : (x : Piece) → is_piece_drawn (is_within (n + 1) c) x ≡ true → ((j : ℕ) → is_within (n + 1) c j ≡ true → is_within n c j ≡ true) → is_piece_drawn (is_within n c) x ≡ true
    by_piece (word w) d wider = refl
    by_piece (hole j) d wider = wider j d

apart_within : (b n c : ℕ) (k : ℕ) → is_apart b n c k ≡ true → is_within n c k ≡ true
apart_within b n c k e = (and_parts (is_within n c k) (not (k == b)) e).0

mutual
  pub part_within : (n c : ℕ) (p : Part) → after_part n p ≡ Some c → (n ≤ c) × (part_draws (is_within n c) p ≡ true)
  part_within n c (text_part ps) e = pieces_within n c ps e
  part_within n c (comment_part t) e = let same : n ≡ c = cc in (omega (arith, same), refl)
  part_within n c (element_part name own acts ats p) e =
      let b = chained (after_own n (bound_numbers acts)) (λ k. option_and_then (λ d. after_contents k d ats p) (after_own k own)) c e in
      let t = chained (after_own b.0 own) (λ d. after_contents b.0 d ats p) c b.1.1 in
      let before : n ≤ b.0 = own_rise n b.0 (bound_numbers acts) b.1.0 in
      let first : b.0 ≤ t.0 = own_rise b.0 t.0 own t.1.0 in
      let h = contents_within b.0 t.0 c ats p first t.1.1 in
      let up : t.0 ≤ c = h.0 in (
        omega (arith, before, first, up),
        and_from (list_all (is_within n c) (bound_numbers acts)) (are_drawn (is_within n c) ats && contents_draw (is_within n c) p)
            (all_more (is_within n b.0) (is_within n c) (within_wider n n b.0 c (omega arith) (omega (arith, first, up))) (bound_numbers acts) (own_within n b.0 (bound_numbers acts) b.1.0))
            (and_from (are_drawn (is_within n c) ats) (contents_draw (is_within n c) p) (attributes_more (is_within b.0 t.0) (is_within n c) (within_wider n b.0 t.0 c before up) ats h.1.0)
            (contents_more (is_within b.0 c) (is_within n c) (within_wider n b.0 c c before (omega arith)) p h.1.1)),
      )
  part_within n c (anchor_part outlet own starts) e = (own_rise n c own e, refl)

  contents_within : (n c d : ℕ) (ats : PartAttributes) (p : Contents) → n ≤ c → after_contents n c ats p ≡ Some d → (c ≤ d) × ((are_drawn (is_within n c) ats ≡ true) × (contents_draw (is_within n d) p ≡ true))
  contents_within n c d ats (children ps) l e =
      let t = tested (are_drawn (is_within n c) ats) (after_parts c ps) d e in
      let h = parts_within c d ps t.1 in
      (h.0, (t.0, parts_more (is_within c d) (is_within n d) (within_wider n c d d l (omega arith)) ps h.1))
  contents_within n c d ats (bound b) l e =
      let t = tested (is_within n c b && are_drawn (is_apart b n c) ats) (Some c) d e in
      let same : c ≡ d = let two = t.1 in cc in
      let up : c ≤ d = omega (arith, same) in
      let g = and_parts (is_within n c b) (are_drawn (is_apart b n c) ats) t.0 in
      (up, (attributes_more (is_apart b n c) (is_within n c) (apart_within b n c) ats g.1, within_wider n n c d (omega arith) up b g.0))

  pub parts_within : (n c : ℕ) (ps : Parts) → after_parts n ps ≡ Some c → (n ≤ c) × (parts_draw (is_within n c) ps ≡ true)
  parts_within n c no_parts e = let same : n ≡ c = cc in (omega (arith, same), refl)
  parts_within n c (part_then p ps) e =
      let t = chained (after_part n p) (λ k. after_parts k ps) c e in
      let h = part_within n t.0 p t.1.0 in
      let g = parts_within t.0 c ps t.1.1 in
      let first : n ≤ t.0 = h.0 in
      let last : t.0 ≤ c = g.0 in (
        omega (arith, first, last),
        and_from (part_draws (is_within n c) p) (parts_draw (is_within n c) ps) (part_more (is_within n t.0) (is_within n c) (within_wider n n t.0 c (omega arith) last) p h.1)
            (parts_more (is_within t.0 c) (is_within n c) (within_wider n t.0 c c first (omega arith)) ps g.1),
      )
