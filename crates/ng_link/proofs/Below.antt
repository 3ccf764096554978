-- Sites that are numbered have numbers below the one after them.
use Rattle.std.proofs.Common.{◌≡◌, ◌≤◌, ◌<◌, ◌+◌, ℕ, Bool, true, false, List, [], ◌∷◌, Some, refl, arith}
use Rattle.std.specs.Prelude.{◌==◌, ◌&&◌, not, nat_le, nat_lt}
use Rattle.std.specs.List.{list_all}
use Rattle.std.proofs.lemmas.Bool.Decides.{nat_tests}
use Rattle.ng_drawing.specs.Template as template
use Rattle.ng_drawing.specs.Template.{word, hole, while_true, while_false, PartClass, PartValue, always, unless_empty, flag, classes, PartAttributes, Part, Contents, Parts, text_part, comment_part, element_part, anchor_part, children, bound, no_parts, part_then}
use Rattle.ng_drawing.specs.Numbering.{after_pieces, after_own, after_contents, after_part, after_parts, is_within, is_apart, is_piece_drawn, is_hiding_drawn, is_class_drawn, is_value_drawn, are_drawn}
use Rattle.ng_link.specs.Holes.{PiecesBelow, SitesBelow, HidingsBelow, ClassBelow, ValueBelow, ValuesBelow, PartBelow, ContentsBelow, HolesBelow}
use Rattle.ng_link.proofs.Numbers.{both_true, first_then, bound_then, next_own, next_hole, contents_children, contents_bound, counted_own, counted_contents, counted}

-- a number that is within bounds
pub within : (n c k : ℕ) → is_within n c k ≡ true → (n ≤ k) × (k < c)
within n c k e =
    let two = both_true (nat_le n k) (nat_lt k c) e in
    let from : nat_le n k ≡ true = two.0 in
    let to : nat_lt k c ≡ true = two.1 in
    (grind (arith, nat_tests), grind (arith, nat_tests))

pub apart : (b n c k : ℕ) → is_apart b n c k ≡ true → (is_within n c k ≡ true) × ((k == b) ≡ false)
apart b n c k e = let two = both_true (is_within n c k) (not (k == b)) e in (two.0, no (k == b) two.1)
  where
    no : (d : Bool) → not d ≡ true → d ≡ false
    no true g = absurd (cc)
    no false g = refl

-- what is drawn has numbers below a bound, where all that a test lets in are
module _ (b : ℕ) (test : ℕ → Bool) (under : (k : ℕ) → test k ≡ true → k < b) where
  drawn_pieces : (ps : List template.Piece) → list_all (is_piece_drawn test) ps ≡ true → PiecesBelow b ps
  drawn_pieces [] e = tt
  drawn_pieces (word w ∷ ps) e = (tt, drawn_pieces ps e)
  drawn_pieces (hole k ∷ ps) e = let two = both_true (test k) (list_all (is_piece_drawn test) ps) e in (under k two.0, drawn_pieces ps two.1)

  drawn_words : (ks : List ℕ) → list_all test ks ≡ true → SitesBelow b ks
  drawn_words [] e = tt
  drawn_words (k ∷ ks) e = let two = both_true (test k) (list_all test ks) e in (under k two.0, drawn_words ks two.1)

  drawn_hidings : (hs : List template.Hiding) → list_all (is_hiding_drawn test) hs ≡ true → HidingsBelow b hs
  drawn_hidings [] e = tt
  drawn_hidings (while_true k ∷ hs) e = let two = both_true (test k) (list_all (is_hiding_drawn test) hs) e in (under k two.0, drawn_hidings hs two.1)
  drawn_hidings (while_false k ∷ hs) e = let two = both_true (test k) (list_all (is_hiding_drawn test) hs) e in (under k two.0, drawn_hidings hs two.1)

  drawn_class : (p : PartClass) → is_class_drawn test p ≡ true → ClassBelow b p
  drawn_class p e =
      let two = both_true (list_all (is_piece_drawn test) p.pieces) (list_all test p.words && list_all (is_hiding_drawn test) p.hidings) e in
      let three = both_true (list_all test p.words) (list_all (is_hiding_drawn test) p.hidings) two.1 in
      (drawn_pieces p.pieces two.0, drawn_words p.words three.0, drawn_hidings p.hidings three.1)

  drawn_value : (x : PartValue) → is_value_drawn test x ≡ true → ValueBelow b x
  drawn_value (always ps) e = drawn_pieces ps e
  drawn_value (unless_empty ps) e = drawn_pieces ps e
  drawn_value (flag w k) e = under k e
  drawn_value (classes p) e = drawn_class p e

  drawn_values : (ats : PartAttributes) → are_drawn test ats ≡ true → ValuesBelow b ats
  drawn_values [] e = tt
  drawn_values (a ∷ ats) e = let two = both_true (is_value_drawn test a.1) (are_drawn test ats) e in (drawn_value a.1 two.0, drawn_values ats two.1)

pieces_below : (n c b : ℕ) (ps : List template.Piece) → after_pieces n ps ≡ Some c → c ≤ b → (n ≤ c) × PiecesBelow b ps
pieces_below n c b [] e le = let same : n ≡ c = cc in (omega (arith, same), tt)
pieces_below n c b (word w ∷ ps) e le = let more = pieces_below n c b ps e le in (more.0, (tt, more.1))
pieces_below n c b (hole k ∷ ps) e le =
    let h = next_hole n k ps c e in
    let more = pieces_below (n + 1) c b ps h.1 le in
    (omega (arith, more.0), (omega (arith, h.0, more.0, le), more.1))

own_below : (n c b : ℕ) (own : List ℕ) → after_own n own ≡ Some c → c ≤ b → SitesBelow b own
own_below n c b [] e le = tt
own_below n c b (k ∷ ks) e le =
    let h = next_own n k ks c e in
    let more = counted_own (n + 1) c ks h.1 in
    (omega (arith, h.0, more, le), own_below (n + 1) c b ks h.1 le)

mutual
  part_below : (n c b : ℕ) (p : Part) → after_part n p ≡ Some c → c ≤ b → PartBelow b p
  part_below n c b (text_part ps) e le = (pieces_below n c b ps e le).1
  part_below n c b (comment_part t) e le = tt
  part_below n c b (element_part t own acts ats p) e le =
      let z = bound_then n own acts ats p c e in
      let h = first_then (after_own z.0 own) (λ d. after_contents z.0 d ats p) c z.2 in
      let last = counted_contents z.0 h.0 0 c ats p h.2 in
      let more = contents_below z.0 h.0 c b ats p h.2 le in
      (own_below z.0 h.0 b own h.1 (omega (arith, last, le)), more.0, more.1)
  part_below n c b (anchor_part outlet own starts) e le = own_below n c b own e le

  contents_below : (n d c b : ℕ) (ats : PartAttributes) (p : Contents) → after_contents n d ats p ≡ Some c → c ≤ b → ValuesBelow b ats × ContentsBelow b p
  contents_below n d c b ats (children ps) e le =
      let h = contents_children n d c ats ps e in
      let last = counted d 0 c ps h.1 in
      (drawn_values b (is_within n d) (λ k g. let lt = (within n d k g).1 in omega (arith, last, lt, le)) ats h.0, parts_below d c b ps h.1 le)
  contents_below n d c b ats (bound x) e le =
      let h = contents_bound n d c ats x e in
      let lt = (within n d x h.0).1 in
      (drawn_values b (is_apart x n d) (λ k g. let to = (within n d k (apart x n d k g).0).1 in omega (arith, h.2, to, le)) ats h.1, omega (arith, h.2, lt, le))

  pub parts_below : (n c b : ℕ) (ps : Parts) → after_parts n ps ≡ Some c → c ≤ b → HolesBelow b ps
  parts_below n c b no_parts e le = tt
  parts_below n c b (part_then p ps) e le =
      let h = first_then (after_part n p) (λ k. after_parts k ps) c e in
      let rest = counted h.0 0 c ps h.2 in
      (part_below n h.0 b p h.1 (omega (arith, rest, le)), parts_below h.0 c b ps h.2 le)

-- the sites of a fragment have numbers below their count
pub all_below : (count : ℕ) (ps : Parts) → after_parts 0 ps ≡ Some count → HolesBelow count ps
all_below count ps e = parts_below 0 count count ps e (omega arith)
