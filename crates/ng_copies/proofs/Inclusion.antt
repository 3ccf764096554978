-- A template in an element: its sites and outlets are numbered in document order, and nothing is drawn from the sites of its outlets.
use Rattle.std.proofs.Common.{◌≡◌, ◌<◌, ◌≤◌, ◌+◌, ℕ, suc, Bool, true, false, cond, List, [], ◌∷◌, ◌++◌, map, length, Option, None, Some, refl, ap, sym, subst, ◌∙◌, length-append, arith}
use Rattle.std.proofs.lemmas.Bool.{and_parts, and_from, leb-true, le-leb, ltb-true, lt-ltb, eqb-true, eq-eqb, true≢false}
use Rattle.std.proofs.lemmas.List.{map-append}
use Rattle.std.specs.List.{flat_map, list_all}
use Rattle.std.specs.Option.{option_map_or}
use Rattle.std.specs.Prelude.{◌&&◌, ◌==◌, not, nat_le, nat_lt, option_map, option_and_then, IfSome}
use Rattle.ng_drawing.specs.Included.{later, later_piece, later_pieces, later_hiding, later_class, later_value, later_attributes, later_source, later_binding, later_uses, later_acts, later_part, later_contents, later_parts, later_outlet, Opened, opened, filled_with, included_in, included}
use Rattle.ng_drawing.specs.Template.{Piece, word, hole, Source, of_text, of_nothing, one_way, two_way, of_call, Binding, Uses, Hiding, while_true, while_false, PartClass, PartValue, always, unless_empty, flag, classes, PartAttributes, Part, Contents, Parts, text_part, comment_part, element_part, anchor_part, children, bound, no_parts, part_then, Outlet, Fragment}
use Rattle.ng_drawing.specs.Numbering.{after_pieces, after_own, hole_numbers, source_numbers, bound_numbers, after_contents, after_part, after_parts, is_within, is_apart, is_piece_drawn, is_hiding_drawn, is_class_drawn, is_value_drawn, are_drawn, part_draws, contents_draw, parts_draw, outlets_of_part, outlets_of_contents, after_outlets, is_number, is_body, is_outlet, is_undrawn, are_outlets, are_undrawn, is_numbered, is_whole, HasOrder}
use Rattle.ng_parts.proofs.Within.{apart_make}
use Rattle.ng_parts.proofs.More.{all_more, attributes_more}
use Rattle.ng_parts.proofs.Ranges.{own_rise, own_within}
use Rattle.ng_parts.proofs.WholeFrom.{whole_from}

-- what is asked for where a test holds was had there
had : {A : Type 0} (b : Bool) (o : Option A) (x : A) → cond b o None ≡ Some x → (b ≡ true) × (o ≡ Some x)
had true o x e = (refl, e)
had false o x e = absurd (cc)

-- what came after a first answer
pub had_then : {A B : Type 0} (o : Option A) (f : A → Option B) (y : B) → option_and_then f o ≡ Some y → (x : A) × (o ≡ Some x) × (f x ≡ Some y)
had_then None f y e = absurd (cc)
had_then (Some x) f y e = (x, refl, e)

same_then : {A B : Type 0} (f g : A → Option B) → ((x : A) → f x ≡ g x) → (o : Option A) → option_and_then f o ≡ option_and_then g o
same_then f g same None = refl
same_then f g same (Some x) = same x

is_that : (n : ℕ) (o : Option ℕ) → is_number n o ≡ true → o ≡ Some n
is_that n None e = absurd (cc)
is_that n (Some k) e = ap Some (eqb-true k n e)

-- what holds of all holds of all that they come to
all_come : {A B : Type 0} (p : A → Bool) (q : B → Bool) (f : A → B) → ((x : A) → p x ≡ true → q (f x) ≡ true) → (xs : List A) → list_all p xs ≡ true → list_all q (map f xs) ≡ true
all_come p q f go [] e = refl
all_come p q f go (x ∷ xs) e = let h = and_parts (p x) (list_all p xs) e in and_from (q (f x)) (list_all q (map f xs)) (go x h.0) (all_come p q f go xs h.1)

-- the numbers of bindings
module _ (by : ℕ) where
  holes_later : (ps : List Piece) → hole_numbers (later_pieces by ps) ≡ later by (hole_numbers ps)
  holes_later [] = refl
  holes_later (word w ∷ ps) = holes_later ps
  holes_later (hole k ∷ ps) = ap (λ (ks : List ℕ). (by + k) ∷ ks) (holes_later ps)

  source_later : (x : Source) → source_numbers (later_source by x) ≡ later by (source_numbers x)
  source_later (of_text ps) = holes_later ps
  source_later of_nothing = refl
  source_later (one_way k) = refl
  source_later (two_way k w) = refl
  source_later (of_call p) = refl

  all_later : (bs : List Binding) → flat_map (λ (b : Binding). source_numbers b.source) (map (later_binding by) bs) ≡ later by (flat_map (λ (b : Binding). source_numbers b.source) bs)
  all_later [] = refl
  all_later (b ∷ bs) =
      let rest : List ℕ = flat_map (λ (x : Binding). source_numbers x.source) (map (later_binding by) bs) in
      ap (λ (ks : List ℕ). ks ++ rest) (source_later b.source)
      ∙ (ap (λ (ks : List ℕ). later by (source_numbers b.source) ++ ks) (all_later bs)
      ∙ sym (map-append (λ k. by + k) (source_numbers b.source) (flat_map (λ (x : Binding). source_numbers x.source) bs)))

  bound_later : (u : Option Uses) → option_map_or (λ (v : Uses). flat_map (λ (b : Binding). source_numbers b.source) v.bindings) (option_map (later_uses by) u) [] ≡ later by (option_map_or (λ (v : Uses). flat_map (λ (b : Binding). source_numbers b.source) v.bindings) u [])
  bound_later None = refl
  bound_later (Some u) = all_later u.bindings

-- what is drawn from some sites is drawn from others once it comes after so many
module _ (by : ℕ) (p q : ℕ → Bool) (go : (k : ℕ) → p k ≡ true → q (by + k) ≡ true) where
  piece_come : (x : Piece) → is_piece_drawn p x ≡ true → is_piece_drawn q (later_piece by x) ≡ true
  piece_come (word w) e = refl
  piece_come (hole k) e = go k e

  pieces_come : (ps : List Piece) → list_all (is_piece_drawn p) ps ≡ true → list_all (is_piece_drawn q) (later_pieces by ps) ≡ true
  pieces_come ps e = all_come (is_piece_drawn p) (is_piece_drawn q) (later_piece by) piece_come ps e

  hiding_come : (x : Hiding) → is_hiding_drawn p x ≡ true → is_hiding_drawn q (later_hiding by x) ≡ true
  hiding_come (while_true k) e = go k e
  hiding_come (while_false k) e = go k e

  class_come : (c : PartClass) → is_class_drawn p c ≡ true → is_class_drawn q (later_class by c) ≡ true
  class_come c e =
      let h = and_parts (list_all (is_piece_drawn p) c.pieces) (list_all p c.words && list_all (is_hiding_drawn p) c.hidings) e in
      let g = and_parts (list_all p c.words) (list_all (is_hiding_drawn p) c.hidings) h.1 in
      and_from (list_all (is_piece_drawn q) (later_pieces by c.pieces)) (list_all q (later by c.words) && list_all (is_hiding_drawn q) (map (later_hiding by) c.hidings)) (pieces_come c.pieces h.0)
      (and_from (list_all q (later by c.words)) (list_all (is_hiding_drawn q) (map (later_hiding by) c.hidings)) (all_come p q (λ k. by + k) go c.words g.0)
      (all_come (is_hiding_drawn p) (is_hiding_drawn q) (later_hiding by) hiding_come c.hidings g.1))

  value_come : (v : PartValue) → is_value_drawn p v ≡ true → is_value_drawn q (later_value by v) ≡ true
  value_come (always ps) e = pieces_come ps e
  value_come (unless_empty ps) e = pieces_come ps e
  value_come (flag w k) e = go k e
  value_come (classes c) e = class_come c e

  attributes_come : (ats : PartAttributes) → are_drawn p ats ≡ true → are_drawn q (later_attributes by ats) ≡ true
  attributes_come ats e = all_come (λ a. is_value_drawn p a.1) (λ a. is_value_drawn q a.1) (λ a. (a.0, later_value by a.1)) (λ a. value_come a.1) ats e

  mutual
    part_come : (x : Part) → part_draws p x ≡ true → part_draws q (later_part by x) ≡ true
    part_come (text_part ps) e = pieces_come ps e
    part_come (comment_part t) e = refl
    part_come (element_part name own acts ats c) e =
        let b = and_parts (list_all p (bound_numbers acts)) (are_drawn p ats && contents_draw p c) e in
        let h = and_parts (are_drawn p ats) (contents_draw p c) b.1 in
        and_from (list_all q (bound_numbers (later_acts by acts))) (are_drawn q (later_attributes by ats) && contents_draw q (later_contents by c))
        (ap (list_all q) (bound_later by acts.uses) ∙ all_come p q (λ k. by + k) go (bound_numbers acts) b.0)
        (and_from (are_drawn q (later_attributes by ats)) (contents_draw q (later_contents by c)) (attributes_come ats h.0) (contents_come c h.1))
    part_come (anchor_part outlet own starts) e = refl

    contents_come : (c : Contents) → contents_draw p c ≡ true → contents_draw q (later_contents by c) ≡ true
    contents_come (children ps) e = parts_come ps e
    contents_come (bound b) e = go b e

    parts_come : (ps : Parts) → parts_draw p ps ≡ true → parts_draw q (later_parts by ps) ≡ true
    parts_come no_parts e = refl
    parts_come (part_then x ps) e =
        let h = and_parts (part_draws p x) (parts_draw p ps) e in
        and_from (part_draws q (later_part by x)) (parts_draw q (later_parts by ps)) (part_come x h.0) (parts_come ps h.1)

-- the numbers of sites
module _ (by : ℕ) where
  within_come : (n c k m d : ℕ) → m ≡ by + n → d ≡ by + c → is_within n c k ≡ true → is_within m d (by + k) ≡ true
  within_come n c k m d from to e =
      let h = and_parts (nat_le n k) (nat_lt k c) e in
      let low : n ≤ k = leb-true n k h.0 in
      let high : k < c = ltb-true k c h.1 in
      and_from (nat_le m (by + k)) (nat_lt (by + k) d) (le-leb m (by + k) (omega (arith, low, from))) (lt-ltb (by + k) d (omega (arith, high, to)))

  -- a number that comes after is apart from what comes after
  apart_come : (b n c k m d : ℕ) → m ≤ by + n → d ≡ by + c → is_apart b n c k ≡ true → is_apart (by + b) m d (by + k) ≡ true
  apart_come b n c k m d from to e =
      let h = and_parts (is_within n c k) (not (k == b)) e in
      let g = and_parts (nat_le n k) (nat_lt k c) h.0 in
      let low : n ≤ k = leb-true n k g.0 in
      let high : k < c = ltb-true k c g.1 in
      apart_make m d (by + b) (by + k) (omega (arith, low, from)) (omega (arith, high, to))
      (λ same. let at : (k == b) ≡ true = eq-eqb k b (omega (arith, same)) in let off : not (k == b) ≡ false = ap not at in true≢false (sym h.1 ∙ off))

  pieces_after : (n k c : ℕ) (ps : List Piece) → k ≡ by + n → after_pieces n ps ≡ Some c → after_pieces k (later_pieces by ps) ≡ Some (by + c)
  pieces_after n k c [] from e = let same : n ≡ c = cc in ap Some (omega (arith, from, same))
  pieces_after n k c (word w ∷ ps) from e = pieces_after n k c ps from e
  pieces_after n k c (hole j ∷ ps) from e =
      let h = had (j == n) (after_pieces (n + 1) ps) c e in
      let at : j ≡ n = eqb-true j n h.0 in
      ap (λ b. cond b (after_pieces (k + 1) (later_pieces by ps)) None) (eq-eqb (by + j) k (omega (arith, at, from))) ∙ pieces_after (n + 1) (k + 1) c ps (omega (arith, from)) h.1

  own_after : (n k c : ℕ) (own : List ℕ) → k ≡ by + n → after_own n own ≡ Some c → after_own k (later by own) ≡ Some (by + c)
  own_after n k c [] from e = let same : n ≡ c = cc in ap Some (omega (arith, from, same))
  own_after n k c (j ∷ js) from e =
      let h = had (j == n) (after_own (n + 1) js) c e in
      let at : j ≡ n = eqb-true j n h.0 in
      ap (λ b. cond b (after_own (k + 1) (later by js)) None) (eq-eqb (by + j) k (omega (arith, at, from))) ∙ own_after (n + 1) (k + 1) c js (omega (arith, from)) h.1

  mutual
    part_after : (n k c : ℕ) (x : Part) → k ≡ by + n → after_part n x ≡ Some c → after_part k (later_part by x) ≡ Some (by + c)
    part_after n k c (text_part ps) from e = pieces_after n k c ps from e
    part_after n k c (comment_part t) from e = let same : n ≡ c = cc in ap Some (omega (arith, from, same))
    part_after n k c (element_part name own acts ats p) from e =
        let b = had_then (after_own n (bound_numbers acts)) (λ j. option_and_then (λ d. after_contents j d ats p) (after_own j own)) c e in
        let h = had_then (after_own b.0 own) (λ d. after_contents b.0 d ats p) c b.2 in
        let go : ℕ → Option ℕ = λ j. option_and_then (λ d. after_contents j d (later_attributes by ats) (later_contents by p)) (after_own j (later by own)) in
        ap (λ (ns : List ℕ). option_and_then go (after_own k ns)) (bound_later by acts.uses)
        ∙ (ap (option_and_then go) (own_after n k b.0 (bound_numbers acts) from b.1)
        ∙ (ap (option_and_then (λ d. after_contents (by + b.0) d (later_attributes by ats) (later_contents by p))) (own_after b.0 (by + b.0) h.0 own refl h.1)
        ∙ contents_after b.0 (by + b.0) h.0 c ats p refl h.2))
    part_after n k c (anchor_part outlet own starts) from e = own_after n k c own from e

    contents_after : (n k d c : ℕ) (ats : PartAttributes) (p : Contents) → k ≡ by + n → after_contents n d ats p ≡ Some c → after_contents k (by + d) (later_attributes by ats) (later_contents by p) ≡ Some (by + c)
    contents_after n k d c ats (children ps) from e =
        let h = had (are_drawn (is_within n d) ats) (after_parts d ps) c e in
        ap (λ b. cond b (after_parts (by + d) (later_parts by ps)) None) (attributes_come by (is_within n d) (is_within k (by + d)) (λ j. within_come n d j k (by + d) from refl) ats h.0)
        ∙ parts_after d (by + d) c ps refl h.1
    contents_after n k d c ats (bound b) from e =
        let h = had (is_within n d b && are_drawn (is_apart b n d) ats) (Some d) c e in
        let g = and_parts (is_within n d b) (are_drawn (is_apart b n d) ats) h.0 in
        let same : d ≡ c = let two : Some d ≡ Some c = h.1 in cc in
        ap (λ x. cond x (Some (by + d)) None)
        (and_from (is_within k (by + d) (by + b)) (are_drawn (is_apart (by + b) k (by + d)) (later_attributes by ats)) (within_come n d b k (by + d) from refl g.0)
        (attributes_come by (is_apart b n d) (is_apart (by + b) k (by + d)) (λ j. apart_come b n d j k (by + d) (omega (arith, from)) refl) ats g.1))
        ∙ ap (λ x. Some (by + x)) same

    parts_after : (n k c : ℕ) (ps : Parts) → k ≡ by + n → after_parts n ps ≡ Some c → after_parts k (later_parts by ps) ≡ Some (by + c)
    parts_after n k c no_parts from e = let same : n ≡ c = cc in ap Some (omega (arith, from, same))
    parts_after n k c (part_then x ps) from e =
        let h = had_then (after_part n x) (λ d. after_parts d ps) c e in
        ap (option_and_then (λ d. after_parts d (later_parts by ps))) (part_after n k h.0 x from h.1) ∙ parts_after h.0 (by + h.0) c ps refl h.2

  -- the numbers of outlets stay
  mutual
    part_outlets : (n : ℕ) (x : Part) → outlets_of_part n (later_part by x) ≡ outlets_of_part n x
    part_outlets n (text_part ps) = refl
    part_outlets n (comment_part t) = refl
    part_outlets n (element_part name own acts ats p) = contents_outlets n p
    part_outlets n (anchor_part outlet own starts) = refl

    contents_outlets : (n : ℕ) (p : Contents) → outlets_of_contents n (later_contents by p) ≡ outlets_of_contents n p
    contents_outlets n (children ps) = parts_outlets n ps
    contents_outlets n (bound b) = refl

    parts_outlets : (n : ℕ) (ps : Parts) → after_outlets n (later_parts by ps) ≡ after_outlets n ps
    parts_outlets n no_parts = refl
    parts_outlets n (part_then x ps) =
        ap (option_and_then (λ k. after_outlets k (later_parts by ps))) (part_outlets n x)
        ∙ same_then (λ k. after_outlets k (later_parts by ps)) (λ k. after_outlets k ps) (λ k. parts_outlets k ps) (outlets_of_part n x)

-- an element without children, where it is all that there is
opened_is : (ps : Parts) (e : Opened) → opened ps ≡ Some e → ps ≡ filled_with e no_parts
opened_is no_parts e h = absurd (cc)
opened_is (part_then x (part_then y ps)) e h = absurd (cc)
opened_is (part_then (text_part t) no_parts) e h = absurd (cc)
opened_is (part_then (comment_part t) no_parts) e h = absurd (cc)
opened_is (part_then (anchor_part outlet own starts) no_parts) e h = absurd (cc)
opened_is (part_then (element_part name own acts ats (bound b)) no_parts) e h = absurd (cc)
opened_is (part_then (element_part name own acts ats (children (part_then x xs))) no_parts) e h = absurd (cc)
opened_is (part_then (element_part name own acts ats (children no_parts)) no_parts) e h =
    let same : record { name = name; own = own; acts = acts; attributes = ats } ≡ e = cc in
    ap (λ (x : Opened). filled_with x no_parts) same

module _ (bodies others : ℕ) (f g : Fragment) (first : is_whole bodies f ≡ true) (second : is_whole others g ≡ true) where
  abbrev by : ℕ
  by = length f.sites

  abbrev count : ℕ
  count = length g.sites

  first_numbered : after_parts 0 f.parts ≡ Some by
  first_numbered =
      let h = and_parts (is_numbered f) (are_outlets bodies f && are_undrawn f) first in
      is_that by (after_parts 0 f.parts) (and_parts (is_number by (after_parts 0 f.parts)) (is_number (length f.outlets) (after_outlets 0 f.parts)) h.0).0

  second_parts : (is_numbered g ≡ true) × ((are_outlets others g && are_undrawn g) ≡ true)
  second_parts = and_parts (is_numbered g) (are_outlets others g && are_undrawn g) second

  second_counts : (is_number count (after_parts 0 g.parts) ≡ true) × (is_number (length g.outlets) (after_outlets 0 g.parts) ≡ true)
  second_counts = and_parts (is_number count (after_parts 0 g.parts)) (is_number (length g.outlets) (after_outlets 0 g.parts)) second_parts.0

  second_rest : (are_outlets others g ≡ true) × (are_undrawn g ≡ true)
  second_rest = and_parts (are_outlets others g) (are_undrawn g) second_parts.1

  module _ (e : Opened) (is : opened f.parts ≡ Some e) where
    abbrev made : Fragment
    made = included_in (Some e) f g

    size : length made.sites ≡ by + count
    size = length-append f.sites g.sites

    -- the element's own sites are all that there are
    own_first : (n : ℕ) × (after_own 0 (bound_numbers e.acts) ≡ Some n) × (after_own n e.own ≡ Some by) × (are_drawn (is_within n by) e.attributes ≡ true)
    own_first =
        let alone : after_parts 0 (filled_with e no_parts) ≡ Some by = ap (after_parts 0) (sym (opened_is f.parts e is)) ∙ first_numbered in
        let h = had_then (after_part 0 (element_part e.name e.own e.acts e.attributes (children no_parts))) (λ k. after_parts k no_parts) by alone in
        let b = had_then (after_own 0 (bound_numbers e.acts)) (λ j. option_and_then (λ d. after_contents j d e.attributes (children no_parts)) (after_own j e.own)) h.0 h.1 in
        let k = had_then (after_own b.0 e.own) (λ d. after_contents b.0 d e.attributes (children no_parts)) h.0 b.2 in
        let t = had (are_drawn (is_within b.0 k.0) e.attributes) (Some k.0) h.0 k.2 in
        let last : h.0 ≡ by = let two : Some h.0 ≡ Some by = h.2 in cc in
        let own : k.0 ≡ h.0 = let two : Some k.0 ≡ Some h.0 = t.1 in cc in
        (b.0, b.1, k.1 ∙ ap Some (own ∙ last), subst (λ (n : ℕ). are_drawn (is_within b.0 n) e.attributes ≡ true) (own ∙ last) t.0)

    sites_made : after_parts 0 made.parts ≡ Some (length made.sites)
    sites_made =
        let kids : Contents = children (later_parts by g.parts) in
        ap (λ (o : Option ℕ). option_and_then (λ k. after_parts k no_parts) (option_and_then (λ j. option_and_then (λ d. after_contents j d e.attributes kids) (after_own j e.own)) o)) own_first.1
        ∙ (ap (λ (o : Option ℕ). option_and_then (λ k. after_parts k no_parts) (option_and_then (λ d. after_contents own_first.0 d e.attributes kids) o)) own_first.2
        ∙ (ap (λ b. option_and_then (λ k. after_parts k no_parts) (cond b (after_parts by (later_parts by g.parts)) None)) own_first.3
        ∙ (ap (option_and_then (λ k. after_parts k no_parts)) (parts_after by 0 by count g.parts (omega arith) (is_that count (after_parts 0 g.parts) second_counts.0))
        ∙ ap Some (sym size))))

    outlets_made : after_outlets 0 made.parts ≡ Some (length made.outlets)
    outlets_made =
        ap (option_and_then (λ k. after_outlets k no_parts)) (parts_outlets by 0 g.parts ∙ is_that (length g.outlets) (after_outlets 0 g.parts) second_counts.1)
        ∙ ap Some (as_many g.outlets)
      where
        as_many : (os : List Outlet) → length os ≡ length (map (later_outlet by) os)
        as_many [] = refl
        as_many (o ∷ os) = ap suc (as_many os)

    outlet_made : (o : Outlet) → is_outlet count others o ≡ true → is_outlet (length made.sites) others (later_outlet by o) ≡ true
    outlet_made o h =
        let t = and_parts (nat_lt o.site count) (is_body others o.filling) h in
        let l : o.site < count = ltb-true o.site count t.0 in
        and_from (nat_lt (by + o.site) (length made.sites)) (is_body others o.filling) (lt-ltb (by + o.site) (length made.sites) (omega (arith, l, size))) t.1

    undrawn_made : (o : Outlet) → is_undrawn count g.parts o ≡ true → is_undrawn (length made.sites) made.parts (later_outlet by o) ≡ true
    undrawn_made o h =
        let test : ℕ → Bool = is_apart (by + o.site) 0 (length made.sites) in
        let own : are_drawn test e.attributes ≡ true = attributes_more (is_within own_first.0 by) test (λ k w. let t = and_parts (nat_le own_first.0 k) (nat_lt k by) w in let l : k < by = ltb-true k by t.1 in
        apart_make 0 (length made.sites) (by + o.site) k (omega arith) (omega (arith, l, size)) (λ same. omega (arith, same, l))) e.attributes own_first.3 in
        let inner : parts_draw test (later_parts by g.parts) ≡ true = parts_come by (is_apart o.site 0 count) test (λ k. apart_come by o.site 0 count k 0 (length made.sites) (omega arith) size) g.parts h in
        let n : ℕ = own_first.0 in
        let up : n ≤ by = own_rise n by e.own own_first.2 in
        let bindings : list_all test (bound_numbers e.acts) ≡ true = all_more (is_within 0 n) test (λ k w. let t = and_parts (nat_le 0 k) (nat_lt k n) w in let l : k < n = ltb-true k n t.1 in
        apart_make 0 (length made.sites) (by + o.site) k (omega arith) (omega (arith, l, up, size)) (λ same. omega (arith, same, l, up))) (bound_numbers e.acts) (own_within 0 n (bound_numbers e.acts) own_first.1) in
        and_from (list_all test (bound_numbers e.acts) && (are_drawn test e.attributes && parts_draw test (later_parts by g.parts))) true
        (and_from (list_all test (bound_numbers e.acts)) (are_drawn test e.attributes && parts_draw test (later_parts by g.parts)) bindings
        (and_from (are_drawn test e.attributes) (parts_draw test (later_parts by g.parts)) own inner)) refl

    made_whole : is_whole others made ≡ true
    made_whole =
        whole_from others made sites_made outlets_made (all_come (is_outlet count others) (is_outlet (length made.sites) others) (later_outlet by) outlet_made g.outlets second_rest.0)
        (all_come (is_undrawn count g.parts) (is_undrawn (length made.sites) made.parts) (later_outlet by) undrawn_made g.outlets second_rest.1)

  by_opened : (o : Option Opened) → opened f.parts ≡ o → is_whole others (included_in o f g) ≡ true
  by_opened None is = second
  by_opened (Some e) is = made_whole e is

  -- so a template in an element is numbered, and its outlets have the bodies of the template
  pub included_whole : is_whole others (included f g) ≡ true
  included_whole = by_opened (opened f.parts) refl

pub included_order : (f g : Fragment) → HasOrder f → HasOrder g → HasOrder (included f g)
included_order f g h k = (k.0, included_whole h.0 k.0 f g h.1 k.1)

-- what stands in place of what is no such element, and an element with the parts of a template
pub included_none : (f g : Fragment) → opened f.parts ≡ None → g ≡ included f g
included_none f g e = sym (ap (λ (o : Option Opened). included_in o f g) e)

pub included_made : (f g x : Fragment) (e : Opened) → opened f.parts ≡ Some e → x ≡ included_in (Some e) f g → x ≡ included f g
included_made f g x e is made = made ∙ sym (ap (λ (o : Option Opened). included_in o f g) is)

pub included_ordered : (f g x : Fragment) → x ≡ included f g → HasOrder f → HasOrder g → HasOrder x
included_ordered f g x e h k = subst HasOrder (sym e) (included_order f g h k)

pub seen_order : {X : Type 0} (seen : X → Fragment) (n : ℕ) (o : Option X) → IfSome o (λ x. is_whole n (seen x) ≡ true) → IfSome o (λ x. HasOrder (seen x))
seen_order seen n None h = tt
seen_order seen n (Some x) h = (n, h)
