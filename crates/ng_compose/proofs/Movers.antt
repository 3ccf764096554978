-- The numbers that sites of a region got, and what is numbered by them.
use Rattle.std.proofs.Common.{◌≡◌, ◌<◌, ◌≤◌, ◌+◌, ◌-◌, ℕ, zero, suc, Bool, true, false, cond, List, [], ◌∷◌, ◌++◌, map, length, replicate, Option, None, Some, refl, ap, sym, ◌∙◌, length-append, arith, eqb-true}
use Rattle.std.proofs.lemmas.Bool.{and_parts, and_from, eq-eqb}
use Rattle.std.proofs.lemmas.List.{length-replicate, map-append}
use Rattle.std.specs.List.{flat_map, list_all, list_any}
use Rattle.std.specs.Prelude.{◌==◌, ◌&&◌, ◌||◌, not, option_and_then, slice_get, unwrap_or}
use Rattle.ng_drawing.specs.Template.{Piece, word, hole, PartAttributes, Source, of_text, of_nothing, one_way, two_way, of_call, Binding, Uses, Acts, Scopes, Part, Contents, Parts, text_part, comment_part, element_part, anchor_part, children, bound, no_parts, part_then}
use Rattle.ng_drawing.specs.Moved.{found_in, moved_by, moved_piece, moved_source, moved_binding, composed_acts}
use Rattle.ng_drawing.specs.Composing.{padded}
use Rattle.ng_drawing.specs.Numbering.{after_pieces, after_own, after_part, after_contents, after_parts, is_within, is_apart, is_piece_drawn, are_drawn, hole_numbers, source_numbers, bound_numbers}
use Rattle.ng_parts.proofs.Within.{within_from}
use Rattle.ng_parts.proofs.More.{attributes_more}

-- what is asked for where a test holds was had
pub had : {A : Type 0} (b : Bool) (o : Option A) (x : A) → cond b o None ≡ Some x → (b ≡ true) × (o ≡ Some x)
had true o x e = (refl, e)
had false o x e = absurd (cc)

-- what came after a first answer
pub had_then : {A B : Type 0} (o : Option A) (f : A → Option B) (y : B) → option_and_then f o ≡ Some y → (x : A) × (o ≡ Some x) × (f x ≡ Some y)
had_then None f y e = absurd (cc)
had_then (Some x) f y e = (x, refl, e)

pub got : {X : Type 0} (xs : List X) (i : ℕ) → i < length xs → (x : X) × (slice_get xs i ≡ Some x)
got [] i l = absurd (omega (arith, l))
got (x ∷ xs) zero l = (x, refl)
got (x ∷ xs) (suc i) l = got xs i (omega (arith, l))

pub own_rise : (n c : ℕ) (own : List ℕ) → after_own n own ≡ Some c → n ≤ c
own_rise n c [] e = let same : n ≡ c = cc in omega (arith, same)
own_rise n c (k ∷ ks) e = let h = own_rise (n + 1) c ks (had (k == n) (after_own (n + 1) ks) c e).1 in omega (arith, h)

pieces_rise : (n c : ℕ) (ps : List Piece) → after_pieces n ps ≡ Some c → n ≤ c
pieces_rise n c [] e = let same : n ≡ c = cc in omega (arith, same)
pieces_rise n c (word w ∷ ps) e = pieces_rise n c ps e
pieces_rise n c (hole k ∷ ps) e = let h = pieces_rise (n + 1) c ps (had (k == n) (after_pieces (n + 1) ps) c e).1 in omega (arith, h)

mutual
  part_rise : (n c : ℕ) (p : Part) → after_part n p ≡ Some c → n ≤ c
  part_rise n c (text_part ps) e = pieces_rise n c ps e
  part_rise n c (comment_part t) e = let same : n ≡ c = cc in omega (arith, same)
  part_rise n c (element_part name own acts ats p) e =
      let h = had_then (after_own n (bound_numbers acts)) (λ k. option_and_then (λ d. after_contents k d ats p) (after_own k own)) c e in
      let g = had_then (after_own h.0 own) (λ d. after_contents h.0 d ats p) c h.2 in
      let a = own_rise n h.0 (bound_numbers acts) h.1 in
      let b = own_rise h.0 g.0 own g.1 in
      let d = contents_rise h.0 g.0 c ats p g.2 in
      omega (arith, a, b, d)
  part_rise n c (anchor_part outlet own starts) e = own_rise n c own e

  pub contents_rise : (n c d : ℕ) (ats : PartAttributes) (p : Contents) → after_contents n c ats p ≡ Some d → c ≤ d
  contents_rise n c d ats (children ps) e = parts_rise c d ps (had (are_drawn (is_within n c) ats) (after_parts c ps) d e).1
  contents_rise n c d ats (bound b) e =
      let t = had (is_within n c b && are_drawn (is_apart b n c) ats) (Some c) d e in
      let same : c ≡ d = let two : Some c ≡ Some d = t.1 in cc in
      omega (arith, same)

  pub parts_rise : (n c : ℕ) (ps : Parts) → after_parts n ps ≡ Some c → n ≤ c
  parts_rise n c no_parts e = let same : n ≡ c = cc in omega (arith, same)
  parts_rise n c (part_then p ps) e =
      let h = had_then (after_part n p) (λ k. after_parts k ps) c e in
      let a = part_rise n h.0 p h.1 in
      let b = parts_rise h.0 c ps h.2 in
      omega (arith, a, b)

-- the attributes of an element are drawn from its own sites
pub contents_drawn : (n c d : ℕ) (ats : PartAttributes) (p : Contents) → after_contents n c ats p ≡ Some d → are_drawn (is_within n c) ats ≡ true
contents_drawn n c d ats (children ps) e = (had (are_drawn (is_within n c) ats) (after_parts c ps) d e).0
contents_drawn n c d ats (bound b) e =
    let t = had (is_within n c b && are_drawn (is_apart b n c) ats) (Some c) d e in
    let g = and_parts (is_within n c b) (are_drawn (is_apart b n c) ats) t.0 in
    attributes_more (is_apart b n c) (is_within n c) (λ k h. (and_parts (is_within n c k) (not (k == b)) h).0) ats g.1

-- a text has holes of these numbers alone
pub pieces_within : (a n c : ℕ) (ps : List Piece) → a ≤ n → after_pieces n ps ≡ Some c → list_all (is_piece_drawn (is_within a c)) ps ≡ true
pieces_within a n c [] l e = refl
pieces_within a n c (word w ∷ ps) l e = pieces_within a n c ps l e
pieces_within a n c (hole k ∷ ps) l e =
    let h = had (k == n) (after_pieces (n + 1) ps) c e in
    let at : k ≡ n = eqb-true k n h.0 in
    let rise = pieces_rise (n + 1) c ps h.1 in
    and_from (is_within a c k) (list_all (is_piece_drawn (is_within a c)) ps) (within_from a c k (omega (arith, at, l)) (omega (arith, at, rise))) (pieces_within a (n + 1) c ps (omega (arith, l)) h.1)

-- an element's own numbers are these alone
pub own_within : (a n c : ℕ) (own : List ℕ) → a ≤ n → after_own n own ≡ Some c → list_all (is_within a c) own ≡ true
own_within a n c [] l e = refl
own_within a n c (k ∷ ks) l e =
    let h = had (k == n) (after_own (n + 1) ks) c e in
    let at : k ≡ n = eqb-true k n h.0 in
    let rise = own_rise (n + 1) c ks h.1 in
    and_from (is_within a c k) (list_all (is_within a c) ks) (within_from a c k (omega (arith, at, l)) (omega (arith, at, rise))) (own_within a (n + 1) c ks (omega (arith, l)) h.1)

-- which numbers an element's own are
member_by : (n c j k : ℕ) (ks : List ℕ) → k ≡ n → after_own (n + 1) ks ≡ Some c → (list_any (λ i. i == j) ks ≡ true → (n + 1 ≤ j) × (j < c)) → (b : Bool) → (k == j) ≡ b → (b || list_any (λ i. i == j) ks) ≡ true → (n ≤ j) × (j < c)
member_by n c j k ks at e go true is h = let same : k ≡ j = eqb-true k j is in let rise = own_rise (n + 1) c ks e in (omega (arith, at, same), omega (arith, at, same, rise))
member_by n c j k ks at e go false is h = let g = go h in let low = g.0 in (omega (arith, low), g.1)

pub own_member : (n c j : ℕ) (own : List ℕ) → after_own n own ≡ Some c → list_any (λ k. k == j) own ≡ true → (n ≤ j) × (j < c)
own_member n c j [] e h = absurd (cc)
own_member n c j (k ∷ ks) e h =
    let t = had (k == n) (after_own (n + 1) ks) c e in
    member_by n c j k ks (eqb-true k n t.0) t.1 (λ g. own_member (n + 1) c j ks t.1 g) (k == j) refl h

-- a number more, after some that were passed over
abbrev after_gap : ℕ → List (Option ℕ) → ℕ → List (Option ℕ)
after_gap k ns s = (ns ++ replicate k None) ++ Some s ∷ []

gap_last : (k : ℕ) (ns : List (Option ℕ)) (s j : ℕ) → j ≡ length ns + k → found_in (after_gap k ns s) j ≡ Some s
gap_last zero [] s zero e = refl
gap_last zero [] s (suc j) e = absurd (omega (arith, e))
gap_last (suc k) [] s zero e = absurd (omega (arith, e))
gap_last (suc k) [] s (suc j) e = gap_last k [] s j (omega (arith, e))
gap_last k (x ∷ xs) s zero e = absurd (omega (arith, e))
gap_last k (x ∷ xs) s (suc j) e = gap_last k xs s j (omega (arith, e))

gap_old : (k : ℕ) (ns : List (Option ℕ)) (s j m : ℕ) → found_in ns j ≡ Some m → found_in (after_gap k ns s) j ≡ Some m
gap_old k [] s zero m e = absurd (cc)
gap_old k [] s (suc j) m e = absurd (cc)
gap_old k (x ∷ xs) s zero m e = e
gap_old k (x ∷ xs) s (suc j) m e = gap_old k xs s j m e

gap_cases : {C : Type 0} (k : ℕ) (ns : List (Option ℕ)) (s j m : ℕ) → (found_in ns j ≡ Some m → C) → (j ≡ length ns + k → m ≡ s → C) → found_in (after_gap k ns s) j ≡ Some m → C
gap_cases zero [] s zero m old new e = let same : m ≡ s = cc in new (omega arith) same
gap_cases zero [] s (suc j) m old new e = absurd (cc)
gap_cases (suc k) [] s zero m old new e = absurd (cc)
gap_cases (suc k) [] s (suc j) m old new e = gap_cases k [] s j m (λ h. absurd (cc)) (λ i h. new (omega (arith, i)) h) e
gap_cases k (x ∷ xs) s zero m old new e = old e
gap_cases k (x ∷ xs) s (suc j) m old new e = gap_cases k xs s j m old (λ i h. new (omega (arith, i)) h) e

abbrev pub numbered_next : ℕ → List (Option ℕ) → ℕ → List (Option ℕ)
numbered_next n ns s = padded n ns ++ Some s ∷ []

module _ (n : ℕ) (ns : List (Option ℕ)) (s : ℕ) (l : length ns ≤ n) where
  abbrev none : Option ℕ
  none = None

  place : n ≡ length ns + (n - length ns)
  place = omega (arith, l)

  pub next_last : found_in (numbered_next n ns s) n ≡ Some s
  next_last = gap_last (n - length ns) ns s n place

  pub next_old : (j m : ℕ) → found_in ns j ≡ Some m → found_in (numbered_next n ns s) j ≡ Some m
  next_old j m e = gap_old (n - length ns) ns s j m e

  pub next_cases : {C : Type 0} (j m : ℕ) → (found_in ns j ≡ Some m → C) → (j ≡ n → m ≡ s → C) → found_in (numbered_next n ns s) j ≡ Some m → C
  next_cases j m old new e = gap_cases (n - length ns) ns s j m old (λ i h. new (omega (arith, i, place)) h) e

  pub next_size : length (numbered_next n ns s) ≡ n + 1
  next_size =
      let a = length-append (padded n ns) (Some s ∷ []) in
      let b = length-append ns (replicate (n - length ns) None) in
      let d = length-replicate (n - length ns) none in
      omega (arith, a, b, d, l)

-- the sites from n on, up to another, got the numbers from s on
abbrev pub Moved : ℕ → ℕ → ℕ → List (Option ℕ) → Type 0
Moved n end s ns = (j m : ℕ) → n ≤ j → j < end → m + n ≡ s + j → found_in ns j ≡ Some m

module _ (ns : List (Option ℕ)) where
  abbrev f : ℕ → ℕ
  f = moved_by ns

  pub number_moved : (j m : ℕ) → found_in ns j ≡ Some m → f j ≡ m
  number_moved j m e = ap (λ o. unwrap_or o 0) e

  pub own_moved : (n end s to : ℕ) (own : List ℕ) → after_own n own ≡ Some end → to + n ≡ s + end → Moved n end s ns → after_own s (map f own) ≡ Some to
  own_moved n end s to [] e up all = let same : n ≡ end = cc in ap Some (omega (arith, up, same))
  own_moved n end s to (k ∷ ks) e up all =
      let h = had (k == n) (after_own (n + 1) ks) end e in
      let at : k ≡ n = eqb-true k n h.0 in
      let rise = own_rise (n + 1) end ks h.1 in
      let here : f k ≡ s = ap f at ∙ number_moved n s (all n s (omega arith) (omega (arith, rise)) (omega arith)) in
      ap (λ b. cond b (after_own (s + 1) (map f ks)) None) (eq-eqb (f k) s here)
      ∙ own_moved (n + 1) end (s + 1) to ks h.1 (omega (arith, up)) (λ j m l u g. all j m (omega (arith, l)) u (omega (arith, g)))

  pub pieces_moved : (n end s to : ℕ) (ps : List Piece) → after_pieces n ps ≡ Some end → to + n ≡ s + end → Moved n end s ns → after_pieces s (map (moved_piece f) ps) ≡ Some to
  pieces_moved n end s to [] e up all = let same : n ≡ end = cc in ap Some (omega (arith, up, same))
  pieces_moved n end s to (word w ∷ ps) e up all = pieces_moved n end s to ps e up all
  pieces_moved n end s to (hole k ∷ ps) e up all =
      let h = had (k == n) (after_pieces (n + 1) ps) end e in
      let at : k ≡ n = eqb-true k n h.0 in
      let rise = pieces_rise (n + 1) end ps h.1 in
      let here : f k ≡ s = ap f at ∙ number_moved n s (all n s (omega arith) (omega (arith, rise)) (omega arith)) in
      ap (λ b. cond b (after_pieces (s + 1) (map (moved_piece f) ps)) None) (eq-eqb (f k) s here)
      ∙ pieces_moved (n + 1) end (s + 1) to ps h.1 (omega (arith, up)) (λ j m l u g. all j m (omega (arith, l)) u (omega (arith, g)))

-- the holes of a text are numbered as the text is
pub holes_after : (n : ℕ) (ps : List Piece) → after_own n (hole_numbers ps) ≡ after_pieces n ps
holes_after n [] = refl
holes_after n (word w ∷ ps) = holes_after n ps
holes_after n (hole k ∷ ps) = ap (λ (o : Option ℕ). cond (k == n) o None) (holes_after (n + 1) ps)

-- the sites of an element's bindings
module _ (g : ℕ → ℕ) where
  holes_moved : (ps : List Piece) → hole_numbers (map (moved_piece g) ps) ≡ map g (hole_numbers ps)
  holes_moved [] = refl
  holes_moved (word w ∷ ps) = holes_moved ps
  holes_moved (hole k ∷ ps) = ap (λ (ks : List ℕ). g k ∷ ks) (holes_moved ps)

  source_moved : (x : Source) → source_numbers (moved_source g x) ≡ map g (source_numbers x)
  source_moved (of_text ps) = holes_moved ps
  source_moved of_nothing = refl
  source_moved (one_way n) = refl
  source_moved (two_way n w) = refl
  source_moved (of_call p) = refl

  abbrev numbers_of : List Binding → List ℕ
  numbers_of bs = flat_map (λ (b : Binding). source_numbers b.source) bs

  bindings_moved : (bs : List Binding) → numbers_of (map (moved_binding g) bs) ≡ map g (numbers_of bs)
  bindings_moved [] = refl
  bindings_moved (b ∷ bs) =
      ap (λ (ks : List ℕ). ks ++ numbers_of (map (moved_binding g) bs)) (source_moved b.source)
      ∙ (ap (λ (ks : List ℕ). map g (source_numbers b.source) ++ ks) (bindings_moved bs)
      ∙ sym (map-append g (source_numbers b.source) (numbers_of bs)))

  uses_moved : (a : Acts) (s : Scopes) (u : Option Uses) → bound_numbers (composed_acts g (record a { uses = u }) s) ≡ map g (bound_numbers (record a { uses = u }))
  uses_moved a s None = refl
  uses_moved a s (Some u) = bindings_moved u.bindings

  pub bound_moved : (a : Acts) (s : Scopes) → bound_numbers (composed_acts g a s) ≡ map g (bound_numbers a)
  bound_moved a s = uses_moved a s a.uses
