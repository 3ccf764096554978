-- The print of a text reads as the text.
use Rattle.std.proofs.Common.{◌≡◌, ℕ, true, false, ◌==◌, List, [], ◌∷◌, ◌++◌, refl, ap, ◌∙◌, sym, subst, arith, inl, inr}
use Rattle.std.proofs.lemmas.Bool.Decides.{nat_tests}
use Rattle.std.specs.Prelude.{◌⊎◌, codes, if◌then◌else◌}
use Rattle.std.specs.List.{flat_map}
use Rattle.ng_base.specs.Cells.{Cell}
use Rattle.ng_base.proofs.Binds.{if_held}
use Rattle.ng_markup.specs.Forest.{text_char, value_char}
use Rattle.ng_tags.specs.References.{named_character}
use Rattle.ng_tags.specs.Texts.{ends}
use Rattle.ng_tags.specs.Spelling.{chars_of, Names, by_name, by_number, Reads, no_more, itself, by_reference}
use Rattle.ng_tags.specs.declared.until.Until.{Until}
use Rattle.ng_tags.specs.declared.until.Until.TheVariants as until

-- cells of these characters
pub record Parted (us : List Cell) (x y : List ℕ) : Type 0 where
  pub first : List Cell
  pub last : List Cell
  pub whole : us ≡ first ++ last
  pub first_is : chars_of first ≡ x
  pub last_is : chars_of last ≡ y

pub parted : (x y : List ℕ) (us : List Cell) → chars_of us ≡ x ++ y → Parted us x y
parted [] y us h = record { first = []; last = us; whole = refl; first_is = refl; last_is = h }
parted (c ∷ x) y [] h = absurd (cc)
parted (c ∷ x) y (a ∷ us) h =
    let tail : chars_of us ≡ x ++ y = cc in
    let head : a.0 ≡ c = cc in
    let r = parted x y us tail in
    record { first = a ∷ r.first; last = r.last; whole = ap (λ xs. a ∷ xs) r.whole; first_is = ap (λ xs. a.0 ∷ xs) r.first_is ∙ ap (λ d. d ∷ x) head; last_is = r.last_is }

pub none_left : (us : List Cell) → chars_of us ≡ [] → us ≡ []
none_left [] h = refl
none_left (a ∷ us) h = absurd (cc)

-- a cell of this character, and those behind it
pub record Headed (us : List Cell) (c : ℕ) (y : List ℕ) : Type 0 where
  pub p : ℕ
  pub behind : List Cell
  pub whole : us ≡ (c, p) ∷ behind
  pub behind_is : chars_of behind ≡ y

pub headed : (us : List Cell) (c : ℕ) (y : List ℕ) → chars_of us ≡ c ∷ y → Headed us c y
headed [] c y h = absurd (cc)
headed ((b, p) ∷ us) c y h =
    let tail : chars_of us ≡ y = cc in
    let head : b ≡ c = cc in
    record { p = p; behind = us; whole = ap (λ (x : ℕ). (x, p) ∷ us) head; behind_is = tail }

-- cells of these characters, with their places
abbrev Placed : List ℕ → List Cell → Type 0
Placed [] us = us ≡ []
Placed (x ∷ xs) us = (p : ℕ) × (vs : List Cell) × (us ≡ (x, p) ∷ vs) × Placed xs vs

placed : (xs : List ℕ) (us : List Cell) → chars_of us ≡ xs → Placed xs us
placed [] us h = none_left us h
placed (x ∷ xs) us h = let r = headed us x xs h in (r.p, r.behind, r.whole, placed xs r.behind r.behind_is)

-- how a text that ends so writes a character: as it is, or by a reference
abbrev pub IsWriting : Until → ℕ → List ℕ → Type 0
IsWriting u c w =
    ((w ≡ c ∷ []) × ((c == 38) ≡ false) × ((ds : List Cell) → ends u c ds ≡ false))
    ⊎ ((v : List ℕ) × (w ≡ 38 ∷ v) × ((us : List Cell) → chars_of us ≡ v → Names c us))

-- references by name and by number
amp : (us : List Cell) → chars_of us ≡ codes "amp;" → Names 38 us
unfolding named_character
amp us h = let (p, a, e, (q, b, f, (r, c, g, (s, d, i, j)))) = placed (codes "amp;") us h in
    subst (Names 38) (sym (e ∙ ap (λ xs. (97, p) ∷ xs) (f ∙ ap (λ xs. (109, q) ∷ xs) (g ∙ ap (λ xs. (112, r) ∷ xs) (i ∙ ap (λ xs. (59, s) ∷ xs) j)))))
    (by_name 38 ((97, p) ∷ (109, q) ∷ (112, r) ∷ []) (59, s) refl refl refl)

quot : (us : List Cell) → chars_of us ≡ codes "quot;" → Names 34 us
unfolding named_character
quot us h = let (p, a, e, (q, b, f, (r, c, g, (s, d, i, (t, k, l, j))))) = placed (codes "quot;") us h in
    subst (Names 34) (sym (e ∙ ap (λ xs. (113, p) ∷ xs) (f ∙ ap (λ xs. (117, q) ∷ xs) (g ∙ ap (λ xs. (111, r) ∷ xs) (i ∙ ap (λ xs. (116, s) ∷ xs) (l ∙ ap (λ xs. (59, t) ∷ xs) j))))))
    (by_name 34 ((113, p) ∷ (117, q) ∷ (111, r) ∷ (116, s) ∷ []) (59, t) refl refl refl)

lt : (us : List Cell) → chars_of us ≡ codes "lt;" → Names 60 us
unfolding named_character
lt us h = let (p, a, e, (q, b, f, (r, c, g, j))) = placed (codes "lt;") us h in
    subst (Names 60) (sym (e ∙ ap (λ xs. (108, p) ∷ xs) (f ∙ ap (λ xs. (116, q) ∷ xs) (g ∙ ap (λ xs. (59, r) ∷ xs) j))))
    (by_name 60 ((108, p) ∷ (116, q) ∷ []) (59, r) refl refl refl)

gt : (us : List Cell) → chars_of us ≡ codes "gt;" → Names 62 us
unfolding named_character
gt us h = let (p, a, e, (q, b, f, (r, c, g, j))) = placed (codes "gt;") us h in
    subst (Names 62) (sym (e ∙ ap (λ xs. (103, p) ∷ xs) (f ∙ ap (λ xs. (116, q) ∷ xs) (g ∙ ap (λ xs. (59, r) ∷ xs) j))))
    (by_name 62 ((103, p) ∷ (116, q) ∷ []) (59, r) refl refl refl)

ten : (us : List Cell) → chars_of us ≡ codes "#10;" → Names 10 us
ten us h = let (p, a, e, (q, b, f, (r, c, g, (s, d, i, j)))) = placed (codes "#10;") us h in
    subst (Names 10) (sym (e ∙ ap (λ xs. (35, p) ∷ xs) (f ∙ ap (λ xs. (49, q) ∷ xs) (g ∙ ap (λ xs. (48, r) ∷ xs) (i ∙ ap (λ xs. (59, s) ∷ xs) j)))))
    (by_number (35, p) (49, q) ((48, r) ∷ []) (59, s) refl refl refl refl)

thirteen : (us : List Cell) → chars_of us ≡ codes "#13;" → Names 13 us
thirteen us h = let (p, a, e, (q, b, f, (r, c, g, (s, d, i, j)))) = placed (codes "#13;") us h in
    subst (Names 13) (sym (e ∙ ap (λ xs. (35, p) ∷ xs) (f ∙ ap (λ xs. (49, q) ∷ xs) (g ∙ ap (λ xs. (51, r) ∷ xs) (i ∙ ap (λ xs. (59, s) ∷ xs) j)))))
    (by_number (35, p) (49, q) ((51, r) ∷ []) (59, s) refl refl refl refl)

is_code : (c n : ℕ) → (c == n) ≡ true → c ≡ n
is_code c n h = grind (arith, nat_tests, h)

-- a reference to one of these characters
abbrev Referred : Until → ℕ → ℕ → List ℕ → Type 0
Referred u c n v = (c == n) ≡ true → ((us : List Cell) → chars_of us ≡ v → Names n us) → IsWriting u c (38 ∷ v)

referred : (u : Until) (c n : ℕ) (v : List ℕ) → Referred u c n v
referred u c n v e k = inr (v, refl, λ us h. subst (λ x. Names x us) (sym (is_code c n e)) (k us h))

-- texts up to a tag, or to an end tag: where no `<` stands as it is
pub text_writing : (u : Until) → ((c : ℕ) (ds : List Cell) → (c == 60) ≡ false → ends u c ds ≡ false) → (c : ℕ) → IsWriting u c (text_char c)
text_writing u k c =
    if_held (c == 38) (codes "&amp;") (if c == 60 then codes "&lt;" else if c == 62 then codes "&gt;" else if c == 10 then codes "&#10;" else if c == 13 then codes "&#13;" else c ∷ []) (IsWriting u c)
    (λ e. referred u c 38 (codes "amp;") e amp)
    (λ not_amp. if_held (c == 60) (codes "&lt;") (if c == 62 then codes "&gt;" else if c == 10 then codes "&#10;" else if c == 13 then codes "&#13;" else c ∷ []) (IsWriting u c)
    (λ e. referred u c 60 (codes "lt;") e lt)
    (λ not_lt. if_held (c == 62) (codes "&gt;") (if c == 10 then codes "&#10;" else if c == 13 then codes "&#13;" else c ∷ []) (IsWriting u c)
    (λ e. referred u c 62 (codes "gt;") e gt)
    (λ not_gt. if_held (c == 10) (codes "&#10;") (if c == 13 then codes "&#13;" else c ∷ []) (IsWriting u c)
    (λ e. referred u c 10 (codes "#10;") e ten)
    (λ not_ten. if_held (c == 13) (codes "&#13;") (c ∷ []) (IsWriting u c)
    (λ e. referred u c 13 (codes "#13;") e thirteen)
    (λ other. inl (refl, not_amp, λ ds. k c ds not_lt))))))

-- values in double quotes
pub value_writing : (c : ℕ) → IsWriting until.Double c (value_char c)
value_writing c =
    if_held (c == 38) (codes "&amp;") (if c == 34 then codes "&quot;" else if c == 10 then codes "&#10;" else if c == 13 then codes "&#13;" else c ∷ []) (IsWriting until.Double c)
    (λ e. referred until.Double c 38 (codes "amp;") e amp)
    (λ not_amp. if_held (c == 34) (codes "&quot;") (if c == 10 then codes "&#10;" else if c == 13 then codes "&#13;" else c ∷ []) (IsWriting until.Double c)
    (λ e. referred until.Double c 34 (codes "quot;") e quot)
    (λ not_quot. if_held (c == 10) (codes "&#10;") (if c == 13 then codes "&#13;" else c ∷ []) (IsWriting until.Double c)
    (λ e. referred until.Double c 10 (codes "#10;") e ten)
    (λ not_ten. if_held (c == 13) (codes "&#13;") (c ∷ []) (IsWriting until.Double c)
    (λ e. referred until.Double c 13 (codes "#13;") e thirteen)
    (λ other. inl (refl, not_amp, λ ds. not_quot)))))

-- a character, and what is read behind it
one_more : (u : Until) (rest : List Cell) (c : ℕ) (w : List ℕ) (t : List ℕ) (us vs : List Cell) → IsWriting u c w → chars_of us ≡ w → Reads u rest vs t → Reads u rest (us ++ vs) (c ∷ t)
one_more u rest c w t us vs (inl (w_is, a, e)) h r =
    let x = headed us c [] (h ∙ w_is) in
    let one : us ≡ (c, x.p) ∷ [] = x.whole ∙ ap (λ xs. (c, x.p) ∷ xs) (none_left x.behind x.behind_is) in
    subst (λ (xs : List Cell). Reads u rest (xs ++ vs) (c ∷ t)) (sym one) (itself (c, x.p) vs t (e (vs ++ rest)) a r)
one_more u rest c w t us vs (inr (v, w_is, k)) h r =
    let x = headed us 38 v (h ∙ w_is) in
    subst (λ (xs : List Cell). Reads u rest (xs ++ vs) (c ∷ t)) (sym x.whole) (by_reference (38, x.p) x.behind vs t c refl (k x.behind x.behind_is) r)

-- the print of a text reads as the text
pub writing_read : (u : Until) (f : ℕ → List ℕ) → ((c : ℕ) → IsWriting u c (f c)) → (rest : List Cell) (t : List ℕ) (us : List Cell) → chars_of us ≡ flat_map f t → Reads u rest us t
writing_read u f k rest [] us h = subst (λ (xs : List Cell). Reads u rest xs []) (sym (none_left us h)) no_more
writing_read u f k rest (c ∷ t) us h =
    let p = parted (f c) (flat_map f t) us h in
    subst (λ (xs : List Cell). Reads u rest xs (c ∷ t)) (sym p.whole) (one_more u rest c (f c) t p.first p.last (k c) p.first_is (writing_read u f k rest t p.last p.last_is))
