-- A line and its first word.
use Rattle.std.proofs.Common.{◌≡◌, ◌<◌, ◌⊎◌, inl, inr, length, arith, ℕ, Bool, true, false, not, List, [], ◌∷◌, ◌++◌, ap, sym, ◌∙◌, refl, if◌then◌else◌, append_assoc, append-nil, subst}
use Rattle.std.proofs.lemmas.Bool.{and_parts}
use Rattle.std.proofs.lemmas.Grind.{common_steps}
use Rattle.std.specs.List.{list_all}
use Rattle.ng_script.specs.Parts.{is_over}
use Rattle.ng_script.specs.Spelling.{IsGap, IsOneWord, begins_solid, IsLine, with_last}
use Rattle.ng_script.specs.Targets.{has_no_blank}
use Rattle.ng_script.specs.Whole.{ends_blank}
use Rattle.ng_script.specs.Words.{is_blank, ends, onward, past_blanks, word, next_part}
use Rattle.ng_script.specs.declared.cut.Part.TheVariants as part
use Rattle.ng_script.proofs.Cuts.{begins_end, cut_at}

-- no blank stands at either end, and something stands between
pub record Solid (cs : List ℕ) : Type 0 where
  pub begins : begins_solid cs ≡ true
  pub ended : ends_blank cs ≡ false

abbrev pub Rest : List ℕ → Type 0
Rest cs = (cs ≡ []) ⊎ Solid cs

pub ends_later : (us : List ℕ) (c : ℕ) (cs : List ℕ) → ends_blank (us ++ c ∷ cs) ≡ ends_blank (c ∷ cs)
ends_later [] c cs = refl
ends_later (u ∷ []) c cs = refl
ends_later (u ∷ v ∷ us) c cs = ends_later (v ∷ us) c cs

blank_end : (c : ℕ) (cs : List ℕ) → list_all is_blank (c ∷ cs) ≡ true → ends_blank (c ∷ cs) ≡ true
blank_end c [] h = (and_parts (is_blank c) true h).0
blank_end c (d ∷ cs) h = blank_end d cs ((and_parts (is_blank c) (list_all is_blank (d ∷ cs)) h).1)

-- the characters of the first word, and those from there on
pub front_onward : (cs : List ℕ) → cs ≡ word cs ++ onward (ends part.Word) cs
front_onward [] = refl
front_onward (c ∷ cs) = by (is_blank c) (front_onward cs)
  where
    by : (b : Bool) → cs ≡ word cs ++ onward (ends part.Word) cs → c ∷ cs ≡ (if b then [] else c ∷ word cs) ++ (if b then c ∷ cs else onward (ends part.Word) cs)
    by true h = refl
    by false h = ap (λ (t : List ℕ). c ∷ t) h

pub word_solid : (cs : List ℕ) → has_no_blank (word cs) ≡ true
word_solid [] = refl
word_solid (c ∷ cs) = by (is_blank c) refl (word_solid cs)
  where
    by : (b : Bool) → is_blank c ≡ b → has_no_blank (word cs) ≡ true → has_no_blank (if b then [] else c ∷ word cs) ≡ true
    by true e h = refl
    by false e h = let n : not (is_blank c) ≡ true = ap not e in grind (arith, common_steps)

onward_blank : (cs : List ℕ) → begins_end part.Word (onward (ends part.Word) cs) ≡ true
onward_blank [] = refl
onward_blank (c ∷ cs) = by (is_blank c) refl (onward_blank cs)
  where
    by : (b : Bool) → is_blank c ≡ b → begins_end part.Word (onward (ends part.Word) cs) ≡ true → begins_end part.Word (if b then c ∷ cs else onward (ends part.Word) cs) ≡ true
    by true e h = e
    by false e h = h

abbrev pub Past : List ℕ → List ℕ → Type 0
Past cs r = (gap : List ℕ) × (cs ≡ gap ++ r) × (list_all is_blank gap ≡ true) × ((r ≡ []) ⊎ (begins_solid r ≡ true))

-- the blanks in front of what stands after them
pub past_gap : (cs : List ℕ) → Past cs (past_blanks cs)
past_gap [] = ([], refl, refl, inl refl)
past_gap (c ∷ cs) = by (is_blank c) refl (past_gap cs)
  where
    by : (b : Bool) → is_blank c ≡ b → Past cs (past_blanks cs) → Past (c ∷ cs) (if b then past_blanks cs else c ∷ cs)
    by true e p = (c ∷ p.0, ap (λ (t : List ℕ). c ∷ t) p.1, (let g = p.2 in grind (arith, common_steps)), p.3)
    by false e p = ([], refl, refl, inr (ap not e))

pub no_past : (gap r : List ℕ) → list_all is_blank gap ≡ true → begins_solid r ≡ true → past_blanks (gap ++ r) ≡ r
no_past [] [] g h = refl
no_past [] (c ∷ r) g h = by (is_blank c) h
  where
    by : (b : Bool) → not b ≡ true → (if b then past_blanks r else c ∷ r) ≡ c ∷ r
    by true h = absurd (cc)
    by false h = refl
no_past (c ∷ gap) r g h = by (is_blank c) ((and_parts (is_blank c) (list_all is_blank gap) g).0) (no_past gap r ((and_parts (is_blank c) (list_all is_blank gap) g).1) h)
  where
    by : (b : Bool) → b ≡ true → past_blanks (gap ++ r) ≡ r → (if b then past_blanks (gap ++ r) else c ∷ (gap ++ r)) ≡ r
    by true e i = i
    by false e i = absurd (cc)

gap_ends : (gap r : List ℕ) → IsGap gap → begins_end part.Word (gap ++ r) ≡ true
gap_ends [] r g = absurd (omega (arith, g.0))
gap_ends (c ∷ gap) r g = (and_parts (is_blank c) (list_all is_blank gap) g.1).0

-- a word, a gap and what follows are cut so
pub joined_cut : (w gap r : List ℕ) → has_no_blank w ≡ true → IsGap gap → begins_solid r ≡ true → (word (w ++ (gap ++ r)) ≡ w) × (next_part (w ++ (gap ++ r)) ≡ r)
joined_cut w gap r n g h =
    let c = cut_at part.Word w (gap ++ r) n (gap_ends gap r g) in
    (c.0, ap past_blanks c.1 ∙ no_past gap r g.1 h)

-- a word alone
pub alone_cut : (w : List ℕ) → has_no_blank w ≡ true → (word w ≡ w) × (next_part w ≡ [])
alone_cut w n =
    let c = cut_at part.Word w [] n refl in
    let e = append-nil w in
    (ap word (sym e) ∙ c.0, ap next_part (sym e) ∙ ap past_blanks c.1)

-- how a solid text stands before its next part
pub data Cut (cs : List ℕ) (w : List ℕ) (r : List ℕ) : Type 0 where
  whole : cs ≡ w → r ≡ [] → Cut cs w r
  parted : (gap : List ℕ) → cs ≡ w ++ (gap ++ r) → IsGap gap → Solid r → Cut cs w r

solid_after : (us : List ℕ) (r : List ℕ) → ends_blank (us ++ r) ≡ false → begins_solid r ≡ true → Solid r
solid_after us [] e h = record { begins = h; ended = refl }
solid_after us (c ∷ r) e h = record { begins = h; ended = sym (ends_later us c r) ∙ e }

no_gap_end : (us gap : List ℕ) → ends_blank (us ++ gap) ≡ false → list_all is_blank gap ≡ true → gap ≡ []
no_gap_end us [] e g = refl
no_gap_end us (c ∷ gap) e g = let t = sym (ends_later us c gap) ∙ e in let f = blank_end c gap g in absurd (cc)

gap_filled : (xs gap r : List ℕ) → xs ≡ gap ++ r → begins_end part.Word xs ≡ true → begins_solid r ≡ true → list_all is_blank gap ≡ true → IsGap gap
gap_filled xs [] [] e b h g = absurd (cc)
gap_filled xs [] (c ∷ r) e b h g =
    let f : is_blank c ≡ true = sym (ap (begins_end part.Word) e) ∙ b in
    let n : not (is_blank c) ≡ false = ap not f in absurd (cc)
gap_filled xs (c ∷ gap) r e b h g = (omega arith, g)

cut_by : (cs w xs gap r : List ℕ) → cs ≡ w ++ xs → xs ≡ gap ++ r → begins_end part.Word xs ≡ true → list_all is_blank gap ≡ true → ends_blank cs ≡ false → (r ≡ []) ⊎ (begins_solid r ≡ true) → Cut cs w r
cut_by cs w xs gap r e f b g s (inl none) =
    let all : cs ≡ w ++ gap = e ∙ (ap (λ (t : List ℕ). w ++ t) (f ∙ (ap (λ (t : List ℕ). gap ++ t) none ∙ append-nil gap))) in
    let no : gap ≡ [] = no_gap_end w gap (sym (ap ends_blank all) ∙ s) g in
    whole (all ∙ (ap (λ (t : List ℕ). w ++ t) no ∙ append-nil w)) none
cut_by cs w xs gap r e f b g s (inr solid) =
    let all : cs ≡ w ++ (gap ++ r) = e ∙ ap (λ (t : List ℕ). w ++ t) f in
    let two : cs ≡ (w ++ gap) ++ r = all ∙ sym (append_assoc w gap r) in
    parted gap all (gap_filled xs gap r f b solid g) (solid_after (w ++ gap) r (sym (ap ends_blank two) ∙ s) solid)

pub cut_of : (cs : List ℕ) → Solid cs → Cut cs (word cs) (next_part cs)
cut_of cs s =
    let p = past_gap (onward (ends part.Word) cs) in
    cut_by cs (word cs) (onward (ends part.Word) cs) p.0 (next_part cs) (front_onward cs) p.1 (onward_blank cs) p.2 s.ended p.3

pub rest_of : (cs : List ℕ) → Solid cs → Rest (next_part cs)
rest_of cs s = elim (cut_of cs s) [ whole e f ↦ inl f | parted gap e g t ↦ inr t ]

word_filled : (cs : List ℕ) → begins_solid cs ≡ true → 0 < length (word cs)
word_filled [] h = absurd (cc)
word_filled (c ∷ cs) h = by (is_blank c) h
  where
    by : (b : Bool) → not b ≡ true → 0 < length (if b then [] else c ∷ word cs)
    by true h = absurd (cc)
    by false h = omega arith

pub word_one : (cs : List ℕ) → Solid cs → IsOneWord (word cs)
word_one cs s = (word_filled cs s.begins, word_solid cs)

one_solid : (w : List ℕ) → IsOneWord w → begins_solid w ≡ true
one_solid [] h = absurd (omega (arith, h.0))
one_solid (c ∷ w) h = (and_parts (not (is_blank c)) (has_no_blank w) h.1).0

filled_append : (w xs : List ℕ) → 0 < length w → w ++ xs ≡ [] → ⊥
filled_append [] xs h e = omega (arith, h)
filled_append (c ∷ w) xs h e = cc

no_line : (w : List ℕ) (ws : List (List ℕ)) → IsLine (w ∷ ws) [] → ⊥
no_line w [] l = let n : begins_solid [] ≡ true = ap begins_solid l.0 ∙ l.1 in cc
no_line w (v ∷ ws) l = filled_append w (l.0 ++ l.1) l.3.0 (sym l.2)

-- one part more in front
prepend_by : (cs w r : List ℕ) (ws : List (List ℕ)) → Cut cs w r → IsOneWord w → IsLine ws r → IsLine (w ∷ ws) cs
prepend_by cs w r [] (whole e f) o l = (e, one_solid w o)
prepend_by cs w r (v ∷ ws) (whole e f) o l = let P : List ℕ → Type 0 = λ (t : List ℕ). IsLine (v ∷ ws) t in absurd (no_line v ws (subst P f l))
prepend_by cs w r [] (parted gap e g s) o l = let n : begins_solid [] ≡ true = sym (ap begins_solid l) ∙ s.begins in absurd (cc)
prepend_by cs w r (v ∷ ws) (parted gap e g s) o l = (gap, r, e, o, g, l)

pub prepend : (cs : List ℕ) (ws : List (List ℕ)) → Solid cs → IsLine ws (next_part cs) → IsLine (word cs ∷ ws) cs
prepend cs ws s l = prepend_by cs (word cs) (next_part cs) ws (cut_of cs s) (word_one cs s) l

pub tail_line : (r : List ℕ) → Rest r → IsLine (with_last [] r) r
tail_line [] s = refl
tail_line (c ∷ r) (inl e) = absurd (cc)
tail_line (c ∷ r) (inr s) = (refl, s.begins)

pub with_first : (w : List ℕ) (ws : List (List ℕ)) (r : List ℕ) → with_last (w ∷ ws) r ≡ w ∷ with_last ws r
with_first w ws [] = refl
with_first w ws (c ∷ r) = refl

pub not_over : (w : List ℕ) (ws : List (List ℕ)) (cs : List ℕ) → IsLine (w ∷ ws) cs → is_over cs ≡ false
not_over w ws [] l = absurd (no_line w ws l)
not_over w ws (c ∷ cs) l = refl

line_solid : (w : List ℕ) (ws : List (List ℕ)) (cs : List ℕ) → IsLine (w ∷ ws) cs → begins_solid cs ≡ true
line_solid w [] cs l = ap begins_solid l.0 ∙ l.1
line_solid w (v ∷ ws) cs l = ap begins_solid l.2 ∙ by w (l.0 ++ l.1) (one_solid w l.3)
  where
    by : (w xs : List ℕ) → begins_solid w ≡ true → begins_solid (w ++ xs) ≡ true
    by [] xs h = absurd (cc)
    by (c ∷ w) xs h = h

-- the first of two parts or more
pub first_part : (w v : List ℕ) (ws : List (List ℕ)) (cs : List ℕ) → IsLine (w ∷ v ∷ ws) cs → (word cs ≡ w) × IsLine (v ∷ ws) (next_part cs)
first_part w v ws cs l =
    let c = joined_cut w l.0 l.1 l.3.1 l.4 (line_solid v ws l.1 l.5) in
    let P : List ℕ → Type 0 = λ (t : List ℕ). IsLine (v ∷ ws) t in
    (ap word l.2 ∙ c.0, subst P (sym (ap next_part l.2 ∙ c.1)) l.5)

-- a last part that is a word
pub last_word : (w cs : List ℕ) → IsLine (w ∷ []) cs → has_no_blank w ≡ true → (word cs ≡ w) × (next_part cs ≡ [])
last_word w cs l n = let c = alone_cut w n in (ap word l.0 ∙ c.0, ap next_part l.0 ∙ c.1)

-- a part before a last one that may be missing
pub first_of_last : (w v : List ℕ) (ws : List (List ℕ)) (es cs : List ℕ) → IsLine (with_last (w ∷ v ∷ ws) es) cs → (word cs ≡ w) × IsLine (with_last (v ∷ ws) es) (next_part cs)
first_of_last w v ws [] cs l = first_part w v ws cs l
first_of_last w v ws (c ∷ es) cs l = first_part w v (ws ++ (c ∷ es) ∷ []) cs l

-- a word before a last part that may be missing
pub word_of_last : (w es cs : List ℕ) → IsLine (with_last (w ∷ []) es) cs → has_no_blank w ≡ true → (word cs ≡ w) × (next_part cs ≡ es)
word_of_last w [] cs l n = last_word w cs l n
word_of_last w (c ∷ es) cs l n = let p = first_part w (c ∷ es) [] cs l in (p.0, p.1.0)
