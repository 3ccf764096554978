-- The lines of a text are the text, and no others are.
use Rattle.std.proofs.Common.{◌≡◌, ◌⊎◌, inl, inr, ◌==◌, ◌&&◌, not, ℕ, Bool, true, false, List, [], ◌∷◌, ◌++◌, ap, sym, ◌∙◌, refl, if◌then◌else◌}
use Rattle.std.proofs.lemmas.Bool.{and_parts}
use Rattle.ng_base.specs.Codes.{line_feed, carriage_return}
use Rattle.ng_base.proofs.Binds.{if_false}
use Rattle.ng_language.proofs.LexSound.{both, code_is}
use Rattle.ng_script.specs.Lines.{lines, longer, begins_line_feed}
use Rattle.ng_script.specs.Whole.{has_no_feed, ends_return, AreLines}

abbrev End : List ℕ → List ℕ → List ℕ → Type 0
End l cs rest = ((cs ≡ l ++ line_feed ∷ rest) × (ends_return l ≡ false)) ⊎ (cs ≡ l ++ carriage_return ∷ line_feed ∷ rest)

-- an empty line in front
feed_first : (c : ℕ) (cs : List ℕ) (ls : List (List ℕ)) → c ≡ line_feed → AreLines ls cs → AreLines ([] ∷ ls) (c ∷ cs)
feed_first c cs [] e h = absurd h
feed_first c cs (m ∷ ls) e h = (cs, refl, h, inl (ap (λ (x : ℕ). x ∷ cs) e, refl))

feed_front : (l cs rest : List ℕ) → has_no_feed l ≡ true → begins_line_feed cs ≡ true → (cs ≡ l ++ line_feed ∷ rest) → l ≡ []
feed_front [] cs rest n b e = refl
feed_front (x ∷ l) cs rest n b e =
    let p = (and_parts (not (x == line_feed)) (has_no_feed l) n).0 in
    let q : (x == line_feed) ≡ true = sym (ap begins_line_feed e) ∙ b in
    let r : not (x == line_feed) ≡ false = ap not q in absurd (cc)

no_feed_front : (l cs more : List ℕ) → has_no_feed l ≡ true → begins_line_feed cs ≡ true → cs ≡ l ++ carriage_return ∷ more → ⊥
no_feed_front [] cs more n b e = let q : begins_line_feed (carriage_return ∷ more) ≡ true = sym (ap begins_line_feed e) ∙ b in cc
no_feed_front (x ∷ l) cs more n b e =
    let p = (and_parts (not (x == line_feed)) (has_no_feed l) n).0 in
    let q : (x == line_feed) ≡ true = sym (ap begins_line_feed e) ∙ b in
    let r : not (x == line_feed) ≡ false = ap not q in cc

no_feed_begin : (cs : List ℕ) → has_no_feed cs ≡ true → begins_line_feed cs ≡ true → ⊥
no_feed_begin [] n b = cc
no_feed_begin (x ∷ cs) n b =
    let p = (and_parts (not (x == line_feed)) (has_no_feed cs) n).0 in
    let r : not (x == line_feed) ≡ false = ap not b in cc

-- a return before a line feed is no part of the line
return_first : (c : ℕ) (cs : List ℕ) (ls : List (List ℕ)) → c ≡ carriage_return → begins_line_feed cs ≡ true → AreLines ls cs → AreLines ls (c ∷ cs)
return_first c cs [] e b h = absurd h
return_first c cs (l ∷ []) e b h = absurd (no_feed_begin cs (ap has_no_feed h.0 ∙ h.1) b)
return_first c cs (l ∷ m ∷ ls) e b h = (h.0, h.1, h.2, inr (by h.3))
  where
    by : End l cs h.0 → c ∷ cs ≡ l ++ carriage_return ∷ line_feed ∷ h.0
    by (inl k) =
        let none = feed_front l cs h.0 h.1 b k.0 in
        let same : cs ≡ line_feed ∷ h.0 = k.0 ∙ ap (λ (t : List ℕ). t ++ line_feed ∷ h.0) none in
        ap (λ (x : ℕ). x ∷ cs) e ∙ (ap (λ (t : List ℕ). carriage_return ∷ t) same ∙ ap (λ (t : List ℕ). t ++ carriage_return ∷ line_feed ∷ h.0) (sym none))
    by (inr k) = absurd (no_feed_front l cs (line_feed ∷ h.0) h.1 b k)

longer_return : (c : ℕ) (l cs rest : List ℕ) → (c == carriage_return && begins_line_feed cs) ≡ false → cs ≡ l ++ line_feed ∷ rest → ends_return l ≡ false → ends_return (c ∷ l) ≡ false
longer_return c [] cs rest n e r = by (c == carriage_return) (sym (ap (λ (b : Bool). c == carriage_return && b) (ap begins_line_feed e)) ∙ n)
  where
    by : (b : Bool) → (b && true) ≡ false → b ≡ false
    by true h = absurd (cc)
    by false h = refl
longer_return c (x ∷ l) cs rest n e r = r

-- a first line that is one character longer
longer_first : (c : ℕ) (cs : List ℕ) (ls : List (List ℕ)) → (c == line_feed) ≡ false → (c == carriage_return && begins_line_feed cs) ≡ false → AreLines ls cs → AreLines (longer c ls) (c ∷ cs)
longer_first c cs [] f n h = absurd h
longer_first c cs (l ∷ []) f n h = (ap (λ (t : List ℕ). c ∷ t) h.0, both (not (c == line_feed)) (has_no_feed l) (ap not f) h.1)
longer_first c cs (l ∷ m ∷ ls) f n h = (h.0, both (not (c == line_feed)) (has_no_feed l) (ap not f) h.1, h.2, by h.3)
  where
    by : End l cs h.0 → End (c ∷ l) (c ∷ cs) h.0
    by (inl k) = inl (ap (λ (t : List ℕ). c ∷ t) k.0, longer_return c l cs h.0 n k.0 k.1)
    by (inr k) = inr (ap (λ (t : List ℕ). c ∷ t) k)

spelled_by : (c : ℕ) (cs : List ℕ) (a b : Bool) → (c == line_feed) ≡ a → (c == carriage_return && begins_line_feed cs) ≡ b → AreLines (lines cs) cs → AreLines (if a then [] ∷ lines cs else if b then lines cs else longer c (lines cs)) (c ∷ cs)
spelled_by c cs true b e f h = feed_first c cs (lines cs) (code_is c line_feed e) h
spelled_by c cs false true e f h = let p = and_parts (c == carriage_return) (begins_line_feed cs) f in return_first c cs (lines cs) (code_is c carriage_return p.0) p.1 h
spelled_by c cs false false e f h = longer_first c cs (lines cs) e f h

pub lines_spelled : (cs : List ℕ) → AreLines (lines cs) cs
lines_spelled [] = (refl, refl)
lines_spelled (c ∷ cs) = spelled_by c cs (c == line_feed) (c == carriage_return && begins_line_feed cs) refl refl (lines_spelled cs)

-- the lines of a text that begins so
longer_lines : (c : ℕ) (cs : List ℕ) → (c == line_feed) ≡ false → (c == carriage_return && begins_line_feed cs) ≡ false → lines (c ∷ cs) ≡ longer c (lines cs)
longer_lines c cs e f =
    if_false (c == line_feed) ([] ∷ lines cs) (if c == carriage_return && begins_line_feed cs then lines cs else longer c (lines cs)) e
    ∙ if_false (c == carriage_return && begins_line_feed cs) (lines cs) (longer c (lines cs)) f

negated : (b : Bool) → not b ≡ true → b ≡ false
negated true h = absurd (cc)
negated false h = refl

no_end_by : (a b : Bool) → b ≡ false → (a && b) ≡ false
no_end_by true b h = h
no_end_by false b h = refl

no_first : (a b : Bool) → a ≡ false → (a && b) ≡ false
no_first true b h = absurd (cc)
no_first false b h = refl

begins_no_feed : (cs : List ℕ) → has_no_feed cs ≡ true → begins_line_feed cs ≡ false
begins_no_feed [] h = refl
begins_no_feed (c ∷ cs) h = negated (c == line_feed) ((and_parts (not (c == line_feed)) (has_no_feed cs) h).0)

one_line : (l : List ℕ) → has_no_feed l ≡ true → lines l ≡ l ∷ []
one_line [] h = refl
one_line (c ∷ l) h =
    let p = and_parts (not (c == line_feed)) (has_no_feed l) h in
    longer_lines c l (negated (c == line_feed) p.0) (no_end_by (c == carriage_return) (begins_line_feed l) (begins_no_feed l p.1)) ∙ ap (longer c) (one_line l p.1)

-- a line that a line feed ends
fed_line : (l rest : List ℕ) → has_no_feed l ≡ true → ends_return l ≡ false → lines (l ++ line_feed ∷ rest) ≡ l ∷ lines rest
fed_line [] rest h r = refl
fed_line (c ∷ []) rest h r =
    let p = and_parts (not (c == line_feed)) true h in
    longer_lines c (line_feed ∷ rest) (negated (c == line_feed) p.0) (no_first (c == carriage_return) true r)
fed_line (c ∷ d ∷ l) rest h r =
    let p = and_parts (not (c == line_feed)) (has_no_feed (d ∷ l)) h in
    let q = begins_no_feed (d ∷ l) p.1 in
    longer_lines c (d ∷ (l ++ line_feed ∷ rest)) (negated (c == line_feed) p.0) (no_end_by (c == carriage_return) (d == line_feed) q) ∙ ap (longer c) (fed_line (d ∷ l) rest p.1 r)

-- a line that a return and a line feed end
returned_line : (l rest : List ℕ) → has_no_feed l ≡ true → lines (l ++ carriage_return ∷ line_feed ∷ rest) ≡ l ∷ lines rest
returned_line [] rest h = refl
returned_line (c ∷ []) rest h =
    let p = and_parts (not (c == line_feed)) true h in
    longer_lines c (carriage_return ∷ line_feed ∷ rest) (negated (c == line_feed) p.0) (no_end_by (c == carriage_return) false refl)
returned_line (c ∷ d ∷ l) rest h =
    let p = and_parts (not (c == line_feed)) (has_no_feed (d ∷ l)) h in
    let q = begins_no_feed (d ∷ l) p.1 in
    longer_lines c (d ∷ (l ++ carriage_return ∷ line_feed ∷ rest)) (negated (c == line_feed) p.0) (no_end_by (c == carriage_return) (d == line_feed) q) ∙ ap (longer c) (returned_line (d ∷ l) rest p.1)

pub lines_only : (ls : List (List ℕ)) (cs : List ℕ) → AreLines ls cs → lines cs ≡ ls
lines_only [] cs h = absurd h
lines_only (l ∷ []) cs h = ap lines h.0 ∙ one_line l h.1
lines_only (l ∷ m ∷ ls) cs h = by h.3 (lines_only (m ∷ ls) h.0 h.2)
  where
    by : End l cs h.0 → lines h.0 ≡ m ∷ ls → lines cs ≡ l ∷ m ∷ ls
    by (inl k) i = ap lines k.0 ∙ (fed_line l h.0 h.1 k.1 ∙ ap (λ (t : List (List ℕ)). l ∷ t) i)
    by (inr k) i = ap lines k ∙ (returned_line l h.0 h.1 ∙ ap (λ (t : List (List ℕ)). l ∷ t) i)
