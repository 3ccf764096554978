-- A text and its first line.
use Rattle.std.proofs.Common.{◌≡◌, ◌≤◌, length, arith, ℕ, Bool, true, false, ◌&&◌, ◌==◌, List, [], ◌∷◌, ◌++◌, ap, sym, ◌∙◌, refl, if◌then◌else◌}
use Rattle.std.proofs.lemmas.Bool.{and_parts}
use Rattle.ng_base.specs.Codes.{line_feed, carriage_return}
use Rattle.ng_base.proofs.Binds.{if_true}
use Rattle.ng_script.specs.Words.{ends, front, onward}
use Rattle.ng_script.specs.Lines.{lines, longer, begins_line_feed, without_return}
use Rattle.ng_script.specs.declared.cut.Part.TheVariants as part

cons_by : (c d : ℕ) (xs : List ℕ) (b : Bool) → c ∷ (if b then xs else xs ++ d ∷ []) ≡ (if b then c ∷ xs else c ∷ (xs ++ d ∷ []))
cons_by c d xs true = refl
cons_by c d xs false = refl

pub at_end : (xs : List ℕ) (c : ℕ) → without_return (xs ++ c ∷ []) ≡ (if c == carriage_return then xs else xs ++ c ∷ [])
at_end [] c = refl
at_end (x ∷ []) c = cons_by x c [] (c == carriage_return)
at_end (x ∷ y ∷ xs) c = ap (λ (t : List ℕ). x ∷ t) (at_end (y ∷ xs) c) ∙ cons_by x c (y ∷ xs) (c == carriage_return)

front_none : (cs : List ℕ) → begins_line_feed cs ≡ true → front (ends part.Line) cs ≡ []
front_none [] h = refl
front_none (c ∷ cs) h = if_true (c == line_feed) [] (c ∷ front (ends part.Line) cs) h

-- a return that is the whole line
whole_return : (c : ℕ) (cs : List ℕ) → c == carriage_return ≡ true → begins_line_feed cs ≡ true → without_return (c ∷ front (ends part.Line) cs) ≡ without_return (front (ends part.Line) cs)
whole_return c cs h i =
    ap (λ (t : List ℕ). without_return (c ∷ t)) (front_none cs i)
    ∙ (if_true (c == carriage_return) [] (c ∷ []) h ∙ sym (ap without_return (front_none cs i)))

no_return : (c : ℕ) → (c == carriage_return && true) ≡ false → without_return (c ∷ []) ≡ c ∷ []
no_return c h = by (c == carriage_return) h
  where
    by : (b : Bool) → (b && true) ≡ false → (if b then [] else c ∷ []) ≡ c ∷ []
    by true h = absurd (cc)
    by false h = refl

-- a longer line keeps what stands before its return
longer_return : (c d : ℕ) (cs more : List ℕ) → (c == carriage_return && begins_line_feed cs) ≡ false → onward (ends part.Line) cs ≡ d ∷ more → without_return (c ∷ front (ends part.Line) cs) ≡ c ∷ without_return (front (ends part.Line) cs)
longer_return c d [] more h e = absurd (cc)
longer_return c d (x ∷ xs) more h e = by (x == line_feed) h
  where
    by : (b : Bool) → (c == carriage_return && b) ≡ false → without_return (c ∷ (if b then [] else x ∷ front (ends part.Line) xs)) ≡ c ∷ without_return (if b then [] else x ∷ front (ends part.Line) xs)
    by true h = no_return c h
    by false h = refl

some_by : (c d : ℕ) (cs more : List ℕ) (a b : Bool) → (c == carriage_return && begins_line_feed cs) ≡ b → (if a then c ∷ cs else onward (ends part.Line) cs) ≡ d ∷ more
    → (onward (ends part.Line) cs ≡ d ∷ more → lines cs ≡ without_return (front (ends part.Line) cs) ∷ lines more)
    → (if a then [] ∷ lines cs else if b then lines cs else longer c (lines cs)) ≡ without_return (if a then [] else c ∷ front (ends part.Line) cs) ∷ lines more
some_by c d cs more true b h e i = let same : cs ≡ more = cc in ap (λ (t : List ℕ). [] ∷ lines t) same
some_by c d cs more false true h e i =
    let p = and_parts (c == carriage_return) (begins_line_feed cs) h in
    i e ∙ ap (λ (t : List ℕ). t ∷ lines more) (sym (whole_return c cs p.0 p.1))
some_by c d cs more false false h e i =
    ap (longer c) (i e) ∙ ap (λ (t : List ℕ). t ∷ lines more) (sym (longer_return c d cs more h e))

-- a line that a line feed ends
pub line_then : (cs more : List ℕ) (d : ℕ) → onward (ends part.Line) cs ≡ d ∷ more → lines cs ≡ without_return (front (ends part.Line) cs) ∷ lines more
line_then [] more d e = absurd (cc)
line_then (c ∷ cs) more d e = some_by c d cs more (c == line_feed) (c == carriage_return && begins_line_feed cs) refl e (line_then cs more d)

feed_stops : (cs : List ℕ) → begins_line_feed cs ≡ true → onward (ends part.Line) cs ≡ [] → ⊥
feed_stops [] h e = absurd (cc)
feed_stops (c ∷ cs) h e = by (c == line_feed) h e
  where
    by : (b : Bool) → b ≡ true → (if b then c ∷ cs else onward (ends part.Line) cs) ≡ [] → ⊥
    by true h e = absurd (cc)
    by false h e = absurd (cc)

none_by : (c : ℕ) (cs : List ℕ) (a b : Bool) → (c == carriage_return && begins_line_feed cs) ≡ b → (if a then c ∷ cs else onward (ends part.Line) cs) ≡ []
    → (onward (ends part.Line) cs ≡ [] → lines cs ≡ front (ends part.Line) cs ∷ [])
    → (if a then [] ∷ lines cs else if b then lines cs else longer c (lines cs)) ≡ (if a then [] else c ∷ front (ends part.Line) cs) ∷ []
none_by c cs true b h e i = absurd (cc)
none_by c cs false true h e i = absurd (feed_stops cs ((and_parts (c == carriage_return) (begins_line_feed cs) h).1) e)
none_by c cs false false h e i = ap (longer c) (i e)

-- the last line
pub line_last : (cs : List ℕ) → onward (ends part.Line) cs ≡ [] → lines cs ≡ front (ends part.Line) cs ∷ []
line_last [] e = refl
line_last (c ∷ cs) e = none_by c cs (c == line_feed) (c == carriage_return && begins_line_feed cs) refl e (line_last cs)

pub onward_le : (cs : List ℕ) → length (onward (ends part.Line) cs) ≤ length cs
onward_le [] = omega arith
onward_le (c ∷ cs) = by (c == line_feed) (onward_le cs)
  where
    by : (b : Bool) → length (onward (ends part.Line) cs) ≤ length cs → length (if b then c ∷ cs else onward (ends part.Line) cs) ≤ length (c ∷ cs)
    by true h = omega arith
    by false h = omega (arith, h)
