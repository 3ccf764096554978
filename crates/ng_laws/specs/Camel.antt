-- A name as words between joiners (guide: Directives, "Normalization").
use Rattle.std.specs.Prelude.{ℕ, ◌⊎◌, ◌≡◌, true, false, List, [], ◌∷◌, ◌++◌, codes, None}
use Rattle.std.specs.Char.{to_ascii_uppercase}
use Rattle.std.specs.List.{AllByRecursion, flat_map}
use Rattle.ng_collect.specs.Cloak.{is_nil}
use Rattle.ng_collect.specs.Names.{is_joiner, after_x, after_data, past_joiners, camel, directive_name}

-- joiners, and the word behind them
abbrev pub Part : Type 0
Part = List ℕ × List ℕ

abbrev pub AreJoiners : List ℕ → Type 0
AreJoiners t = AllByRecursion (λ c. is_joiner c ≡ true) t

abbrev pub IsWord : List ℕ → Type 0
IsWord t = AllByRecursion (λ c. is_joiner c ≡ false) t × (is_nil t ≡ false)

abbrev pub AreParts : List Part → Type 0
AreParts ps = AllByRecursion (λ (p : Part). AreJoiners p.0 × (is_nil p.0 ≡ false) × IsWord p.1) ps

abbrev pub part_text : Part → List ℕ
part_text p = p.0 ++ p.1

-- a word with its first letter in upper case
abbrev pub capital : List ℕ → List ℕ
capital [] = []
capital (c ∷ cs) = to_ascii_uppercase c ∷ cs

abbrev pub part_cased : Part → List ℕ
part_cased p = capital p.1

-- of joiners at the end the last one stays
abbrev pub last_joiner : List ℕ → List ℕ
last_joiner [] = []
last_joiner (c ∷ []) = c ∷ []
last_joiner (c ∷ d ∷ cs) = last_joiner (d ∷ cs)

-- joiners at the front go, and each word behind the first begins with a capital
abbrev pub WordsAreCased : Type 0
WordsAreCased = (front word tail : List ℕ) (ps : List Part) → AreJoiners front → IsWord word → AreParts ps → AreJoiners tail → camel (past_joiners (front ++ (word ++ (flat_map part_text ps ++ tail)))) ≡ word ++ (flat_map part_cased ps ++ last_joiner tail)

-- before that one `x` or `data` with its joiner goes
abbrev pub FrontGoes : Type 0
FrontGoes = (j : ℕ) (n : List ℕ) → is_joiner j ≡ true → (directive_name (codes "x" ++ j ∷ n) ≡ camel (past_joiners n)) × (directive_name (codes "data" ++ j ∷ n) ≡ camel (past_joiners n))

-- and another front stays
abbrev pub FrontStays : Type 0
FrontStays = (n : List ℕ) → after_x n ≡ None → after_data n ≡ None → directive_name n ≡ camel (past_joiners n)

-- each name is joiners alone, which name no directive, or is spelled so
abbrev pub EachNameHasWords : Type 0
EachNameHasWords = (x : List ℕ) → (AreJoiners x × (camel (past_joiners x) ≡ [])) ⊎ ((front : List ℕ) × (word : List ℕ) × (tail : List ℕ) × (ps : List Part) × AreJoiners front × IsWord word × AreParts ps × AreJoiners tail × (x ≡ front ++ (word ++ (flat_map part_text ps ++ tail))))
