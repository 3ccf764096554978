-- A class as words behind white space.
use Rattle.std.specs.Prelude.{ℕ, ◌≡◌, true, false, List, [], ◌∷◌, ◌++◌, codes}
use Rattle.std.specs.Char.{is_ascii_whitespace}
use Rattle.std.specs.List.{AllByRecursion, flat_map}
use Rattle.std.specs.Str.{bytes_eq}
use Rattle.ng_collect.specs.Cloak.{kept_word, is_nil, uncloaked}

-- white space, and the word behind it
abbrev pub Piece : Type 0
Piece = List ℕ × List ℕ

abbrev pub IsSpace : List ℕ → Type 0
IsSpace t = AllByRecursion (λ c. is_ascii_whitespace c ≡ true) t

abbrev pub IsWord : List ℕ → Type 0
IsWord t = AllByRecursion (λ c. is_ascii_whitespace c ≡ false) t × (is_nil t ≡ false)

-- words behind another one: white space stands before each
abbrev pub ArePieces : List Piece → Type 0
ArePieces ps = AllByRecursion (λ (p : Piece). IsSpace p.0 × (is_nil p.0 ≡ false) × IsWord p.1) ps

-- a class cut into its words; white space may stand before the first
abbrev pub IsCut : List Piece → Type 0
IsCut [] = Unit {0}
IsCut (p ∷ ps) = IsSpace p.0 × IsWord p.1 × ArePieces ps

abbrev pub written : Piece → List ℕ
written p = p.0 ++ p.1

-- the words that stay, each behind its white space
abbrev pub kept : Piece → List ℕ
kept p = kept_word p.0 p.1

-- what stays of a class is its words but `ng-cloak`, and the white space at the end
abbrev pub WordsStay : Type 0
WordsStay = (ps : List Piece) (tail : List ℕ) → IsCut ps → IsSpace tail → uncloaked (flat_map written ps ++ tail) ≡ flat_map kept ps ++ tail

-- a class without that word stays as it is
abbrev pub ClassStays : Type 0
ClassStays = (ps : List Piece) (tail : List ℕ) → IsCut ps → IsSpace tail → AllByRecursion (λ (p : Piece). bytes_eq p.1 (codes "ng-cloak") ≡ false) ps → uncloaked (flat_map written ps ++ tail) ≡ flat_map written ps ++ tail

-- and each class can be cut so
abbrev pub EachClassIsCut : Type 0
EachClassIsCut = (x : List ℕ) → (ps : List Piece) × (tail : List ℕ) × IsCut ps × IsSpace tail × (x ≡ flat_map written ps ++ tail)
