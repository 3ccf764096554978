-- What is read leaves no more than there was.
use Rattle.std.proofs.Common.{◌≤◌, ◌<◌, ℕ, Bool, true, false, List, [], ◌∷◌, ◌++◌, length, arith}
use Rattle.std.specs.Prelude.{Option, None, Some, if◌then◌else◌, ◌==◌}
use Rattle.ng_base.specs.Cells.{Cell}
use Rattle.std.specs.Char.{is_ascii_alphabetic}
use Rattle.ng_tags.specs.Letters.{is_space, is_in_name, lower}
use Rattle.ng_tags.specs.Skips.{past_spaces, past, name_run}
use Rattle.ng_tags.specs.References.{Read, named_character, is_digit_of, digit_value, with_digit, digit_run, numbered, number_from, number_at, behind_sign, letter_run, read_so, named, name_from, reference, or_itself, character}
use Rattle.ng_tags.specs.declared.base.Base.{Base}
use Rattle.ng_tags.specs.declared.base.Base.TheVariants as base

-- what holds of both ways holds of the chosen one
abbrev pub Left : {A : Type 0} → A × List Cell → ℕ → Type 0
Left r m = length r.1 ≤ m

pub either : {A : Type 0} (b : Bool) (x y : A × List Cell) (m : ℕ) → Left x m → Left y m → Left (if b then x else y) m
either true x y m h i = h
either false x y m h i = i

abbrev pub LeftSome : {A : Type 0} → Option (A × List Cell) → ℕ → Type 0
LeftSome None m = Unit {0}
LeftSome (Some r) m = length r.1 ≤ m

pub either_some : {A : Type 0} (b : Bool) (x y : Option (A × List Cell)) (m : ℕ) → LeftSome x m → LeftSome y m → LeftSome (if b then x else y) m
either_some true x y m h i = h
either_some false x y m h i = i

pub more_left : {A : Type 0} (x : Option (A × List Cell)) (m n : ℕ) → LeftSome x m → m ≤ n → LeftSome x n
more_left None m n h i = tt
more_left (Some r) m n h i = omega arith

abbrev pub LeftCells : Option (List Cell) → ℕ → Type 0
LeftCells None m = Unit {0}
LeftCells (Some cs) m = length cs < m

pub either_cells : (b : Bool) (x y : Option (List Cell)) (m : ℕ) → LeftCells x m → LeftCells y m → LeftCells (if b then x else y) m
either_cells true x y m h i = h
either_cells false x y m h i = i

pub either_list : (b : Bool) (x y : List Cell) (m : ℕ) → length x ≤ m → length y ≤ m → length (if b then x else y) ≤ m
either_list true x y m h i = h
either_list false x y m h i = i

pub spaces_less : (cs : List Cell) → length (past_spaces cs) ≤ length cs
spaces_less [] = omega arith
spaces_less (c ∷ cs) = either_list (is_space c.0) (past_spaces cs) (c ∷ cs) (length (c ∷ cs)) (omega (arith, spaces_less cs)) (omega arith)

pub past_less : (d : ℕ) (cs : List Cell) → LeftCells (past d cs) (length cs)
past_less d [] = tt
past_less d (c ∷ cs) = either_cells (c.0 == d) (Some cs) None (length (c ∷ cs)) (omega arith) tt

pub name_less : (n : List ℕ) (cs : List Cell) → Left (name_run n cs) (length cs)
name_less n [] = omega arith
name_less n (c ∷ cs) = either (is_in_name c.0) (name_run (n ++ lower c.0 ∷ []) cs) (n, c ∷ cs) (length (c ∷ cs)) (omega (arith, name_less (n ++ lower c.0 ∷ []) cs)) (omega arith)

pub letter_less : (n : List ℕ) (cs : List Cell) → Left (letter_run n cs) (length cs)
letter_less n [] = omega arith
letter_less n (c ∷ cs) = either (is_ascii_alphabetic c.0) (letter_run (n ++ c.0 ∷ []) cs) (n, c ∷ cs) (length (c ∷ cs)) (omega (arith, letter_less (n ++ c.0 ∷ []) cs)) (omega arith)

pub digit_less : (b : Base) (n : ℕ) (cs : List Cell) → Left (digit_run b n cs) (length cs)
digit_less b n [] = omega arith
digit_less b n (c ∷ cs) = either (is_digit_of b c.0) (digit_run b (with_digit b n (digit_value c.0)) cs) (n, c ∷ cs) (length (c ∷ cs)) (omega (arith, digit_less b (with_digit b n (digit_value c.0)) cs)) (omega arith)

numbered_less : (n : ℕ) (cs : List Cell) (o : Option (List Cell)) (m : ℕ) → LeftCells o (length cs) → length cs ≤ m → Left (numbered n cs o) m
numbered_less n cs None m h i = i
numbered_less n cs (Some rest) m h i = omega arith

number_less : (b : Base) (cs : List Cell) → LeftSome (number_at b cs) (length cs)
number_less b [] = tt
number_less b (c ∷ cs) =
    let r = digit_run b 0 (c ∷ cs) in
    either_some (is_digit_of b c.0) (Some (number_from r)) None (length (c ∷ cs)) (numbered_less r.0 r.1 (past 59 r.1) (length (c ∷ cs)) (past_less 59 r.1) (digit_less b 0 (c ∷ cs))) tt

sign_less : (cs : List Cell) → LeftSome (behind_sign cs) (length cs)
sign_less [] = tt
sign_less (c ∷ cs) =
    either_some (c.0 == 120) (number_at base.Hexadecimal cs) (number_at base.Decimal (c ∷ cs)) (length (c ∷ cs))
    (more_left (number_at base.Hexadecimal cs) (length cs) (length (c ∷ cs)) (number_less base.Hexadecimal cs) (omega arith))
    (number_less base.Decimal (c ∷ cs))

so_less : (o : Option ℕ) (rest : List Cell) (m : ℕ) → length rest ≤ m → LeftSome (read_so o rest) m
so_less None rest m h = tt
so_less (Some x) rest m h = h

named_less : (n : List ℕ) (o : Option (List Cell)) (k m : ℕ) → LeftCells o k → k ≤ m → LeftSome (named n o) m
named_less n None k m h i = tt
named_less n (Some rest) k m h i = so_less (named_character n) rest m (omega arith)

reference_less : (cs : List Cell) → LeftSome (reference cs) (length cs)
reference_less [] = tt
reference_less (c ∷ cs) =
    let r = letter_run (c.0 ∷ []) cs in
    either_some (c.0 == 35) (behind_sign cs) (if is_ascii_alphabetic c.0 then name_from r else None) (length (c ∷ cs))
    (more_left (behind_sign cs) (length cs) (length (c ∷ cs)) (sign_less cs) (omega arith))
    (either_some (is_ascii_alphabetic c.0) (name_from r) None (length (c ∷ cs)) (let less = letter_less (c.0 ∷ []) cs in named_less r.0 (past 59 r.1) (length r.1) (length (c ∷ cs)) (past_less 59 r.1) (omega (arith, less))) tt)

itself_less : (cs : List Cell) (o : Option Read) → LeftSome o (length cs) → Left (or_itself cs o) (length cs)
itself_less cs None h = omega arith
itself_less cs (Some r) h = h

pub character_less : (c : ℕ) (cs : List Cell) → Left (character c cs) (length cs)
character_less c cs = either (c == 38) (or_itself cs (reference cs)) (Some c, cs) (length cs) (itself_less cs (reference cs) (reference_less cs)) (omega arith)
