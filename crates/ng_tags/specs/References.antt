-- References: characters by name or number.
use Rattle.std.specs.Prelude.{Bool, ℕ, ◌+◌, ◌-◌, ◌*◌, min, ◌==◌, ◌&&◌, ◌||◌, nat_le, not, List, [], ◌∷◌, ◌++◌, Option, None, Some, codes, if◌then◌else◌}
use Rattle.std.specs.Str.{bytes_eq}
use Rattle.ng_base.specs.Codes as char
use Rattle.ng_base.specs.Cells.{Cell}
use Rattle.std.specs.Char.{is_ascii_alphabetic, is_ascii_digit}
use Rattle.ng_tags.specs.Skips.{past}
use Rattle.ng_tags.specs.declared.base.Base.{Base}
use Rattle.ng_tags.specs.declared.base.Base.TheVariants as base

-- the characters that have names
unfoldable pub named_character : List ℕ → Option ℕ
named_character n =
    if bytes_eq n (codes "amp") then Some 0x26
    else if bytes_eq n (codes "lt") then Some 0x3C
    else if bytes_eq n (codes "gt") then Some 0x3E
    else if bytes_eq n (codes "quot") then Some 0x22
    else if bytes_eq n (codes "apos") then Some 0x27
    else if bytes_eq n (codes "nbsp") then Some 0xA0
    else if bytes_eq n (codes "copy") then Some 0xA9
    else if bytes_eq n (codes "reg") then Some 0xAE
    else if bytes_eq n (codes "deg") then Some 0xB0
    else if bytes_eq n (codes "middot") then Some 0xB7
    else if bytes_eq n (codes "laquo") then Some 0xAB
    else if bytes_eq n (codes "raquo") then Some 0xBB
    else if bytes_eq n (codes "times") then Some 0xD7
    else if bytes_eq n (codes "ndash") then Some 0x2013
    else if bytes_eq n (codes "mdash") then Some 0x2014
    else if bytes_eq n (codes "lsquo") then Some 0x2018
    else if bytes_eq n (codes "rsquo") then Some 0x2019
    else if bytes_eq n (codes "ldquo") then Some 0x201C
    else if bytes_eq n (codes "rdquo") then Some 0x201D
    else if bytes_eq n (codes "bull") then Some 0x2022
    else if bytes_eq n (codes "hellip") then Some 0x2026
    else if bytes_eq n (codes "euro") then Some 0x20AC
    else if bytes_eq n (codes "trade") then Some 0x2122
    else if bytes_eq n (codes "larr") then Some 0x2190
    else if bytes_eq n (codes "uarr") then Some 0x2191
    else if bytes_eq n (codes "rarr") then Some 0x2192
    else if bytes_eq n (codes "darr") then Some 0x2193
    else None

abbrev pub radix : Base → ℕ
radix base.Decimal = 10
radix base.Hexadecimal = 16

abbrev pub is_digit_of : Base → ℕ → Bool
is_digit_of base.Decimal c = is_ascii_digit c
is_digit_of base.Hexadecimal c = is_ascii_digit c || (nat_le 65 c && nat_le c 70) || (nat_le 97 c && nat_le c 102)

abbrev pub digit_value : ℕ → ℕ
digit_value c = if nat_le c 57 then c - 48 else if nat_le c 70 then c - 55 else c - 87

-- the number just above the last character
abbrev pub too_large : ℕ
too_large = 0x110000

-- one digit more; what is above the last character stays just above it
abbrev pub with_digit : Base → ℕ → ℕ → ℕ
with_digit b n v = min (radix b * n + v) too_large

-- the number of a character: not 0, no control character from 80 to 9F, no surrogate, none above the last
abbrev pub is_character : ℕ → Bool
is_character n = not (n == 0 || (nat_le 0x80 n && nat_le n 0x9F) || (nat_le 0xD800 n && nat_le n 0xDFFF) || nat_le too_large n)

-- the value of these digits and those at the front of the cells
abbrev pub digit_run : Base → ℕ → List Cell → ℕ × List Cell
digit_run b n [] = (n, [])
digit_run b n (c ∷ cs) = if is_digit_of b c.0 then digit_run b (with_digit b n (digit_value c.0)) cs else (n, c ∷ cs)

-- what a reference reads as, and what is left: nothing is no character, which is refused
abbrev pub Read : Type 0
Read = Option ℕ × List Cell

-- the end of a number is its `;`
abbrev pub numbered : ℕ → List Cell → Option (List Cell) → Read
numbered n cs None = (None, cs)
numbered n cs (Some rest) = (if is_character n then Some n else None, rest)

abbrev pub number_from : ℕ × List Cell → Read
number_from r = numbered r.0 r.1 (past char.semicolon r.1)

-- a number, if a digit stands first
abbrev pub number_at : Base → List Cell → Option Read
number_at b [] = None
number_at b (c ∷ cs) = if is_digit_of b c.0 then Some (number_from (digit_run b 0 (c ∷ cs))) else None

-- behind `&#`
abbrev pub behind_sign : List Cell → Option Read
behind_sign [] = None
behind_sign (c ∷ cs) = if c.0 == char.letter_x then number_at base.Hexadecimal cs else number_at base.Decimal (c ∷ cs)

abbrev pub letter_run : List ℕ → List Cell → List ℕ × List Cell
letter_run n [] = (n, [])
letter_run n (c ∷ cs) = if is_ascii_alphabetic c.0 then letter_run (n ++ c.0 ∷ []) cs else (n, c ∷ cs)

abbrev pub read_so : Option ℕ → List Cell → Option Read
read_so None rest = None
read_so (Some x) rest = Some (Some x, rest)

-- the end of a name is its `;`
abbrev pub named : List ℕ → Option (List Cell) → Option Read
named n None = None
named n (Some rest) = read_so (named_character n) rest

abbrev pub name_from : List ℕ × List Cell → Option Read
name_from r = named r.0 (past char.semicolon r.1)

-- the reference that stands behind an `&`, if there is one
abbrev pub reference : List Cell → Option Read
reference [] = None
reference (c ∷ cs) =
    if c.0 == char.number_sign then behind_sign cs
    else if is_ascii_alphabetic c.0 then name_from (letter_run (c.0 ∷ []) cs)
    else None

-- an `&` that begins no reference stands for itself
abbrev pub or_itself : List Cell → Option Read → Read
or_itself cs None = (Some char.ampersand, cs)
or_itself cs (Some r) = r

-- what stands at the front reads as this character, and what is left
abbrev pub character : ℕ → List Cell → Read
character c cs = if c == char.ampersand then or_itself cs (reference cs) else (Some c, cs)
