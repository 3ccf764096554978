-- The filters `number` and `json` (API: `number`, `json`).
use Rattle.std.specs.Prelude.{ℕ, zero, suc, ℤ, pos, negsuc, ◌%◌, min, Bool, true, false, not, List, [], ◌∷◌, ◌++◌, length, Option, Some, None, Result, Ok, decimal, nat_le, ◌==◌, ◌&&◌, if◌then◌else◌}
use Rattle.ng_base.specs.Codes.{comma, hyphen, full_stop, digit_zero}
use Rattle.ng_base.specs.Meets.{◌>>=◌}
use Rattle.ng_base.specs.Objects.{Object}
use Rattle.ng_base.specs.Views.{ViewTree, prim}
use Rattle.ng_base.specs.declared.value.Value.{Value}
use Rattle.ng_base.specs.declared.value.Value.TheVariants as value
use Rattle.ng_base.specs.declared.fault.Fault.{Fault}
use Rattle.ng_language.specs.Operators.{number_in, truthy}
use Rattle.ng_language.specs.Texts.{json_text}
use Rattle.ng_filters.specs.Parts.{undefined}

-- a comma stands where three, six, nine .. digits follow
abbrev pub with_comma : ℕ → List ℕ → List ℕ
with_comma left cs = if left == 0 then cs else (if left % 3 == 0 then comma ∷ cs else cs)

abbrev pub grouped : List ℕ → List ℕ
grouped [] = []
grouped (d ∷ ds) = d ∷ with_comma (length ds) (grouped ds)

-- a number with its digits in groups of three
abbrev pub grouped_number : ℤ → List ℕ
grouped_number (pos n) = grouped (decimal n)
grouped_number (negsuc n) = hyphen ∷ grouped (decimal (suc n))

abbrev pub zeros : ℕ → List ℕ
zeros zero = []
zeros (suc n) = digit_zero ∷ zeros n

-- the places behind the point: as many zeros as a whole number from 1 to 20 says, and else not even a point
abbrev pub fraction : ViewTree → List ℕ
fraction (prim (value.Int (pos n))) = if nat_le 1 n && nat_le n 20 then full_stop ∷ zeros n else []
fraction t = []

-- NaN is the empty text
abbrev pub formatted : Option ℤ → ViewTree → List ℕ
formatted None size = []
formatted (Some n) size = grouped_number n ++ fraction size

-- a number, or the number in a text; null and undefined are themselves, and all else is the empty text
abbrev pub number : ViewTree → ViewTree → ViewTree
number (prim value.Undefined) size = prim value.Undefined
number (prim value.Null) size = prim value.Null
number (prim (value.Int n)) size = prim (value.Text (formatted (Some n) size))
number (prim (value.Text t)) size = prim (value.Text (formatted (number_in t) size))
number t size = prim (value.Text [])

-- how far the lines of a JSON text are indented: 2 where nothing is said, and at most 10
abbrev pub indent : ViewTree → ℕ
indent (prim value.Undefined) = 2
indent (prim (value.Int (pos n))) = min n 10
indent (prim (value.Int (negsuc n))) = 0
indent (prim value.Nan) = 0
indent t = if truthy t then 2 else 0

-- a value as JSON; undefined is itself
abbrev pub json : List Object → ViewTree → ViewTree → Result ViewTree Fault
json objects (prim value.Undefined) spacing = Ok undefined
json objects t spacing = json_text objects (indent spacing) t >>= λ s. Ok (prim (value.Text s))
