-- The coercions and operators of expressions (guide: Expressions).
use Rattle.std.specs.Prelude.{ℕ, ℤ, pos, negsuc, zero, suc, ◌+◌, ◌-◌, ◌*◌, ◌+ℤ◌, ◌-ℤ◌, ◌*ℤ◌, neg_ℤ, int_div, int_rem, Bool, true, false, not, List, [], ◌∷◌, Option, Some, None, Result, Ok, Err, nat_eq, nat_lt, nat_le, ◌==◌, ◌&&◌, ◌||◌, if◌then◌else◌}
use Rattle.std.specs.Char.{is_ascii_whitespace, is_ascii_digit}
use Rattle.std.specs.List.{list_all}
use Rattle.std.specs.Str.{bytes_eq}
use Rattle.std.specs.Ordering.{int_eq}
use Rattle.ng_base.specs.Codes.{plus_sign, hyphen, digit_zero}
use Rattle.ng_base.specs.Trimming.{past}
use Rattle.ng_base.specs.Views.{ViewTree, prim, list, rec}
use Rattle.ng_base.specs.declared.value.Value.{Value}
use Rattle.ng_base.specs.declared.value.Value.TheVariants as value
use Rattle.ng_base.specs.declared.fault.Fault.{Fault}
use Rattle.ng_base.specs.declared.fault.Fault.TheVariants.{NotWhole, Range}
use Rattle.ng_language.specs.Numbers.{is_in_range}

-- digits behind those that were read, and then white space, in range
abbrev pub digits_behind : ℕ → List ℕ → Option ℕ
digits_behind n [] = Some n
digits_behind n (c ∷ cs) =
    if is_ascii_digit c then (if nat_le (10 * n + (c - digit_zero)) 9007199254740991 then digits_behind (10 * n + (c - digit_zero)) cs else None)
    else (if list_all is_ascii_whitespace (c ∷ cs) then Some n else None)

abbrev pub digits : List ℕ → Option ℕ
digits [] = None
digits (c ∷ cs) = if is_ascii_digit c then digits_behind (c - digit_zero) cs else None

abbrev pub positive : Option ℕ → Option ℤ
positive None = None
positive (Some n) = Some (pos n)

abbrev pub negative : Option ℕ → Option ℤ
negative None = None
negative (Some n) = Some (neg_ℤ (pos n))

-- a sign and digits, or nothing
abbrev pub signed : List ℕ → Option ℤ
signed [] = Some (pos 0)
signed (c ∷ cs) = if c == plus_sign then positive (digits cs) else (if c == hyphen then negative (digits cs) else positive (digits (c ∷ cs)))

-- a text as a number
abbrev pub number_in : List ℕ → Option ℤ
number_in t = signed (past is_ascii_whitespace t)

-- a value as a number; none is NaN
abbrev pub num : Value → Option ℤ
num value.Undefined = None
num value.Null = Some (pos 0)
num (value.Bool b) = Some (if b then pos 1 else pos 0)
num (value.Int n) = Some n
num value.Nan = None
num (value.Text t) = number_in t
num (value.Obj o) = None
num (value.Fun f) = None

abbrev pub view_num : ViewTree → Option ℤ
view_num (prim v) = num v
view_num (list ts) = None
view_num (rec fs) = None

-- for `-` and the signs undefined is 0
abbrev pub term_num : ViewTree → Option ℤ
term_num (prim value.Undefined) = Some (pos 0)
term_num t = view_num t

-- false values: undefined, null, false, 0, NaN and the empty text
abbrev pub is_true : Value → Bool
is_true value.Undefined = false
is_true value.Null = false
is_true (value.Bool b) = b
is_true (value.Int n) = not (int_eq n (pos 0))
is_true value.Nan = false
is_true (value.Text []) = false
is_true (value.Text (c ∷ cs)) = true
is_true (value.Obj o) = true
is_true (value.Fun f) = true

abbrev pub truthy : ViewTree → Bool
truthy (prim v) = is_true v
truthy (list ts) = true
truthy (rec fs) = true

-- the same value; NaN is the same as NaN
abbrev pub same : Value → Value → Bool
same value.Undefined value.Undefined = true
same value.Null value.Null = true
same (value.Bool a) (value.Bool b) = if a then b else not b
same (value.Int m) (value.Int n) = int_eq m n
same value.Nan value.Nan = true
same (value.Text s) (value.Text t) = bytes_eq s t
same (value.Obj o) (value.Obj p) = nat_eq o.0 p.0
same (value.Fun f) (value.Fun g) = nat_eq f.0 g.0
same v w = false

-- `===`: NaN equals nothing
abbrev pub strict_same : Value → Value → Bool
strict_same value.Nan w = false
strict_same v w = same v w

-- fresh lists and records equal nothing
abbrev pub strict_eq : ViewTree → ViewTree → Bool
strict_eq (prim v) (prim w) = strict_same v w
strict_eq t u = false

abbrev pub same_number : Option ℤ → Option ℤ → Bool
same_number (Some m) (Some n) = int_eq m n
same_number m n = false

-- `==`: null and undefined equal each other and nothing else, two of one type are compared by `===`, primitives of
-- different types by number, and an object or a function equals no primitive
abbrev pub loose_same : Value → Value → Bool
loose_same value.Undefined value.Undefined = true
loose_same value.Undefined value.Null = true
loose_same value.Null value.Undefined = true
loose_same value.Null value.Null = true
loose_same value.Undefined w = false
loose_same value.Null w = false
loose_same v value.Undefined = false
loose_same v value.Null = false
loose_same (value.Text s) (value.Text t) = bytes_eq s t
loose_same (value.Obj o) (value.Obj p) = nat_eq o.0 p.0
loose_same (value.Fun f) (value.Fun g) = nat_eq f.0 g.0
loose_same (value.Obj o) w = false
loose_same (value.Fun f) w = false
loose_same v (value.Obj p) = false
loose_same v (value.Fun g) = false
loose_same v w = same_number (num v) (num w)

abbrev pub loose_eq : ViewTree → ViewTree → Bool
loose_eq (prim v) (prim w) = loose_same v w
loose_eq t u = false

-- the characters of one text before those of another; what equal texts give stands first
abbrev pub text_before : Bool → List ℕ → List ℕ → Bool
text_before or_equal [] [] = or_equal
text_before or_equal [] (d ∷ ds) = true
text_before or_equal (c ∷ cs) [] = false
text_before or_equal (c ∷ cs) (d ∷ ds) = if nat_lt c d then true else (if nat_eq c d then text_before or_equal cs ds else false)

abbrev pub int_lt : ℤ → ℤ → Bool
int_lt (pos m) (pos n) = nat_lt m n
int_lt (pos m) (negsuc n) = false
int_lt (negsuc m) (pos n) = true
int_lt (negsuc m) (negsuc n) = nat_lt n m

abbrev pub number_before : Bool → Option ℤ → Option ℤ → Bool
number_before or_equal (Some m) (Some n) = if int_lt m n then true else (if int_eq m n then or_equal else false)
number_before or_equal m n = false

-- `<` and `<=`: two texts by their characters, all else by number
abbrev pub less : Bool → ViewTree → ViewTree → Bool
less or_equal (prim (value.Text s)) (prim (value.Text t)) = text_before or_equal s t
less or_equal t u = number_before or_equal (view_num t) (view_num u)

abbrev pub in_range : ℤ → Result Value Fault
in_range n = if is_in_range n then Ok (value.Int n) else Err Range

abbrev pub of_numbers : (ℤ → ℤ → Result Value Fault) → Option ℤ → Option ℤ → Result Value Fault
of_numbers f (Some m) (Some n) = f m n
of_numbers f m n = Ok value.Nan

abbrev pub sum : ℤ → ℤ → Result Value Fault
sum m n = in_range (m +ℤ n)

abbrev pub difference : ℤ → ℤ → Result Value Fault
difference m n = in_range (m -ℤ n)

abbrev pub product : ℤ → ℤ → Result Value Fault
product m n = in_range (m *ℤ n)

-- a whole quotient
abbrev pub quotient : ℤ → ℤ → Result Value Fault
quotient m n = if int_eq n (pos 0) then Err NotWhole else (if int_eq (int_rem m n) (pos 0) then in_range (int_div m n) else Err NotWhole)

-- the rest has the dividend's sign
abbrev pub remainder : ℤ → ℤ → Result Value Fault
remainder m n = if int_eq n (pos 0) then Err NotWhole else in_range (int_rem m n)

abbrev pub sub : ViewTree → ViewTree → Result Value Fault
sub t u = of_numbers difference (term_num t) (term_num u)

abbrev pub mul : ViewTree → ViewTree → Result Value Fault
mul t u = of_numbers product (view_num t) (view_num u)

abbrev pub div : ViewTree → ViewTree → Result Value Fault
div t u = of_numbers quotient (view_num t) (view_num u)

abbrev pub remainder_of : ViewTree → ViewTree → Result Value Fault
remainder_of t u = of_numbers remainder (view_num t) (view_num u)
