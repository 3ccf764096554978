-- The sum of two values: texts are joined, numbers are added.
use Rattle.std.specs.Prelude.{Bool, true, false, List, ◌++◌, Result, Ok, Err, if◌then◌else◌}
use Rattle.ng_base.specs.Meets.{◌>>=◌}
use Rattle.ng_base.specs.Objects.{Object}
use Rattle.ng_base.specs.Views.{ViewTree, prim, list, rec}
use Rattle.ng_base.specs.declared.value.Value.{Value}
use Rattle.ng_base.specs.declared.value.Value.TheVariants as value
use Rattle.ng_base.specs.declared.fault.Fault.{Fault}
use Rattle.ng_language.specs.Operators.{view_num, of_numbers, sum}
use Rattle.ng_language.specs.Texts.{to_text}

abbrev pub is_undefined : ViewTree → Bool
is_undefined (prim value.Undefined) = true
is_undefined t = false

-- a text, an object, a function, a fresh list or record
abbrev pub is_joined : ViewTree → Bool
is_joined (prim (value.Text t)) = true
is_joined (prim (value.Obj o)) = true
is_joined (prim (value.Fun f)) = true
is_joined (prim v) = false
is_joined (list ts) = true
is_joined (rec fs) = true

abbrev pub joined : List Object → ViewTree → ViewTree → Result ViewTree Fault
joined objects t u = to_text objects t >>= λ s. to_text objects u >>= λ r. Ok (prim (value.Text (s ++ r)))

abbrev pub as_view : Result Value Fault → Result ViewTree Fault
as_view (Ok v) = Ok (prim v)
as_view (Err e) = Err e

abbrev pub add_defined : List Object → ViewTree → ViewTree → Result ViewTree Fault
add_defined objects t u =
    if is_joined t then joined objects t u
    else (if is_joined u then joined objects t u else as_view (of_numbers sum (view_num t) (view_num u)))

-- `+`: undefined on one side gives the other side
abbrev pub add : List Object → ViewTree → ViewTree → Result ViewTree Fault
add objects t u = if is_undefined t then Ok u else (if is_undefined u then Ok t else add_defined objects t u)
