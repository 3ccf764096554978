-- The methods by their names.
use Rattle.std.specs.Prelude.{ℕ, Bool, true, List, Option, Some, None, is_some, codes, if◌then◌else◌}
use Rattle.std.specs.Str.{bytes_eq}
use Rattle.ng_members.specs.declared.methods.Method.{Method}
use Rattle.ng_members.specs.declared.methods.Method.TheVariants as methods

-- the methods of arrays and fresh lists
abbrev pub list_method : List ℕ → Option Method
list_method name =
    if bytes_eq name (codes "indexOf") then Some methods.IndexOf
    else (if bytes_eq name (codes "slice") then Some methods.Slice
    else (if bytes_eq name (codes "concat") then Some methods.Concat
    else (if bytes_eq name (codes "join") then Some methods.Join
    else None)))

-- the methods of texts
abbrev pub text_method : List ℕ → Option Method
text_method name =
    if bytes_eq name (codes "indexOf") then Some methods.Find
    else (if bytes_eq name (codes "trim") then Some methods.Trim
    else (if bytes_eq name (codes "toUpperCase") then Some methods.Upper
    else (if bytes_eq name (codes "toLowerCase") then Some methods.Lower
    else None)))

-- a method that changes nothing
abbrev pub is_pure_method : List ℕ → Bool
is_pure_method name = if is_some (list_method name) then true else is_some (text_method name)
