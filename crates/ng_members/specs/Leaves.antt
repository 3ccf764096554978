-- The values of names, numbers and words, and what an operator gives (guide: Expressions).
use Rattle.std.specs.Prelude.{ℕ, pos, Bool, true, false, not, List, Option, Some, None, Result, Ok, decimal}
use Rattle.std.specs.Str.{bytes_eq}
use Rattle.std.specs.Map.{lookup}
use Rattle.std.specs.List.{AllByRecursion}
use Rattle.ng_base.specs.Objects.{Object, StandsAmong}
use Rattle.ng_base.specs.Views.{ViewTree, prim}
use Rattle.ng_base.specs.declared.value.Value.{Value}
use Rattle.ng_base.specs.declared.value.Value.TheVariants as value
use Rattle.ng_base.specs.declared.fault.Fault.{Fault}
use Rattle.ng_language.specs.Objects.{look}
use Rattle.ng_language.specs.Operators.{sub, mul, div, remainder_of, truthy, less, loose_eq, strict_eq}
use Rattle.ng_language.specs.Sums.{add, as_view}
use Rattle.ng_language.specs.Views.{ViewStands}
use Rattle.ng_language.specs.declared.syntax.Constant.{Constant}
use Rattle.ng_language.specs.declared.syntax.Constant.TheVariants as constants
use Rattle.ng_language.specs.declared.syntax.Unary.{Unary}
use Rattle.ng_language.specs.declared.syntax.Unary.TheVariants as unaries
use Rattle.ng_language.specs.declared.syntax.Binary.{Binary}
use Rattle.ng_language.specs.declared.syntax.Binary.TheVariants as binaries
use Rattle.ng_language.specs.declared.syntax.Label.{Label}
use Rattle.ng_language.specs.declared.syntax.Label.TheVariants as labels
use Rattle.ng_members.specs.Members.{or_undefined}

-- a local: a name with its value
abbrev pub Local : Type 0
Local = List ℕ × Value

-- the values of locals name objects that stand
abbrev pub LocalsStand : ℕ → List Local → Type 0
LocalsStand count locals = AllByRecursion (λ (l : Local). StandsAmong count l.1) locals

abbrev pub or_from : Option Value → Option Value → Option Value
or_from (Some v) o = Some v
or_from None o = o

-- a bare name: a local, else what the scope or its prototypes have
unfoldable pub named : List Object → ℕ → List Local → List ℕ → ViewTree
named objects scope locals name = or_undefined (or_from (lookup (bytes_eq name) locals) (look objects scope name))

abbrev pub constant_value : Constant → Value
constant_value constants.True = value.Bool true
constant_value constants.False = value.Bool false
constant_value constants.Null = value.Null
constant_value constants.Undefined = value.Undefined

-- the written name of a pair
abbrev pub label_name : Label → List ℕ
label_name (labels.Name n) = n
label_name (labels.Text t) = t
label_name (labels.Number n) = decimal n

-- `+x` is `x - 0` and `-x` is `0 - x`
unfoldable pub sign_value : Unary → ViewTree → Result ViewTree Fault
sign_value unaries.Plus t = as_view (sub t (prim (value.Int (pos 0))))
sign_value unaries.Minus t = as_view (sub (prim (value.Int (pos 0))) t)
sign_value unaries.Not t = Ok (prim (value.Bool (not (truthy t))))

abbrev pub truth : Bool → Result ViewTree Fault
truth b = Ok (prim (value.Bool b))

unfoldable pub operator_value : List Object → Binary → ViewTree → ViewTree → Result ViewTree Fault
operator_value objects binaries.Multiply t u = as_view (mul t u)
operator_value objects binaries.Divide t u = as_view (div t u)
operator_value objects binaries.Remainder t u = as_view (remainder_of t u)
operator_value objects binaries.Add t u = add objects t u
operator_value objects binaries.Subtract t u = as_view (sub t u)
operator_value objects binaries.Less t u = truth (less false t u)
operator_value objects binaries.Greater t u = truth (less false u t)
operator_value objects binaries.AtMost t u = truth (less true t u)
operator_value objects binaries.AtLeast t u = truth (less true u t)
operator_value objects binaries.Equal t u = truth (loose_eq t u)
operator_value objects binaries.NotEqual t u = truth (not (loose_eq t u))
operator_value objects binaries.Same t u = truth (strict_eq t u)
operator_value objects binaries.NotSame t u = truth (not (strict_eq t u))

abbrev pub Field : Type 0
Field = List ℕ × ViewTree

-- the values of fields name objects that stand
abbrev pub FieldsAllStand : ℕ → List Field → Type 0
FieldsAllStand count fs = AllByRecursion (λ (f : Field). ViewStands count f.1) fs
