-- What is made along the left of an assignment (guide: Expressions, "Context").
use Rattle.std.specs.Prelude.{ℕ, Bool, true, false, List, [], Ok}
use Rattle.ng_base.specs.Objects.{Object}
use Rattle.ng_base.specs.Views.{ViewTree, prim}
use Rattle.ng_base.specs.declared.value.Value.{Value}
use Rattle.ng_base.specs.declared.value.Value.TheVariants as value
use Rattle.ng_members.specs.Members.{member}
use Rattle.ng_write.specs.Written.{Written, ◌>>◌}
use Rattle.ng_write.specs.Storing.{with_object, plain_with}
use Rattle.ng_write.specs.Assigning.{member_assigned}

abbrev pub value_in : ViewTree → Value
value_in (prim v) = v
value_in t = value.Undefined

-- the value of a member of a value
abbrev pub member_value : List Object → Value → List ℕ → Value
member_value objects w name = value_in (member objects (prim w) name)

abbrev pub is_nothing : Value → Bool
is_nothing value.Undefined = true
is_nothing value.Null = true
is_nothing v = false

-- an empty object, once it is assigned
abbrev pub made_where : Bool → Value → List Object → (Value → List Object → Written (Unit {0})) → Written Value
made_where true found objects assign = with_object (plain_with []) objects >> λ new now. assign new now >> λ u after. (after, Ok new)
made_where false found objects assign = (objects, Ok found)

-- `a.b` along the left of an assignment: where it is undefined or null it is first made an empty object
abbrev pub made_member : List Object → Value → List ℕ → Written Value
made_member objects w name =
    made_where (is_nothing (member_value objects w name)) (member_value objects w name) objects (λ new now. member_assigned now w name new)
