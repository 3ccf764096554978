-- Where a counter of names or serials, from which the calls on a page draw, stands at its type's last value.
use Rattle.std.specs.Prelude.{Bool, ◌||◌, eqb}
use Rattle.ng_act.specs.Worn as act
use Rattle.ng_link.specs.State.{State}

-- no further function or node has a name, or no further registration has a number. The numbers of scopes never come to their
-- last value, since each scope has an object and the store is full before
abbrev pub is_worn : State → Bool
is_worn s = act.is_worn s.core || eqb s.next_node 18446744073709551615
