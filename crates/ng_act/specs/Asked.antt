-- What opens a body or an event, and what may open one.
use Rattle.std.specs.Prelude.{ℕ, List}
use Rattle.ng_base.specs.Views.{ViewTree}
use Rattle.ng_language.specs.Trees.{Trees}
use Rattle.ng_members.specs.Leaves.{Local}
use Rattle.ng_core.specs.State.{State, Run}

-- what opens a body or an event: a program on a scope with its locals, and an event of a name with its arguments
pub data Asked : Type 0 where
  a_body : ℕ → List Local → Trees → Asked
  an_emit : ℕ → List ℕ → List ViewTree → Asked
  a_broadcast : ℕ → List ℕ → List ViewTree → Asked

abbrev pub Doing : Type 0
Doing = Asked → State → Run ViewTree
