-- Words that the laws of controls use.
use Rattle.std.specs.Prelude.{ℕ, List}
use Rattle.ng_base.specs.Objects.{Object}
use Rattle.ng_base.specs.Views.{ViewTree, prim}
use Rattle.ng_control.specs.State.{ControlState}
use Rattle.ng_control.specs.Typed.{parsed}

-- a control that stands over a heap, and a model
pub record Seen : Type 0 where
  pub objects : List Object
  pub control : ControlState
  pub model : ViewTree

-- the model that a typed text becomes
abbrev pub model_of : ControlState → List ℕ → ViewTree
model_of c t = prim (parsed c.kind t)
