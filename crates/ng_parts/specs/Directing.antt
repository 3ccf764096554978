-- What a directive does on its scope (guide: Directives, "Creating Directives").
use Rattle.std.specs.Prelude.{ℕ, List}
use Rattle.ng_language.specs.Trees.{Trees}
use Rattle.ng_language.specs.declared.snapshots.SnapKind.{SnapKind}

-- a function that is installed: its name, its parameters, its program
pub record Function : Type 0 where
  pub name : List ℕ
  pub params : List (List ℕ)
  pub body : Trees

-- a watch that is declared: what it compares, what is watched, and what runs
pub record Watching : Type 0 where
  pub kind : SnapKind
  pub watched : Trees
  pub body : Trees

-- a listener that is registered: the event, and what runs
pub record Hearing : Type 0 where
  pub name : List ℕ
  pub body : Trees

-- functions are installed before the children of the element are linked; watches, listeners and a program come after them
pub record Programs : Type 0 where
  pub functions : List Function
  pub watches : List Watching
  pub listeners : List Hearing
  pub link : Trees
