-- A way to go on where there is something, and another where there is nothing.
use Rattle.std.specs.Prelude.{Option, Some, None}

abbrev pub when_some : {A B : Type 0} → Option A → (A → B) → B → B
when_some (Some a) f d = f a
when_some None f d = d
