-- The outlets that a site fills.
use Rattle.std.specs.Prelude.{ℕ, ◌+◌, List, [], ◌∷◌, map, Option, None, Some, if◌then◌else◌}
use Rattle.ng_base.specs.declared.path.Key.{Key}
use Rattle.ng_drawing.specs.Template.{Filling, body_if, on_case, for_each, by_name}
use Rattle.ng_drawing.specs.declared.origin.Home.{Home}
use Rattle.ng_parts.specs.FragmentOf.{filling_of}
use Rattle.ng_behaviour.specs.Keys.{is_key}
use Rattle.ng_instances.specs.Instances.{Body, OutletState, Linked, key_in, is_filled_by}
use Rattle.ng_instances.specs.InstanceOf.{body_of}
use Rattle.ng_instances.specs.declared.filling.Due as code

-- an outlet by its number, how it is filled, where the bodies come from, the scopes round them and outside, and those that stand
pub record Due : Type 0 where
  pub outlet : ℕ
  pub home : Home
  pub scope : ℕ
  pub outsides : List ℕ
  pub filling : Filling
  pub bodies : List Body

abbrev pub due_of : code.Due → Due
due_of d = record { outlet = d.outlet; home = d.home; scope = d.scope.0; outsides = map (λ s. s.0) d.outsides.items; filling = filling_of d.filling; bodies = map body_of d.bodies.items }

abbrev pub due_at : ℕ → OutletState → Due
due_at o x = record { outlet = o; home = x.home; scope = x.scope; outsides = x.outsides; filling = x.filling; bodies = x.bodies }

abbrev pub due_from : ℕ → ℕ → List OutletState → List Due
due_from serial o [] = []
due_from serial o (x ∷ xs) = if is_filled_by serial x then due_at o x ∷ due_from serial (o + 1) xs else due_from serial (o + 1) xs

-- The bodies of an outlet that may go at once. Rows are looked up where they stand when they change.
abbrev pub told_bodies : Filling → List Body → List Body
told_bodies (body_if b) bs = bs
told_bodies (on_case c b) bs = bs
told_bodies (for_each r b) bs = []
told_bodies (by_name b) bs = bs

abbrev pub without_rows : Due → Due
without_rows d = record d { bodies = told_bodies d.filling d.bodies }

-- the outlets that the site of a key fills, in order
abbrev pub all_due : Key → Option Linked → List Due
all_due k None = []
all_due k (Some l) = if is_key k (key_in l.page k.serial.0) then due_from k.serial.0 0 l.page.outlets else []
