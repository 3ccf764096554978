-- What a linking in the code stands for.
use Rattle.std.specs.Prelude.{ℕ, ◌<◌, ◌≡◌, List, length, map}
use Rattle.std.specs.List.{AllByRecursion}
use Rattle.std.specs.declared.alloc.Global.{Global}
use Rattle.std.specs.declared.vec.Vec.{Vec}
use Rattle.ng_steps.specs.Links.{Linking}
use Rattle.ng_steps.specs.declared.progress.Progress.{Progress}
use Rattle.ng_drawing.specs.Template.{Site, Fragment}
use Rattle.ng_instances.specs.BoundOf.{registered_of}
use Rattle.ng_build.specs.Linking.{LinkStep, makes, stops, opens, binds, installs, starts, starts_at, registers, leaves}
use Rattle.ng_instances.specs.declared.linking.Order.{Order}
use Rattle.ng_parse.specs.ProgramOf.{program}
use Rattle.ng_instances.specs.Registering.{Ground}
use Rattle.ng_link.specs.State.{state_of}
use Rattle.ng_link.specs.declared.works.Works.{Works}

abbrev pub linking : Works → Progress → Linking
linking w p = record { state = state_of w; made = registered_of p.made; added = p.added; fault = p.fault }

-- texts as they are
abbrev pub texts_of : Vec (List ℕ) Global → List (List ℕ)
texts_of v = v.items

abbrev pub AreBelow : ℕ → List ℕ → Type 0
AreBelow count ns = AllByRecursion (λ (n : ℕ). n < count) ns

-- the scopes of an instance, and those outside what its slots are given, are among so many
pub record IsGround (count : ℕ) (g : Ground) : Type 0 where
  pub scopes : AreBelow count g.scopes
  pub outsides : AreBelow count g.outsides

-- so are those of a linking in works
abbrev pub IsGrounded : Works → Progress → Type 0
IsGrounded w p = IsGround (length w.core.scopes) (registered_of p.made).at_hand

-- the programs of the sites of a fragment are there where a step binds
abbrev pub HasPrograms : Fragment → Order → LinkStep → Type 0
HasPrograms f o makes = Unit {0}
HasPrograms f o stops = Unit {0}
HasPrograms f o (opens x) = Unit {0}
HasPrograms f o (binds b i v) = map program o.programs.items ≡ map (λ (x : Site). x.program) f.sites
HasPrograms f o (installs d s) = Unit {0}
HasPrograms f o (starts s p) = Unit {0}
HasPrograms f o (starts_at n p) = Unit {0}
HasPrograms f o registers = Unit {0}
HasPrograms f o (leaves d s) = Unit {0}
