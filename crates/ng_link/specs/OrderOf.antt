-- What the order of linking in the code stands for.
use Rattle.std.specs.Prelude.{ℕ, ◌≡◌, true, map, slice_get, slice_index_or}
use Rattle.std.specs.List.{AllByRecursion, list_any}
use Rattle.std.specs.Option.{option_map_or}
use Rattle.ng_drawing.specs.Template.{Site, OutletScope, Fragment}
use Rattle.ng_parse.specs.ProgramOf.{program}
use Rattle.ng_build.specs.Linking.{steps as steps_in, is_binds}
use Rattle.ng_instances.specs.declared.linking.Order.{Order}
use Rattle.ng_build.specs.StepOf.{step_of, IsWatchable}

-- The steps of a fragment, the programs of its sites, where properties are bound, and the scopes of its outlets
pub record IsOrderOf (f : Fragment) (o : Order) : Type 0 where
  pub steps : map step_of o.steps.items ≡ steps_in f.parts
  pub programs : list_any is_binds (steps_in f.parts) ≡ true → map program o.programs.items ≡ map (λ (x : Site). x.program) f.sites
  pub pure : AllByRecursion IsWatchable (map program o.programs.items)
  pub outlets : (i : ℕ) → slice_index_or o.outlets.items i 0 ≡ option_map_or (λ (s : OutletScope). s.scope) (slice_get f.spots i) 0
