use Rattle.std.proofs.Common.{◌≡◌, ℕ, List}
use Rattle.std.specs.Map.{keys_of as map_keys}
use Rattle.ng_instances.specs.Changing.{any_on}
use Rattle.ng_instances.specs.InstanceOf.{page_of}
use Rattle.ng_instances.proofs.registering.any_lives.Given as goal

abbrev pub invariant-loop-serial : goal.invariant-loop-serial
invariant-loop-serial l = (path : List ℕ) → any_on l.core.scopes (page_of path l.one) l.serial-iterator ≡ any_on l.core.scopes (page_of path l.one) (map_keys l.one.spots.entries)
