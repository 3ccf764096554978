use Rattle.std.proofs.Common.{◌≡◌, ◌++◌, map, decimal, drop}
use Rattle.ng_base.specs.Objects.{other_names}
use Rattle.ng_store.specs.NamesOf.{all_nameless}
use Rattle.ng_store.proofs.names.all_names.Given as goal

abbrev pub invariant-loop-name : goal.invariant-loop-name
invariant-loop-name l = l.names ++ other_names (all_nameless (drop l.name-index l.own)) ≡ map decimal l.indices.keys ++ other_names (all_nameless l.own)
