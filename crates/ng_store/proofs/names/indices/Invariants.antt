use Rattle.std.proofs.Common.{◌≡◌, [], drop}
use Rattle.ng_base.specs.Objects.{indices_from}
use Rattle.ng_store.specs.NamesOf.{all_nameless}
use Rattle.ng_store.proofs.names.indices.Given as goal

abbrev pub invariant-loop-name : goal.invariant-loop-name
invariant-loop-name l = indices_from l.indices.keys (all_nameless (drop l.name-index l.names)) ≡ indices_from [] (all_nameless l.names)
