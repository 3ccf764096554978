use Rattle.std.proofs.Common.{◌≡◌, [], bytes_eq, drop}
use Rattle.indexmap.specs.IndexSet.{insert_all}
use Rattle.ng_store.proofs.shapes.copied.Given as goal

abbrev pub invariant-loop-name : goal.invariant-loop-name
invariant-loop-name l = insert_all bytes_eq l.all.keys (drop l.name-index l.name-items) ≡ insert_all bytes_eq [] l.name-items
