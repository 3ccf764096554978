-- A node that is lent out to be changed.
use Rattle.std.specs.Prelude.{ℕ, Option}
use Rattle.std.specs.Borrow.{Lends, LendsIf, MutBor, Fml}
use Rattle.ng_dom.specs.declared.record.Record.{Record}
use Rattle.ng_dom.specs.contracts.record.Record as record_contracts
use Rattle.ng_dom.specs.contracts.records.Run as run_contracts
use Rattle.ng_dom.specs.contracts.records.Records as records_contracts
use Rattle.ng_dom.specs.Records.{Rows, Runs, node_set, row_set, run_set}

-- a run ends with the last value behind r in its row
abbrev pub LendsRow : MutBor (ℕ × Rows) → ℕ → MutBor Record → Fml
LendsRow s j r = Lends run_contracts.the_row record_contracts.the_row s r (λ w. (s.now.0, row_set s.now.1 j w))

-- a table ends with it at the place
abbrev pub LendsAt : MutBor Runs → ℕ → ℕ → MutBor Record → Fml
LendsAt s i j r = Lends records_contracts.the_row record_contracts.the_row s r (λ w. run_set s.now i j w)

-- a table ends with it under the name, and as it was where there is no node
abbrev pub LendsNode : MutBor Runs → ℕ → Option (MutBor Record) → Fml
LendsNode s n r = LendsIf records_contracts.the_row record_contracts.the_row s r (λ w. node_set s.now n w) s.now
