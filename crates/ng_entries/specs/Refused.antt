-- Refusals of an application: a member, the number of its entry, and why.
use Rattle.std.specs.Prelude.{ℕ}
use Rattle.ng_entries.specs.declared.fault.Member.{Member}
use Rattle.ng_entries.specs.declared.fault.AppKind.{AppKind}
use Rattle.ng_entries.specs.declared.fault.AppFault.{AppFault}

abbrev pub fault_at : Member → ℕ → AppKind → AppFault
fault_at m i k = record { member = m; item = i; kind = k }

-- a member itself
abbrev pub fault : Member → AppKind → AppFault
fault m k = fault_at m 0 k
