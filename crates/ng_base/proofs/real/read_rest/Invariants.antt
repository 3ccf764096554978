use Rattle.std.proofs.Common.{◌≡◌, ◌≤◌, ◌+◌, ◌-◌, take, drop, length, vec_capacity}
use Rattle.std.specs.Io.KnownBytes.{Consumes}
use Rattle.ng_base.specs.Outside.{longest}
use Rattle.ng_base.proofs.real.read_rest.Given as goal

abbrev pub invariant-loop-count : goal.invariant-loop-count
invariant-loop-count g l = record {
  front : take (length l.fn.into.items) l.into.items ≡ l.fn.into.items;
  grown : length l.into.items ≡ length l.fn.into.items + l.total;
  small : l.total ≤ longest;
  read : Consumes (g.F.Read.remaining l.fn.file) (g.F.Read.remaining l.file) (drop (length l.fn.into.items) l.into.items);
  room : vec_capacity l.fn.into ≤ vec_capacity l.into;
}

abbrev pub decreases-loop-count : goal.decreases-loop-count
decreases-loop-count g l = longest - l.total
