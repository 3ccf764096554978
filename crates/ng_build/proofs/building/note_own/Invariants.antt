use Rattle.std.proofs.Common.{◌≡◌, ◌++◌, drop, map}
use Rattle.ng_build.proofs.building.note_own.Given as goal

abbrev pub invariant-loop : goal.invariant-loop
invariant-loop l = l.spots.items ++ map (λ _. l.n.made.0) (drop l.index l.own) ≡ l.initial.spots.items ++ map (λ _. l.n.made.0) l.own
