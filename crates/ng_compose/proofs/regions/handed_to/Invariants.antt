use Rattle.std.proofs.Common.{◌≡◌, ◌++◌, length, map, drop}
use Rattle.ng_parts.specs.ActsOf.{outside_of}
use Rattle.ng_drawing.specs.Composing.{handed_all}
use Rattle.ng_compose.proofs.regions.handed_to.Given as goal

abbrev pub invariant-loop : goal.invariant-loop
invariant-loop l = record {
  count : length l.all.items ≡ l.index;
  rest : map outside_of l.all.items ++ handed_all l.index (drop l.index l.given) ≡ handed_all 0 l.given;
}
