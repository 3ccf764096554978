use Rattle.std.proofs.Common.{◌≡◌, ◌≤◌, ◌+◌, drop, map, length}
use Rattle.ng_drawing.specs.declared.kind.SiteKind.TheVariants as kinds
use Rattle.ng_interp.specs.Parts.{piece_of}
use Rattle.ng_directives.specs.Texts.{sites_in}
use Rattle.ng_directives.proofs.texts.count_holes.Given as goal

abbrev pub invariant-loop-part : goal.invariant-loop-part
invariant-loop-part l = record {
  rest : l.count + length (sites_in kinds.Text (map piece_of (drop l.part-index l.parts))) ≡ length (sites_in kinds.Text (map piece_of l.parts));
  few : l.count ≤ l.part-index;
}
