use Rattle.std.proofs.Common.{◌≡◌, drop, map}
use Rattle.std.specs.List.{list_all}
use Rattle.ng_interp.specs.Parts.{piece_of}
use Rattle.ng_directives.specs.Texts.{is_pure}
use Rattle.ng_directives.proofs.texts.are_pure.Given as goal

abbrev pub invariant-loop-part : goal.invariant-loop-part
invariant-loop-part l = list_all is_pure (map piece_of (drop l.part-index l.parts)) ≡ list_all is_pure (map piece_of l.parts)
