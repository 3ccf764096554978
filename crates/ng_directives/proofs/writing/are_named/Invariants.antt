use Rattle.std.proofs.Common.{◌≡◌, drop, map}
use Rattle.std.specs.List.{list_all}
use Rattle.ng_interp.specs.Parts.{piece_of}
use Rattle.ng_directives.specs.Writing.{is_named_piece}
use Rattle.ng_directives.proofs.writing.are_named.Given as goal

abbrev pub invariant-loop-part : goal.invariant-loop-part
invariant-loop-part l = list_all is_named_piece (map piece_of (drop l.part-index l.parts)) ≡ list_all is_named_piece (map piece_of l.parts)
