use Rattle.ng_interp.specs.Parts.{piece_of}
use Rattle.ng_directives.proofs.HolePlaces.{hole_moved, hole_shared}
use Rattle.ng_directives.proofs.known.Known.hole.Goals as goal

pub returns-in-Some : goal.returns-in-Some
returns-in-Some c = hole_shared c.args.place c.args.text.now c.in-Some.hole.now c.part.result c.in-Some.ensures c.part.ensures

pub keep-requires : goal.keep-requires
keep-requires c = hole_moved c.args.place 0 c.args.text.now (piece_of c.in_ok-part.part) c.in_ok-part.ensures
