use Rattle.std.proofs.Common.{refl, sym, ◌∙◌}
use Rattle.ng_watch.specs.Chunks.{joined}
use Rattle.ng_watch.proofs.AtPlaces.{find_after_gap, find_after_row}
use Rattle.ng_watch.proofs.places.next_place.Goals as goal

pub returns-in-Ok : goal.returns-in-Ok
returns-in-Ok c = c.step.ensures.row ∙ sym (find_after_row c.args.key.now c.args.chunks.now c.in-Ok.at.chunk c.in-Ok.at.row (joined c.args.chunks.now) refl c.requires c.in-Ok.ensures.there)

pub returns-in-Err : goal.returns-in-Err
returns-in-Err c = sym c.in-Err.ensures.next ∙ sym (find_after_gap c.args.key.now c.args.chunks.now c.in-Err.at.chunk c.in-Err.at.row (joined c.args.chunks.now) refl c.in-Err.ensures.gap)
