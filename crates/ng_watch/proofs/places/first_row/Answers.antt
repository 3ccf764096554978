use Rattle.ng_watch.proofs.Chunks.{first_joined}
use Rattle.ng_watch.proofs.places.first_row.Goals as goal

pub returns-in-Some : goal.returns-in-Some
returns-in-Some c = first_joined c.args.chunks.now c.in-Some.chunk.now c.first-in-Some.result.now c.in-Some.ensures.value c.first-in-Some.ensures
