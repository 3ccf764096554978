use Rattle.std.proofs.Common.{List, length, subst, sym}
use Rattle.ng_rows.proofs.TrackLocals.{tracked_stand}
use Rattle.ng_rows.specs.TrackingOf.{item_of}
use Rattle.ng_members.specs.Leaves.{Local, LocalsStand}
use Rattle.ng_parts.specs.RepeatedOf.{repeated_of}
use Rattle.ng_rows.proofs.tracking.track_key.Goals as goal

pub tracked_key-requires-clause-locals : goal.tracked_key-requires-clause-locals
tracked_key-requires-clause-locals c =
    let n = length c.args.store.now in
    subst (λ (ls : List Local). LocalsStand n ls) (sym c.in_ok-track_values-in-Some.ensures.locals) (tracked_stand n (repeated_of c.args.repeated.now) c.args.i (item_of c.args.item.now) c.requires.item)
