use Rattle.std.proofs.Common.{◌≡◌, [], drop}
use Rattle.ng_rows.specs.Tracking.{track_keys}
use Rattle.ng_rows.specs.TrackingOf.{AreLocals, items_of}
use Rattle.ng_parts.specs.RepeatedOf.{repeated_of}
use Rattle.ng_rows.proofs.tracking.track_keys.Given as goal

abbrev pub invariant-loop-i : goal.invariant-loop-i
invariant-loop-i l = record {
  keys : track_keys l.store l.object.0 (repeated_of l.repeated) l.i l.keys (items_of (drop l.i l.items)) ≡ track_keys l.store l.object.0 (repeated_of l.repeated) 0 [] (items_of l.items);
  locals : AreLocals (repeated_of l.repeated) l.locals;
}
