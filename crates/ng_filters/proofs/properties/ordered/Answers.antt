use Rattle.std.proofs.Common.{refl}
use Rattle.std.proofs.lemmas.List.{map-append}
use Rattle.ng_filters.proofs.Fields.{values-seen}
use Rattle.ng_filters.proofs.properties.ordered.Goals as goal

pub returns-clause-properties : goal.returns-clause-properties
returns-clause-properties c =
    rw (c.in_ok-add.ensures.added, map-append, c.in_ok-done.ensures.values, values-seen, c.in_ok-split.ensures.indexed, c.in_ok-split.ensures.others) refl
