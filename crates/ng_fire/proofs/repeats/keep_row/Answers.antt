use Rattle.std.proofs.Common.{List, ap}
use Rattle.ng_core.proofs.MoreScopes.{ok_and}
use Rattle.ng_core.specs.State as act
use Rattle.ng_changes.proofs.Answered.{ok_then}
use Rattle.ng_steps.proofs.WholeTold.{whole_told}
use Rattle.ng_rows.specs.RepeatRows.{row_names}
use Rattle.ng_rows.specs.TrackingOf.{item_of}
use Rattle.ng_link.specs.Calls.{with_core}
use Rattle.ng_link.specs.State.{state_of}
use Rattle.ng_members.specs.Leaves.{Local}
use Rattle.ng_parts.specs.RepeatedOf.{repeated_of}
use Rattle.ng_fire.proofs.repeats.keep_row.Goals as goal

pub returns-clause-state : goal.returns-clause-state
returns-clause-state c =
    let w = c.args.works.now in
    ok_then c.tell_row.result c.tell_row.ensures.told (λ told. ap (λ (k : act.State). with_core k (state_of w)) told)

pub returns-clause-whole : goal.returns-clause-whole
returns-clause-whole c =
    let w = c.args.works.now in
    let ground = c.args.ground.now in
    let names : List Local = row_names (repeated_of ground.repeated.now) ground.count c.args.i (item_of c.args.row.now.item.now) in
    ok_and c.tell_row.result c.tell_row.ensures.told c.tell_row.ensures.sound
    (λ told sound. whole_told w c.tell_row.new.core c.args.scope.0 names c.requires.whole told sound c.tell_row.ensures.scopes c.tell_row.ensures.depth c.tell_row.ensures.store)
