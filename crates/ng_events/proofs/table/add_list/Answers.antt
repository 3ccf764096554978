use Rattle.std.proofs.Common.{◌≡◌, length, arith}
use Rattle.ng_events.proofs.Tables.{places-added, alone-added}
use Rattle.ng_events.proofs.table.add_list.Goals as goal

pub returns-in-Ok-clause-places : goal.returns-in-Ok-clause-places
returns-in-Ok-clause-places c =
    let n : c.len-place.result ≡ length c.args.stands.now.items = grind arith in
    rw c.in_ok-add_stand.ensures.ok
    (places-added c.args.stands.now.items _ c.args.names.now c.enter.new.names c.requires.none (rw n at c.in-Ok.ensures.ok) c.requires.places)

pub returns-in-Ok-clause-alone : goal.returns-in-Ok-clause-alone
returns-in-Ok-clause-alone c = rw c.in_ok-add_stand.ensures.ok (alone-added c.args.stands.now.items _ c.requires.none c.requires.alone)
