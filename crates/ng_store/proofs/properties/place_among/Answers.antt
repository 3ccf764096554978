use Rattle.std.proofs.Common.{sym, arith}
use Rattle.ng_store.proofs.NamePlaces.{first_place}
use Rattle.ng_store.proofs.properties.place_among.Goals as goal

pub returns-then-place-names : goal.returns-then-place-names
returns-then-place-names c =
    let e = c.count_before-place.ensures in
    sym (first_place c.args.name.now c.args.names.now c.count_before-place.result (omega (arith, c.if-place-names.true)) e.others (e.found (omega (arith, c.if-place-names.true))))
