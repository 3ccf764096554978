use Rattle.std.proofs.Common.{List, sym, subst, arith}
use Rattle.ng_rows.proofs.TrackLocals.{set_three, set_two, third_is, tracked_names, two_still, two_there}
use Rattle.ng_rows.specs.Tracking.{index_name}
use Rattle.ng_rows.specs.TrackingOf.{AreLocals, item_of}
use Rattle.ng_members.specs.Leaves.{Local}
use Rattle.ng_parts.specs.RepeatedOf.{repeated_of}
use Rattle.ng_rows.proofs.tracking.track_values.Goals as goal

pub put-requires : goal.put-requires
put-requires c =
    let many = two_there c.args.locals.now index_name c.args.repeated.now.name _ c.requires in
    omega (arith, many)

pub put-requires-2 : goal.put-requires-2
put-requires-2 c = two_still c.args.locals.now c.put.new.self index_name c.args.repeated.now.name _ _ c.requires c.put.ensures

pub put-requires-in-Some : goal.put-requires-in-Some
put-requires-in-Some c =
    third_is (repeated_of c.args.repeated.now) c.args.locals.now c.put.new.self c.put-2.new.self c.args.i (item_of c.args.item.now) c.place_value-place.result c.in_ok-value.value
    c.requires c.put.ensures c.put-2.ensures c.place_value-place.ensures c.in_ok-value.ensures _ c.in-Some.is

pub returns-in-None-clause-locals : goal.returns-in-None-clause-locals
returns-in-None-clause-locals c =
    set_two (repeated_of c.args.repeated.now) c.args.locals.now c.put.new.self c.put-2.new.self c.args.i (item_of c.args.item.now) c.place_value-place.result c.in_ok-value.value
    c.requires c.put.ensures c.put-2.ensures c.place_value-place.ensures c.in_ok-value.ensures c.in-None.is

pub returns-in-None-clause-names : goal.returns-in-None-clause-names
returns-in-None-clause-names c =
    let r = repeated_of c.args.repeated.now in
    let x = item_of c.args.item.now in
    let all = set_two r c.args.locals.now c.put.new.self c.put-2.new.self c.args.i x c.place_value-place.result c.in_ok-value.value
    c.requires c.put.ensures c.put-2.ensures c.place_value-place.ensures c.in_ok-value.ensures c.in-None.is in
    subst (λ (ls : List Local). AreLocals r ls) (sym all) (tracked_names r c.args.i x)

pub returns-in-Some-clause-locals : goal.returns-in-Some-clause-locals
returns-in-Some-clause-locals c =
    set_three (repeated_of c.args.repeated.now) c.args.locals.now c.put.new.self c.put-2.new.self c.args.i (item_of c.args.item.now) c.place_value-place.result c.in_ok-value.value
    c.requires c.put.ensures c.put-2.ensures c.place_value-place.ensures c.in_ok-value.ensures _ c.put-in-Some.new.self c.in_ok-key.key c.in-Some.is c.put-in-Some.ensures c.in_ok-key.ensures

pub returns-in-Some-clause-names : goal.returns-in-Some-clause-names
returns-in-Some-clause-names c =
    let r = repeated_of c.args.repeated.now in
    let x = item_of c.args.item.now in
    let all = set_three r c.args.locals.now c.put.new.self c.put-2.new.self c.args.i x c.place_value-place.result c.in_ok-value.value
    c.requires c.put.ensures c.put-2.ensures c.place_value-place.ensures c.in_ok-value.ensures _ c.put-in-Some.new.self c.in_ok-key.key c.in-Some.is c.put-in-Some.ensures c.in_ok-key.ensures in
    subst (λ (ls : List Local). AreLocals r ls) (sym all) (tracked_names r c.args.i x)
