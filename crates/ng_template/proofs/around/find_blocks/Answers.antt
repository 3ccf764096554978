use Rattle.std.proofs.Common.{◌≡◌, ◌-◌, ◌∙◌, true, false, not, Ok, Err, ap, sym, arith}
use Rattle.ng_html.specs.Seen.{node_of}
use Rattle.ng_template.specs.Around.{Inside, at_place, block_priority, found_after, is_orphan, around_node}
use Rattle.ng_template.specs.AroundOf.{found_of, around_of}
use Rattle.ng_directives.specs.Manners.{any_makes_plain}
use Rattle.ng_template.proofs.Blocks.{gives_err, around_with, picks-refused, plain-stage, orphan-stage, last-stage, heads-stage, last-found, block-stage}
use Rattle.ng_template.proofs.around.find_blocks.Goals as goal

pub returns-in_err-picked : goal.returns-in_err-picked
returns-in_err-picked c =
    gives_err around_of (at_place c.args.place (around_node c.args.r.now c.args.slots c.args.in_switch (node_of c.args.e.now))) c.from_residual.result c.in_err-picked.field-0.0 c.from_residual.ensures.1
    (λ m. sym c.loop-room.invariant
    ∙ picks-refused c.args.place c.args.r.now c.args.slots (node_of c.args.e.now) (found_of c.loop-room.found) c.loop-room.has_switch c.loop-room.room (c.loop-room.room - 1) c.loop-room.limit (omega arith) c.in_err-picked.field-0.0 (c.in_err-picked.ensures m))

pub returns-then-is_orphan : goal.returns-then-is_orphan
returns-then-is_orphan c free =
    let ps = c.in_ok-picked.picked.items in
    let plain : any_makes_plain ps ≡ false = ap any_makes_plain (sym c.as_slice.ensures.value) ∙ sym c.if-any_makes_plain.ensures in
    let orphan : is_orphan c.args.slots ps ≡ true = ap (is_orphan c.args.slots) (sym c.as_slice-in-loop-room.ensures.value) ∙ sym c.if-is_orphan.ensures in
    sym c.loop-room.invariant
    ∙ (orphan-stage c.args.place c.args.r.now c.args.slots (node_of c.args.e.now) (found_of c.loop-room.found) c.loop-room.has_switch c.loop-room.room (c.loop-room.room - 1) c.loop-room.limit (omega arith) ps c.in_ok-picked.ensures plain orphan
    ∙ ap Err (sym c.refusal.ensures))

pub returns-in_err-find_more : goal.returns-in_err-find_more
returns-in_err-find_more c =
    let ps = c.in_ok-picked.picked.items in
    let before = found_of c.loop-room.found in
    let plain : any_makes_plain ps ≡ false = ap any_makes_plain (sym c.as_slice.ensures.value) ∙ sym c.if-any_makes_plain.ensures in
    let orphan : is_orphan c.args.slots ps ≡ false = ap (is_orphan c.args.slots) (sym c.as_slice-in-loop-room.ensures.value) ∙ sym c.if-is_orphan.ensures in
    let block = c.block_priority-below.ensures ∙ ap block_priority c.as_slice-in-loop-room-2.ensures.value in
    gives_err around_of (at_place c.args.place (around_node c.args.r.now c.args.slots c.args.in_switch (node_of c.args.e.now))) c.from_residual-in_err-find_more.result c.in_err-find_more.field-0.0 c.from_residual-in_err-find_more.ensures.1
    (λ m. sym c.loop-room.invariant ∙ heads-stage c.args.place c.args.r.now c.args.slots (node_of c.args.e.now) before c.loop-room.has_switch c.loop-room.room (c.loop-room.room - 1) c.loop-room.limit (omega arith) ps c.in_ok-picked.ensures plain orphan
    c.block_priority-below.result block (ap not c.if-is_none.ensures) c.in_err-find_more.field-0.0
    (ap (λ qs. at_place c.args.place (found_after before c.loop-room.has_switch qs)) (sym c.as_slice-in-loop-room-3.ensures.value) ∙ c.in_err-find_more.ensures m))

pub returns-then-is_none : goal.returns-then-is_none
returns-then-is_none c =
    let ps = c.in_ok-picked.picked.items in
    let plain : any_makes_plain ps ≡ false = ap any_makes_plain (sym c.as_slice.ensures.value) ∙ sym c.if-any_makes_plain.ensures in
    let orphan : is_orphan c.args.slots ps ≡ false = ap (is_orphan c.args.slots) (sym c.as_slice-in-loop-room.ensures.value) ∙ sym c.if-is_orphan.ensures in
    let block = c.block_priority-below.ensures ∙ ap block_priority c.as_slice-in-loop-room-2.ensures.value in
    sym c.loop-room.invariant
    ∙ (last-found c.args.place c.args.r.now c.args.slots (node_of c.args.e.now) (found_of c.loop-room.found) c.loop-room.has_switch c.loop-room.room (c.loop-room.room - 1) c.loop-room.limit (omega arith) ps c.in_ok-picked.ensures plain orphan
    c.block_priority-below.result block (ap not c.if-is_none.ensures)
    ∙ ap (λ (i : Inside). Ok (around_with (found_of c.loop-room.found) i)) (sym c.inside_in-inside.ensures))

pub returns-then-any_makes_plain : goal.returns-then-any_makes_plain
returns-then-any_makes_plain c =
    let ps = c.in_ok-picked.picked.items in
    let plain : any_makes_plain ps ≡ true = ap any_makes_plain (sym c.as_slice.ensures.value) ∙ sym c.if-any_makes_plain.ensures in
    sym c.loop-room.invariant
    ∙ plain-stage c.args.place c.args.r.now c.args.slots (node_of c.args.e.now) (found_of c.loop-room.found) c.loop-room.has_switch c.loop-room.room (c.loop-room.room - 1) c.loop-room.limit (omega arith) ps c.in_ok-picked.ensures plain

pub returns : goal.returns
returns c =
    sym c.loop-room.invariant ∙ last-stage c.args.place c.args.r.now c.args.slots (node_of c.args.e.now) (found_of c.loop-room.found) c.loop-room.has_switch c.loop-room.room c.loop-room.limit (omega arith)

pub loop-room-preserved : goal.loop-room-preserved
loop-room-preserved c =
    let ps = c.in_ok-picked.picked.items in
    let before = found_of c.loop-room.found in
    let plain : any_makes_plain ps ≡ false = ap any_makes_plain (sym c.as_slice.ensures.value) ∙ sym c.if-any_makes_plain.ensures in
    let orphan : is_orphan c.args.slots ps ≡ false = ap (is_orphan c.args.slots) (sym c.as_slice-in-loop-room.ensures.value) ∙ sym c.if-is_orphan.ensures in
    let block = c.block_priority-below.ensures ∙ ap block_priority c.as_slice-in-loop-room-2.ensures.value in
    block-stage c.args.place c.args.r.now c.args.slots (node_of c.args.e.now) before c.loop-room.has_switch c.loop-room.room (c.loop-room.room - 1) c.loop-room.limit (omega arith) ps c.in_ok-picked.ensures plain orphan
    c.block_priority-below.result block (ap not c.if-is_none.ensures) (found_of c.find_more.new.found)
    (ap (λ qs. at_place c.args.place (found_after before c.loop-room.has_switch qs)) (sym c.as_slice-in-loop-room-3.ensures.value) ∙ c.in_ok-find_more.ensures)
    ∙ c.loop-room.invariant
