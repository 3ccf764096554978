use Rattle.std.proofs.Common.{arith, sym, ap, ◌∙◌, ◌≡◌, ◌-◌, IsSome}
use Rattle.ng_chain.specs.Walked.{found, serial_of}
use Rattle.ng_chain.specs.Slots.{standing, serials, passed}
use Rattle.ng_chain.proofs.Places.{value-found, found-passed, found-place, passed-bound}
use Rattle.ng_chain.proofs.Edits.{standing-hole, serials-hole}
use Rattle.ng_chain.proofs.slots.take_from.Goals as goal

pub returns-clause-serials : goal.returns-clause-serials
returns-clause-serials g c =
    let h : IsSome (found (standing c.args.slots.now.items) (serial_of c.args.t)) = rw (← value-found c.args.slots.now.items c.args.t c.requires.stands) c.requires.stands in
    let n : c.passed_in-next.result ≡ passed (serial_of c.args.t) (serials c.args.slots.now.items) = c.passed_in-next.ensures ∙ ap (λ xs. passed (serial_of c.args.t) (serials xs)) c.as_slice.ensures.value in
    let q = found-passed c.args.slots.now.items (serial_of c.args.t) c.requires.ascends h in
    let b = passed-bound (serial_of c.args.t) c.args.slots.now.items in
    serials-hole c.args.slots.now.items (c.passed_in-next.result - 1) c.index_mut-slot.result.now _ (omega arith) (ap (λ s. s.serial) c.index_mut-slot.ensures.value)

pub returns-clause-entries : goal.returns-clause-entries
returns-clause-entries g c =
    let h : IsSome (found (standing c.args.slots.now.items) (serial_of c.args.t)) = rw (← value-found c.args.slots.now.items c.args.t c.requires.stands) c.requires.stands in
    let n : c.passed_in-next.result ≡ passed (serial_of c.args.t) (serials c.args.slots.now.items) = c.passed_in-next.ensures ∙ ap (λ xs. passed (serial_of c.args.t) (serials xs)) c.as_slice.ensures.value in
    let q = found-passed c.args.slots.now.items (serial_of c.args.t) c.requires.ascends h in
    standing-hole c.args.slots.now.items 0 (c.passed_in-next.result - 1) (serial_of c.args.t) c.index_mut-slot.result.now _ c.requires.ascends
    (let b = passed-bound (serial_of c.args.t) c.args.slots.now.items in omega arith)
    (sym (found-place c.args.slots.now.items (c.passed_in-next.result - 1) (serial_of c.args.t) c.index_mut-slot.result.now c.requires.ascends h (omega arith)))
    c.take.ensures.after
