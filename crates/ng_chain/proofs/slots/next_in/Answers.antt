use Rattle.std.proofs.Common.{arith, sym, ◌∙◌, ◌<◌}
use Rattle.ng_chain.proofs.Places.{next-init, next-found, serial-read, passed-short, passed-bound}
use Rattle.ng_chain.proofs.slots.next_in.Goals as goal

pub loop-at-init : goal.loop-at-init
loop-at-init g c = record {
  from = omega arith;
  within = let b = passed-bound c.args.span.place c.args.slots.now in omega arith;
  none = λ s h l. next-init c.args.slots.now c.args.span.place c.args.next s c.requires.ascends c.requires.next h l;
}

pub returns-then-is_some : goal.returns-then-is_some
returns-then-is_some g c =
    let e = c.index-slots-at.is in (
      c.loop-at-test.true,
      next-found c.args.slots.now c.args.span.place c.args.span.end c.args.next c.loop-at.at _ c.index-slots-at.result c.requires.ascends c.requires.next c.loop-at.invariant.from c.loop-at-test.true
          (serial-read c.args.slots.now c.loop-at.at c.index-slots-at.result c.loop-at-test.true)
          (rw (serial-read c.args.slots.now c.loop-at.at c.index-slots-at.result c.loop-at-test.true, ← e) c.if-span-slot.false)
          (rw (← e) (sym c.is_some.ensures ∙ c.if-is_some.true))
          c.loop-at.invariant.none,
    )

pub returns-then-span-slot : goal.returns-then-span-slot
returns-then-span-slot g c = λ s h l. c.loop-at.invariant.none s h (
    passed-short c.args.slots.now c.loop-at.at s c.index-slots-at.result c.loop-at-test.true
    (rw (← c.index-slots-at.is) (let q : c.args.span.end < c.index-slots-at.result.serial = c.if-span-slot.true in omega arith)))

pub returns : goal.returns
returns g c = λ s h l. c.loop-at.invariant.none s h (let b = passed-bound s c.args.slots.now in omega arith)
