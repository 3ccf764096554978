use Rattle.std.proofs.Common.{◌≡◌, ◌<◌, ◌+◌, ℕ, true, false, length, arith, sym, subst}
use Rattle.ng_watch.specs.Chunks.{AllBelow, key_from, chunk_at, front, is_passed}
use Rattle.ng_watch.proofs.Chunks.{front_zero, nothing_passed, passed_chunk, read_at}
use Rattle.ng_watch.proofs.places.chunk_for.Goals.{then-is_passed, else-is_passed}
use Rattle.ng_watch.proofs.places.chunk_for.Goals as goal

pub loop-low-init : goal.loop-low-init
loop-low-init c = record {
  ordered = omega arith;
  bounded = omega arith;
  from_low = λ h. omega arith;
  below_high = λ h. omega arith;
  lower = subst (AllBelow (key_from c.args.path.now c.args.serial)) (sym (front_zero c.args.chunks.now)) tt;
  upper = nothing_passed (key_from c.args.path.now c.args.serial) c.args.chunks.now (length c.args.chunks.now) (omega arith);
}

pub loop-low-preserved : goal.loop-low-preserved
loop-low-preserved c =
    let m = c.loop-low.middle in
    let inside : m < length c.args.chunks.now = omega (arith, c.loop-low.invariant.below_high c.loop-low-test.true, c.loop-low.invariant.bounded) in
    let same : c.index-chunks-middle.result ≡ chunk_at c.args.chunks.now m = read_at c.args.chunks.now m c.index-chunks-middle.result inside c.index-chunks-middle.is in
    elim c.if-is_passed.branch [
      | then-is_passed w ↦
          let low : c.if-is_passed.low ≡ m + 1 = w.low-is in
          let high : c.if-is_passed.high ≡ c.loop-low.high = w.high-is in
          let t : is_passed (key_from c.args.path.now c.args.serial) (chunk_at c.args.chunks.now m) ≡ true = cc (c.is_passed.ensures.passed, w.if-is_passed.true, same) in
          record {
            ordered = omega (arith, c.loop-low.invariant.below_high c.loop-low-test.true);
            bounded = omega (arith, c.loop-low.invariant.bounded);
            from_low = λ h. omega arith;
            below_high = λ h. omega arith;
            lower = subst (λ (n : ℕ). AllBelow (key_from c.args.path.now c.args.serial) (front c.args.chunks.now n)) (sym low) (passed_chunk (key_from c.args.path.now c.args.serial) c.args.chunks.now m c.requires inside t);
            upper = subst (λ (n : ℕ). is_passed (key_from c.args.path.now c.args.serial) (chunk_at c.args.chunks.now n) ≡ false) (sym high) c.loop-low.invariant.upper;
          }
      | else-is_passed w ↦
          let low : c.if-is_passed.low ≡ c.loop-low.low = w.low-is in
          let high : c.if-is_passed.high ≡ m = w.high-is in
          let f : is_passed (key_from c.args.path.now c.args.serial) (chunk_at c.args.chunks.now m) ≡ false = cc (c.is_passed.ensures.passed, w.if-is_passed.false, same) in
          record {
            ordered = omega (arith, c.loop-low.invariant.from_low c.loop-low-test.true);
            bounded = omega (arith, inside);
            from_low = λ h. omega arith;
            below_high = λ h. omega arith;
            lower = subst (λ (n : ℕ). AllBelow (key_from c.args.path.now c.args.serial) (front c.args.chunks.now n)) (sym low) c.loop-low.invariant.lower;
            upper = subst (λ (n : ℕ). is_passed (key_from c.args.path.now c.args.serial) (chunk_at c.args.chunks.now n) ≡ false) (sym high) f;
          }
    ]
