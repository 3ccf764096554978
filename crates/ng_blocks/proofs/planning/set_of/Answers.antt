use Rattle.std.proofs.Common.{arith, ap, ◌∙◌, ◌<◌, length, Bool, Ok, Err}
use Rattle.std.specs.Prelude.{if◌then◌else◌}
use Rattle.ng_blocks.specs.declared.plans.PlanFault.TheVariants.{Dupes}
use Rattle.ng_blocks.proofs.Doubles.{seen_before, still_all, still_differ}
use Rattle.ng_blocks.proofs.planning.set_of.Goals as goal

pub returns-then-not-branch : goal.returns-then-not-branch
returns-then-not-branch c =
    let less : c.loop-key.key-index < length c.args.keys.now = omega arith in
    let double = seen_before c.args.keys.now c.loop-key.set.keys c.loop-key.key-index c.in_ok-copied.field-0 c.key-item.result c.in_ok-insert.field-0 c.loop-key.invariant.all less (c.in_ok-copied.ensures ∙ c.key-item.is) c.in_ok-insert.ensures.added c.if-not-branch.true in
    λ free. ap (λ (b : Bool). if b then Err Dupes else Ok c.args.keys.now) double

pub loop-key-preserved : goal.loop-key-preserved
loop-key-preserved c =
    let less : c.loop-key.key-index < length c.args.keys.now = omega arith in
    let keys = c.args.keys.now in
    let seen = c.loop-key.set.keys in
    let now = c.insert.new.self.keys in
    let k = c.in_ok-copied.field-0 in
    let added = c.in_ok-insert.field-0 in
    record {
      all = still_all keys seen now c.loop-key.key-index k c.key-item.result added c.in_ok-insert.ensures.added c.if-not-branch.false c.in_ok-insert.ensures.keys c.loop-key.invariant.all less (c.in_ok-copied.ensures ∙ c.key-item.is);
      differ = still_differ keys seen now c.loop-key.key-index k c.key-item.result added c.in_ok-insert.ensures.added c.if-not-branch.false c.in_ok-insert.ensures.keys c.loop-key.invariant.differ;
    }
