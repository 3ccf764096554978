use Rattle.std.proofs.Common.{arith, ◌≡◌, ◌∙◌, length, take, drop, true}
use Rattle.std.proofs.lemmas.Grind.{common_steps}
use Rattle.std.specs.List.{list_all}
use Rattle.ng_base.specs.Runs.{is_plain}
use Rattle.ng_base.proofs.Blocks.{more_plain, behind_block}
use Rattle.ng_base.proofs.runs.plain_blocks.Goals as goal

pub loop-block-preserved : goal.loop-block-preserved
loop-block-preserved c =
    let bs = c.args.bytes.now in
    let n = c.loop-block.count in
    let block = c.in-Some.block.now in
    let i = c.loop-block.invariant in
    let s = c.in-Some.ensures.steps in
    let size : length block ≡ 32 = grind (arith, common_steps) in
    let at = behind_block bs block c.next.new.self.rest.now n i.count (i.rest ∙ s.1.0) in
    let plain : list_all is_plain (take (length block) (drop n bs)) ≡ true = grind (arith, common_steps) in
    let more = more_plain bs n (length block) i.plain plain in
    record {
      count = grind (arith, common_steps);
      rest = grind (arith, common_steps);
      size = grind (arith, common_steps);
      plain = grind (arith, common_steps);
    }
