use Rattle.std.proofs.Common.{arith, ◌≡◌, take, drop, true}
use Rattle.std.proofs.lemmas.Grind.{common_steps}
use Rattle.std.specs.List.{list_all}
use Rattle.ng_base.specs.Runs.{is_plain}
use Rattle.ng_base.proofs.Blocks.{more_plain}
use Rattle.ng_base.proofs.runs.plain_length.Goals as goal

pub returns-2-clause-plain : goal.returns-2-clause-plain
returns-2-clause-plain c =
    let behind : list_all is_plain (take c.plain_bytes.result (drop c.plain_blocks-blocks.result c.args.bytes.now)) ≡ true = grind (arith, common_steps) in
    more_plain c.args.bytes.now c.plain_blocks-blocks.result c.plain_bytes.result c.plain_blocks-blocks.ensures.plain behind
