use Rattle.std.proofs.Common.{◌<◌, length, arith, ◌∙◌}
use Rattle.std.proofs.lemmas.Grind.{common_steps}
use Rattle.ng_blocks.proofs.HeadSteps.{two_by, only_long}
use Rattle.ng_blocks.proofs.heads.two.Goals as goal

pub returns-else-is_empty : goal.returns-else-is_empty
returns-else-is_empty c =
    let long : 0 < length c.in_ok-rest-3.rest.now = grind (arith, common_steps) in
    two_by c.args.tokens.now c.in_ok-rest.rest.now c.in_ok-key.rest.now c.in_ok-rest-2.rest.now c.in_ok-name.rest.now c.in_ok-rest-3.rest.now c.in_ok-key.key.now c.in_ok-name.name.now
    c.in_ok-rest.ensures.value c.in_ok-key.ensures.value c.in_ok-rest-2.ensures.value c.in_ok-name.ensures.value c.in_ok-rest-3.ensures.value
    ∙ only_long c.in_ok-rest-3.rest.now (c.in_ok-key.key.now, c.in_ok-name.name.now) long
