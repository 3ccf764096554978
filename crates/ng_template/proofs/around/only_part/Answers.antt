use Rattle.std.proofs.Common.{arith}
use Rattle.ng_template.proofs.OnePart.{popped}
use Rattle.ng_template.proofs.around.only_part.Goals as goal

pub returns : goal.returns
returns c = popped c.args.parts.items c.pop.new.self.items c.pop.result c.pop.ensures.items c.requires (c.pop.ensures.variant.1 (omega arith))
