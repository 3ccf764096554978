use Rattle.std.proofs.Common.{◌-◌, arith}
use Rattle.ng_compose.specs.ComposedOf.{composed_of}
use Rattle.ng_compose.proofs.ComposingTurns.{written_none, written_one}
use Rattle.ng_compose.proofs.composed.Composed.write_node.Goals as goal

pub returns-then-self-eq0 : goal.returns-then-self-eq0
returns-then-self-eq0 c = written_none (composed_of c.args.self.now) c.if-self-eq0.true

pub returns-else-self-eq0 : goal.returns-else-self-eq0
returns-else-self-eq0 c = written_one (composed_of c.args.self.now) (c.args.self.now.nodes - 1) (omega (arith, c.if-self-eq0.false))
