use Rattle.std.specs.Str.{chars}
use Rattle.ng_blocks.proofs.RepeatLaws.{found, spelled_only}
use Rattle.ng_blocks.proofs.repeating.parse_repeat.Goals as goal

pub returns-clause-found : goal.returns-clause-found
returns-clause-found c = found (chars c.args.text.now) c.read_repeat.result c.read_repeat.ensures

pub returns-clause-only : goal.returns-clause-only
returns-clause-only c = λ r h. spelled_only (chars c.args.text.now) r c.read_repeat.result c.read_repeat.ensures h
