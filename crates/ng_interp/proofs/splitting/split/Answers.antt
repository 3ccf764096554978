use Rattle.std.specs.Str.{chars}
use Rattle.ng_interp.proofs.PartLaws.{spelled}
use Rattle.ng_interp.proofs.splitting.split.Goals as goal

pub returns-clause-spelled : goal.returns-clause-spelled
returns-clause-spelled c = spelled (chars c.args.text.now) c.read_text.result c.read_text.ensures
