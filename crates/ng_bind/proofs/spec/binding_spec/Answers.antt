use Rattle.std.specs.Str.{chars}
use Rattle.ng_bind.proofs.ReadWritten.{answer_written, answer_read, answer_refused}
use Rattle.ng_bind.proofs.spec.binding_spec.Goals as goal

pub returns-clause-read : goal.returns-clause-read
returns-clause-read c = answer_written (chars c.args.text.now) c.new.result c.spec_in.result c.new.ensures c.spec_in.ensures

pub returns-clause-written : goal.returns-clause-written
returns-clause-written c = answer_read (chars c.args.text.now) c.new.result c.spec_in.result c.new.ensures c.spec_in.ensures

pub returns-clause-refused : goal.returns-clause-refused
returns-clause-refused c = answer_refused (chars c.args.text.now) c.new.result c.spec_in.result c.new.ensures c.spec_in.ensures
