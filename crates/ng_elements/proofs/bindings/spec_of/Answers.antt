use Rattle.std.specs.Str.{chars}
use Rattle.ng_bind.specs.Reading.{spec_in}
use Rattle.ng_elements.specs.Using.{spec_of}
use Rattle.ng_elements.proofs.Specs.{spec_is}
use Rattle.ng_elements.proofs.bindings.spec_of.Goals as goal

pub returns : goal.returns
returns c =
    c.spec_from.ensures (spec_of (spec_in c.args.text.now))
    (spec_is c.args.text.now (chars c.as_str.result.now) c.binding_spec-answer.result c.as_str.ensures.chars c.binding_spec-answer.ensures.read c.binding_spec-answer.ensures.written)
