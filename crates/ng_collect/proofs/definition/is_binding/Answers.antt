use Rattle.std.specs.Str.{chars}
use Rattle.ng_collect.proofs.Bindings.{judged_binding, judged_refused}
use Rattle.ng_collect.proofs.definition.is_binding.Goals as goal

pub returns-clause-binding : goal.returns-clause-binding
returns-clause-binding c =
    rw c.judged.ensures (judged_binding c.args.text.now (chars c.as_str.result.now) c.binding_spec-answer.result c.as_str.ensures.chars c.binding_spec-answer.ensures.read c.binding_spec-answer.ensures.written)

pub returns-clause-refused : goal.returns-clause-refused
returns-clause-refused c = rw c.judged.ensures (judged_refused c.binding_spec-answer.result)
