use Rattle.std.proofs.Common.{sym}
use Rattle.std.specs.Str.{chars}
use Rattle.ng_interp.specs.Escapes.{unescaped}
use Rattle.ng_interp.proofs.EscapeSteps.{run_on}
use Rattle.ng_interp.proofs.escapes.read_escapes.Goals as goal

pub loop-c-preserved : goal.loop-c-preserved
loop-c-preserved c =
    run_on c.loop-c.plain c.push-in-None.new.self c.push_str.new.self c.loop-c.reader c.in-Some.rest (chars c.run-others.result.0.now) c.run-others.result.1 (unescaped c.args.text.now) c.in-Some.c
    c.in-Some.ensures (sym c.in-None.ensures) c.run-others.ensures.front c.run-others.ensures.plain c.in_ok-push-in-None.ensures.ok c.in_ok-push_str-in-None.ensures.ok c.loop-c.invariant
