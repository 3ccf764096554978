use Rattle.std.proofs.Common.{ap, ◌∙◌}
use Rattle.std.specs.Str.{chars}
use Rattle.ng_tags.specs.Texts.{decoded, text_from}
use Rattle.ng_tags.proofs.TextRuns.{run_goes_on}
use Rattle.ng_tags.proofs.texts.with_run.Goals as goal

pub returns-in_ok-push_str-in_default-clause-same : goal.returns-in_ok-push_str-in_default-clause-same
returns-in_ok-push_str-in_default-clause-same c =
    ap (λ t. text_from c.args.until.now (decoded t c.args.d.fault) c.run-rest.result.1) c.in_ok-push_str-in_default.ensures.ok
    ∙ run_goes_on c.args.until.now c.in_default.not-Space c.args.d (chars c.run-rest.result.0.now) c.args.reader c.run-rest.result.1 c.run-rest.ensures.front c.run-rest.ensures.plain
