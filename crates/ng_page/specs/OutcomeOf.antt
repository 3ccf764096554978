-- What an outcome of the code stands for.
use Rattle.std.specs.Prelude.{option_map}
use Rattle.ng_digest.specs.Early.{plain_answer}
use Rattle.ng_page.specs.Steps as steps
use Rattle.ng_page.specs.declared.outcome.Outcome.{Outcome}

abbrev pub outcome_of : Outcome → steps.Outcome
outcome_of o = record { count = o.faults; first = o.first; digest = option_map plain_answer o.digest; probed = o.probed }
