use Rattle.std.proofs.Common.{ap, not, eqb, List, ℕ, rules}
use Rattle.std.proofs.lemmas.Fn.{filter_same}
use Rattle.ng_core.specs.Frames.{state_of}
use Rattle.ng_core.specs.State.{with_stopped}
use Rattle.ng_core.proofs.event_objects.forget_stop.Goals as goal

pub returns-clause-run : goal.returns-clause-run
returns-clause-run c =
    ap (λ (l : List ℕ). with_stopped l (state_of c.args.core.now))
    (filter_same _ (λ x. not (eqb c.args.object x)) _ (λ x b f' k. search rules) _ _ c.retain.ensures.filtered)
