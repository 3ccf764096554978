use Rattle.std.proofs.Common.{◌∙◌, ℕ, List, ap, drop, map}
use Rattle.ng_base.specs.declared.name.ScopeId.{ScopeId}
use Rattle.ng_core.specs.Frames as cores
use Rattle.ng_core.specs.State as act
use Rattle.ng_steps.proofs.SetRuns.{all_buried_rises}
use Rattle.ng_changes.proofs.Wholes.{whole_left}
use Rattle.ng_changes.specs.Changes.{changed}
use Rattle.ng_steps.specs.Links.{all_buried}
use Rattle.ng_link.specs.Calls.{with_core}
use Rattle.ng_link.specs.State.{state_of}
use Rattle.ng_steps.proofs.linking.discard_inner.Goals as goal

pub apply_changes-requires : goal.apply_changes-requires
apply_changes-requires c =
    let w = c.args.works.now in
    let ns : List ℕ = drop 1 (map (λ (n : ScopeId). n.0) c.args.scopes.now) in
    whole_left w c.bury_rest.new.core (all_buried ns (cores.state_of w.core)) c.requires.whole c.in_ok-bury_rest.ensures.run (all_buried_rises ns (cores.state_of w.core)) c.in_ok-bury_rest.ensures.sound
    (c.bury_rest.ensures.depth ∙ c.requires.whole.idle) c.bury_rest.ensures.grown

pub returns-clause-state : goal.returns-clause-state
returns-clause-state c =
    let s = state_of c.args.works.now in
    c.in_ok-apply_changes.ensures.state ∙ ap (λ (k : act.State). changed (with_core k s)) c.in_ok-bury_rest.ensures.run
