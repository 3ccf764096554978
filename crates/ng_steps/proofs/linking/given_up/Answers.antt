use Rattle.std.proofs.Common.{◌∙◌, List, ap, drop, length, map, subst, sym}
use Rattle.ng_base.specs.declared.name.ScopeId.{ScopeId}
use Rattle.ng_changes.specs.Changes.{changed}
use Rattle.ng_steps.specs.Links.{all_buried}
use Rattle.ng_steps.specs.LinkingOf.{AreBelow}
use Rattle.ng_link.specs.Calls.{with_core}
use Rattle.ng_link.specs.State.{state_of}
use Rattle.ng_steps.proofs.linking.given_up.Goals as goal

pub discard_inner-requires-clause-scopes : goal.discard_inner-requires-clause-scopes
discard_inner-requires-clause-scopes c =
    subst (λ (xs : List ScopeId). AreBelow (length c.args.works.now.core.scopes) (map (λ (n : ScopeId). n.0) xs)) (sym c.as_slice.ensures.value) c.requires.grounded.scopes

pub returns-clause-state : goal.returns-clause-state
returns-clause-state c =
    let s = state_of c.args.works.now in
    c.in_ok-discard_inner.ensures.state ∙ ap (λ (xs : List ScopeId). changed (with_core (all_buried (drop 1 (map (λ (n : ScopeId). n.0) xs)) s.core) s)) c.as_slice.ensures.value
