use Rattle.std.proofs.Common.{ℕ, List, length, map, subst, sym, arith}
use Rattle.ng_base.specs.declared.name.ScopeId.{ScopeId}
use Rattle.ng_changes.proofs.Answered.{there}
use Rattle.ng_fire.proofs.BlockBodies.{link_more}
use Rattle.ng_changes.proofs.ScopePaths.{AreMore, more_count}
use Rattle.ng_steps.specs.LinkingOf.{AreBelow}
use Rattle.ng_instances.specs.PlaceOf.{place_of}
use Rattle.ng_link.specs.State.{State, state_of, templates_of}
use Rattle.ng_drawing.specs.Named.{fragment_for}
use Rattle.ng_fire.proofs.blocks.link_within.Goals as goal

pub link_at-requires-clause-outsides : goal.link_at-requires-clause-outsides
link_at-requires-clause-outsides c =
    subst (λ (xs : List ScopeId). AreBelow (length c.args.works.now.core.scopes) (map (λ (n : ScopeId). n.0) xs)) (sym c.in_ok-given.ensures) c.requires.outsides

pub discard-requires-clause-scope : goal.discard-requires-clause-scope
discard-requires-clause-scope c =
    let w = c.args.works.now in
    let m = c.link_at.new.works in
    let given : List ℕ = map (λ (n : ScopeId). n.0) c.in_ok-given.given.items in
    let q = there (fragment_for (templates_of w) c.args.origin.now) c.requires.template in
    let below : AreBelow (length w.core.scopes) given = subst (λ (xs : List ScopeId). AreBelow (length w.core.scopes) (map (λ (n : ScopeId). n.0) xs)) (sym c.in_ok-given.ensures) c.requires.outsides in
    let state = (c.in_ok-built.ensures.linked q.0 q.1).0 in
    let more : AreMore w.core.scopes m.core.scopes =
    subst (λ (s : State). AreMore w.core.scopes s.core.scopes) (sym state)
    (link_more (place_of c.args.place.now) c.args.origin.now c.args.child.0 given q.0 (state_of w) c.requires.whole.root c.requires.scope below) in
    (let lt = c.requires.scope in let le = more_count w.core.scopes m.core.scopes more in omega (arith, lt, le))
