use Rattle.std.proofs.Common.{◌≡◌, ◌∙◌, ◌<◌, ◌++◌, ℕ, List, [], ◌∷◌, Some, ap, length, map, subst, sym}
use Rattle.std.specs.Prelude.{Ok, Err, Option}
use Rattle.std.proofs.lemmas.List.{map-append}
use Rattle.ng_base.specs.declared.fault.Fault.TheVariants.{StoreFull}
use Rattle.ng_base.specs.declared.name.ScopeId.{ScopeId}
use Rattle.ng_core.specs.State.{Run}
use Rattle.ng_changes.proofs.Answered.{some_is}
use Rattle.ng_steps.proofs.Linkings.{below_push}
use Rattle.ng_steps.proofs.Placed.{below_more}
use Rattle.ng_changes.specs.FiringOf.{child_made}
use Rattle.ng_steps.specs.Links.{Linking, opened_by, opening_run}
use Rattle.ng_steps.specs.LinkingOf.{linking, AreBelow}
use Rattle.ng_instances.specs.BoundOf.{registered_of}
use Rattle.ng_link.specs.State.{State, state_of}
use Rattle.ng_build.specs.StepOf.{opening_of}
use Rattle.ng_steps.proofs.stepping.open_scope.Goals as goal

pub returns-in_ok-push-in-Some-clause-opened : goal.returns-in_ok-push-in-Some-clause-opened
returns-in_ok-push-in-Some-clause-opened c =
    let d = c.args.done.now in
    let g : Linking = linking c.args.works.now d in
    let t : State = state_of c.make_scope.new.works in
    let n : ℕ = c.in-Some.scope.0 in
    let r : Run ℕ = opening_run (registered_of d.made).at_hand (opening_of c.args.opening) g.state.core in
    let e : r ≡ (t.core, Ok n) = c.in_ok-made.ensures.made ∙ ap (λ (o : Option ScopeId). child_made o t.core) c.in-Some.is in
    let scopes : map (λ (x : ScopeId). x.0) c.push.new.self.items ≡ g.made.at_hand.scopes ++ n ∷ [] =
    ap (map (λ (x : ScopeId). x.0)) c.in_ok-push-in-Some.ensures.items ∙ map-append (λ (x : ScopeId). x.0) d.made.scopes.items (c.in-Some.scope ∷ []) in
    ap (λ (ns : List ℕ). record g { state = t; made = record g.made { at_hand = record g.made.at_hand { scopes = ns } } }) scopes
    ∙ (ap (λ (s : State). record g { state = s; made = record g.made { at_hand = record g.made.at_hand { scopes = g.made.at_hand.scopes ++ n ∷ [] } } }) c.make_scope.ensures.rest
    ∙ sym (ap (λ (x : Run ℕ). opened_by x g) e))

pub returns-in-None-clause-opened : goal.returns-in-None-clause-opened
returns-in-None-clause-opened c =
    let d = c.args.done.now in
    let g : Linking = linking c.args.works.now d in
    let t : State = state_of c.make_scope.new.works in
    let r : Run ℕ = opening_run (registered_of d.made).at_hand (opening_of c.args.opening) g.state.core in
    let e : r ≡ (t.core, Err StoreFull) = c.in_ok-made.ensures.made ∙ ap (λ (o : Option ScopeId). child_made o t.core) c.in-None.is in
    ap (λ (s : State). record g { state = s; fault = Some StoreFull }) c.make_scope.ensures.rest ∙ sym (ap (λ (x : Run ℕ). opened_by x g) e)

pub returns-in_ok-push-in-Some-clause-grounded : goal.returns-in_ok-push-in-Some-clause-grounded
returns-in_ok-push-in-Some-clause-grounded c =
    let w = c.args.works.now in
    let v = c.make_scope.new.works in
    let d = c.args.done.now in
    let old : List ℕ = map (λ (x : ScopeId). x.0) d.made.scopes.items in
    let within : c.in-Some.scope.0 < length v.core.scopes = some_is (λ (s : ScopeId). s.0 < length v.core.scopes) _ c.in-Some.scope c.in_ok-made.ensures.within c.in-Some.is in
    let scopes : map (λ (x : ScopeId). x.0) c.push.new.self.items ≡ old ++ c.in-Some.scope.0 ∷ [] =
    ap (map (λ (x : ScopeId). x.0)) c.in_ok-push-in-Some.ensures.items ∙ map-append (λ (x : ScopeId). x.0) d.made.scopes.items (c.in-Some.scope ∷ []) in
    record {
      scopes = subst (AreBelow (length v.core.scopes)) (sym scopes) (below_push (length v.core.scopes) old c.in-Some.scope.0 (below_more (length w.core.scopes) (length v.core.scopes) old c.in_ok-made.ensures.count c.requires.grounded.scopes) within);
      outsides = below_more (length w.core.scopes) (length v.core.scopes) (registered_of d.made).at_hand.outsides c.in_ok-made.ensures.count c.requires.grounded.outsides;
    }

pub returns-in-None-clause-grounded : goal.returns-in-None-clause-grounded
returns-in-None-clause-grounded c =
    let w = c.args.works.now in
    let v = c.make_scope.new.works in
    let g = (registered_of c.args.done.now.made).at_hand in
    record {
      scopes = below_more (length w.core.scopes) (length v.core.scopes) g.scopes c.in_ok-made.ensures.count c.requires.grounded.scopes;
      outsides = below_more (length w.core.scopes) (length v.core.scopes) g.outsides c.in_ok-made.ensures.count c.requires.grounded.outsides;
    }
