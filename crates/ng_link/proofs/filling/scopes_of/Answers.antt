use Rattle.std.proofs.Common.{◌+◌, ◌++◌, ◌∙◌, ℕ, List, ap, append-nil, drop, map, sym}
use Rattle.std.proofs.lemmas.List.{drop_all}
use Rattle.ng_base.specs.declared.name.ScopeId.{ScopeId}
use Rattle.ng_build.proofs.Loops.{next_seen, pushed}
use Rattle.ng_instances.specs.Instances.{Body, linked_at}
use Rattle.ng_instances.specs.declared.instances.Body as code
use Rattle.ng_instances.specs.InstanceOf.{body_of, instances_of}
use Rattle.ng_link.specs.Events.{scope_in, scopes_at}
use Rattle.ng_link.proofs.filling.scopes_of.Goals as goal

pub loop-body-preserved : goal.loop-body-preserved
loop-body-preserved c =
    let l = c.loop-body in
    let bs = c.args.bodies.now in
    let ns : List ScopeId = l.scopes.items in
    let n : ScopeId = c.next_scope.result in
    let es = c.args.instances.now.entries in
    record {
      scopes = λ all.
          (let is = instances_of all es in
          let rest : List ℕ = scopes_at (map body_of (drop (l.body-index + 1) bs)) is in
          ap (λ (ys : List ScopeId). map (λ (s : ScopeId). s.0) ys ++ rest) c.in_ok-push.ensures.items
          ∙ (pushed (λ (s : ScopeId). s.0) ns n (scope_in (linked_at c.body-item.result.path is)) rest (c.next_scope.ensures.scope all ∙ ap (λ (p : List ℕ). scope_in (linked_at p is)) c.path.ensures)
          ∙ (sym (ap (λ (ys : List Body). map (λ (s : ScopeId). s.0) ns ++ scopes_at ys is) (next_seen body_of bs l.body-index c.body-item.result c.loop-body-test.true c.body-item.is)) ∙ l.invariant.scopes all)));
      ahead = c.next_scope.ensures.ahead;
    }

pub returns : goal.returns
returns c = λ all.
    (let l = c.loop-body in
    let is = instances_of all c.args.instances.now.entries in
    let ns : List ℕ = map (λ (s : ScopeId). s.0) l.scopes.items in
    sym (append-nil ns) ∙ (ap (λ (bs : List code.Body). ns ++ scopes_at (map body_of bs) is) (sym (drop_all l.body-index c.args.bodies.now c.loop-body-test.false)) ∙ l.invariant.scopes all))
