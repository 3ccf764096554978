use Rattle.std.proofs.Common.{rules, ◌≡◌, List, None, length, subst, sym, arith}
use Rattle.ng_base.specs.Objects.{Object}
use Rattle.ng_behaviour.specs.Scopes.{Scope}
use Rattle.ng_changes.proofs.Children.{made_count, made_whole, made_within}
use Rattle.ng_changes.specs.Whole.{IsWhole}
use Rattle.ng_link.specs.declared.works.Works.{Works}
use Rattle.ng_changes.proofs.scoping.make_isolate.Goals as goal

pub returns-in-Ok-clause-within : goal.returns-in-Ok-clause-within
returns-in-Ok-clause-within c = made_within c.args.works.now.core.scopes c.new_isolate-made.new.self c.args.scope.0 c.args.works.now.core.store c.in-Ok.child c.in-Ok.ensures.tree c.in-Ok.ensures.answer

pub returns-in-Ok-clause-count : goal.returns-in-Ok-clause-count
returns-in-Ok-clause-count c =
    let w : Works = c.args.works.now in
    let count = made_count w.core.scopes c.new_isolate-made.new.self c.args.scope.0 (length w.core.store) c.in-Ok.ensures.tree in
    omega (arith, count)

pub returns-in-Ok-clause-whole : goal.returns-in-Ok-clause-whole
returns-in-Ok-clause-whole c =
    made_whole c.args.works.now c.new_isolate-made.new.self c.new_isolate-made.new.store None c.args.scope.0 c.requires.whole c.requires.scope c.in-Ok.ensures.tree c.in-Ok.ensures.store c.new_isolate-made.ensures.objects

pub returns-in-Err-Full-clause-whole : goal.returns-in-Err-Full-clause-whole
returns-in-Err-Full-clause-whole c =
    let w : Works = c.args.works.now in
    let e : c.new_isolate-made.new.store ≡ w.core.store = search rules in
    let k : c.new_isolate-made.new.self ≡ w.core.scopes = search rules in
    subst (λ (x : List Object). IsWhole (record w { core = record w.core { store = x; scopes = c.new_isolate-made.new.self } })) (sym e)
    (subst (λ (x : List Scope). IsWhole (record w { core = record w.core { scopes = x } })) (sym k) c.requires.whole)
