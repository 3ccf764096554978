use Rattle.std.proofs.Common.{◌≡◌, ◌∙◌, ap, sym}
use Rattle.std.specs.Ordering.{is_eq}
use Rattle.ng_instances.proofs.PathIs.{path_is}
use Rattle.ng_link.proofs.Walked.{first_scope, rest_of}
use Rattle.ng_link.proofs.filling.scope_ahead.Goals as goal

pub returns-in-Equal-clause-found : goal.returns-in-Equal-clause-found
returns-in-Equal-clause-found c = λ all is are.
    (let q = c.in-Some.path.now in
    let p = c.args.p.now in
    let same : q ≡ p = path_is q p (sym (ap is_eq c.cmp.ensures) ∙ ap is_eq c.in-Equal.is) in
    first_scope all is c.loop-i.ahead c.next.new.self (q, c.in-Some.one.now) p (c.loop-i.invariant is are) c.in-Some.ensures.steps same)

pub returns-in-Equal-clause-rest : goal.returns-in-Equal-clause-rest
returns-in-Equal-clause-rest c = λ is are. rest_of is c.loop-i.ahead c.next.new.self (c.in-Some.path.now, c.in-Some.one.now) (c.loop-i.invariant is are) c.in-Some.ensures.steps

pub returns-in-Greater-clause-rest : goal.returns-in-Greater-clause-rest
returns-in-Greater-clause-rest c = λ is are. rest_of is c.loop-i.ahead c.next.new.self (c.in-Some.path.now, c.in-Some.one.now) (c.loop-i.invariant is are) c.in-Some.ensures.steps

pub loop-i-preserved : goal.loop-i-preserved
loop-i-preserved c = λ is are. rest_of is c.loop-i.ahead c.next.new.self (c.in-Some.path.now, c.in-Some.one.now) (c.loop-i.invariant is are) c.in-Some.ensures.steps
