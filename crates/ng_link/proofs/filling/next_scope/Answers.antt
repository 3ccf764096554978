use Rattle.std.proofs.Common.{◌≡◌, ◌∙◌, None, sym, true, false}
use Rattle.std.proofs.lemmas.Slice.Eq.{bytes_eq-Decides}
use Rattle.ng_link.proofs.Walked.{first_scope, found_scope, none_from, other_from, range_of, rest_of}
use Rattle.ng_link.proofs.filling.next_scope.Goals as goal

pub returns-in-Some-clause-ahead : goal.returns-in-Some-clause-ahead
returns-in-Some-clause-ahead c = c.scope_ahead.ensures.rest c.args.instances.now.entries c.requires.ahead

pub returns-in-None-clause-scope : goal.returns-in-None-clause-scope
returns-in-None-clause-scope c = λ all.
    (let m = c.args.instances.now in
    found_scope all m.entries c.args.p.now None (none_from c.args.p.now m c.range.result (c.range.ensures.in_range tt) c.in-None.ensures.steps.0))

pub returns-then-eq-clause-scope : goal.returns-then-eq-clause-scope
returns-then-eq-clause-scope c = λ all.
    (let m = c.args.instances.now in
    let q = c.in-Some-next.path.now in
    let p = c.args.p.now in
    let same : q ≡ p = (bytes_eq-Decides q p).0 (sym c.eq.ensures ∙ c.if-eq.true) in
    first_scope all m.entries c.range.result c.next.new.self (q, c.in-Some-next.one.now) p (range_of p m c.range.result (c.range.ensures.in_range tt)) c.in-Some-next.ensures.steps same)

pub returns-then-eq-clause-ahead : goal.returns-then-eq-clause-ahead
returns-then-eq-clause-ahead c =
    let m = c.args.instances.now in
    rest_of m.entries c.range.result c.next.new.self (c.in-Some-next.path.now, c.in-Some-next.one.now) (range_of c.args.p.now m c.range.result (c.range.ensures.in_range tt)) c.in-Some-next.ensures.steps

pub returns-else-eq-clause-scope : goal.returns-else-eq-clause-scope
returns-else-eq-clause-scope c = λ all.
    (let m = c.args.instances.now in
    let q = c.in-Some-next.path.now in
    let p = c.args.p.now in
    let off : q ≡ p → ⊥ = λ same. (let two : true ≡ false = sym ((bytes_eq-Decides q p).1 same) ∙ (sym c.eq.ensures ∙ c.if-eq.false) in cc) in
    found_scope all m.entries p None (other_from p m c.range.result (c.range.ensures.in_range tt) (q, c.in-Some-next.one.now) c.next.new.self c.in-Some-next.ensures.steps off))

pub returns-else-eq-clause-ahead : goal.returns-else-eq-clause-ahead
returns-else-eq-clause-ahead c =
    let m = c.args.instances.now in
    rest_of m.entries c.range.result c.next.new.self (c.in-Some-next.path.now, c.in-Some-next.one.now) (range_of c.args.p.now m c.range.result (c.range.ensures.in_range tt)) c.in-Some-next.ensures.steps
