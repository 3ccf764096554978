use Rattle.std.proofs.Common.{◌≡◌, ◌∙◌, List, ℕ, Bool, Some, None, true, false, cond, sym, ap}
use Rattle.ng_behaviour.specs.Keys.{begins}
use Rattle.ng_instances.specs.declared.instances.Linked.{Linked}
use Rattle.ng_build.proofs.Firsts.{none_below, first_below}
use Rattle.ng_link.proofs.unlinking.first_below.Goals as goal

pub returns-in-None : goal.returns-in-None
returns-in-None c = sym (none_below Linked c.args.p.now c.args.instances.now.entries (sym (c.range.ensures.between tt) ∙ c.in-None.ensures.steps.0))

pub returns-in_ok-copied-in-Some : goal.returns-in_ok-copied-in-Some
returns-in_ok-copied-in-Some c =
    let p = c.args.p.now in
    let q = c.in-Some.path.now in
    let on : begins p q ≡ true = cc (c.begins.ensures, c.if-begins.true, c.as_slice.ensures, c.as_slice-in-Some.ensures) in
    ap (λ (x : List ℕ). Some x) c.in_ok-copied-in-Some.ensures
    ∙ sym (first_below Linked p c.args.instances.now.entries c.range.ensures.ordered (q, c.in-Some.field-0-1.now) c.next.new.self (sym (c.range.ensures.between tt) ∙ c.in-Some.ensures.steps)
    ∙ ap (λ (b : Bool). cond b (Some q) None) on)

pub returns-else-begins : goal.returns-else-begins
returns-else-begins c =
    let p = c.args.p.now in
    let q = c.in-Some.path.now in
    let off : begins p q ≡ false = cc (c.begins.ensures, c.if-begins.false, c.as_slice.ensures, c.as_slice-in-Some.ensures) in
    sym (first_below Linked p c.args.instances.now.entries c.range.ensures.ordered (q, c.in-Some.field-0-1.now) c.next.new.self (sym (c.range.ensures.between tt) ∙ c.in-Some.ensures.steps)
    ∙ ap (λ (b : Bool). cond b (Some q) None) off)
