use Rattle.std.proofs.Common.{◌≡◌, ◌∙◌, Bool, Some, None, true, false, cond, sym, ap}
use Rattle.std.specs.BTreeMap.Range.{entries_between}
use Rattle.std.specs.declared.ops.Bound.TheVariants.{Included, Unbounded}
use Rattle.ng_base.specs.declared.path.Key.{Key}
use Rattle.ng_behaviour.specs.Keys.{key_cmp, begins}
use Rattle.ng_build.proofs.Firsts.{none_on, first_on}
use Rattle.ng_build.proofs.forgetting.first_on.Goals as goal

pub returns-in-None : goal.returns-in-None
returns-in-None g c =
    let es = c.args.table.now.entries in
    sym (none_on _ c.args.p.now es (ap (λ (k : Key). entries_between key_cmp (Included k) Unbounded es) (sym c.requires) ∙ (sym (c.range.ensures.between tt) ∙ c.in-None.ensures.steps.0)))

pub returns-in_ok-key_on-in-Some : goal.returns-in_ok-key_on-in-Some
returns-in_ok-key_on-in-Some g c =
    let p = c.args.p.now in
    let es = c.args.table.now.entries in
    let q = c.in-Some.key.now in
    let on : begins p q.path ≡ true = cc (c.begins.ensures, c.if-begins.true, c.as_slice.ensures, c.as_slice-in-Some.ensures) in
    ap (λ (k : Key). Some k) c.in_ok-key_on-in-Some.ensures
    ∙ sym (first_on _ p es c.range.ensures.ordered (q, c.in-Some.field-0-1.now) c.next.new.self
    (ap (λ (k : Key). entries_between key_cmp (Included k) Unbounded es) (sym c.requires) ∙ (sym (c.range.ensures.between tt) ∙ c.in-Some.ensures.steps))
    ∙ ap (λ (b : Bool). cond b (Some q) None) on)

pub returns-else-begins : goal.returns-else-begins
returns-else-begins g c =
    let p = c.args.p.now in
    let es = c.args.table.now.entries in
    let q = c.in-Some.key.now in
    let off : begins p q.path ≡ false = cc (c.begins.ensures, c.if-begins.false, c.as_slice.ensures, c.as_slice-in-Some.ensures) in
    sym (first_on _ p es c.range.ensures.ordered (q, c.in-Some.field-0-1.now) c.next.new.self
    (ap (λ (k : Key). entries_between key_cmp (Included k) Unbounded es) (sym c.requires) ∙ (sym (c.range.ensures.between tt) ∙ c.in-Some.ensures.steps))
    ∙ ap (λ (b : Bool). cond b (Some q) None) off)
