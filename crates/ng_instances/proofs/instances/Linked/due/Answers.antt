use Rattle.std.proofs.Common.{◌≡◌, Bool, List, [], ap, sym, subst, ◌∙◌, map}
use Rattle.std.specs.Prelude.{IfOk, if◌then◌else◌}
use Rattle.ng_instances.specs.Due.{Due, due_of, due_from, without_rows}
use Rattle.ng_instances.specs.InstanceOf.{outlet_of}
use Rattle.ng_instances.specs.declared.instances.OutletState.{OutletState}
use Rattle.ng_instances.proofs.instances.Linked.due.Goals as goal

pub returns-then-not-is_own : goal.returns-then-not-is_own
returns-then-not-is_own c = λ all.
    let filled : Bool → List Due = λ b. map without_rows (if b then due_from c.args.key.now.serial.0 0 (map outlet_of c.args.self.now.outlets.items) else []) in
    ap (map due_of) c.new.ensures.items ∙ sym (ap filled (sym c.is_own.ensures ∙ c.if-not-is_own.true))

pub returns : goal.returns
returns c = λ all.
    let serial = c.args.key.now.serial.0 in
    let filled : Bool → List Due = λ b. map without_rows (if b then due_from serial 0 (map outlet_of c.args.self.now.outlets.items) else []) in
    let same = ap (λ (os : List OutletState). map without_rows (due_from serial 0 (map outlet_of os))) c.as_slice.ensures.value ∙ sym (ap filled (sym c.is_own.ensures ∙ c.if-not-is_own.false)) in
    subst (λ (ds : List Due). IfOk c.due_among.result (λ v. map due_of v.items ≡ ds)) same c.due_among.ensures
