use Rattle.std.proofs.Common.{◌∙◌, sym, length, rules}
use Rattle.ng_base.specs.Objects.{StandsAmong}
use Rattle.ng_base.specs.ViewOf.{view_of}
use Rattle.ng_members.proofs.Stand.{mul_stands, div_stands, rem_stands, sub_stands, given_stands, add_stands}
use Rattle.ng_members.proofs.operators.operator_value.Goals as goal

pub returns-in_ok-mul-in-Multiply-clause-stands : goal.returns-in_ok-mul-in-Multiply-clause-stands
returns-in_ok-mul-in-Multiply-clause-stands c =
    let n = length c.args.store.now in
    let s : StandsAmong n c.in_ok-mul-in-Multiply.field-0 = mul_stands (view_of c.args.a.now) (view_of c.args.b.now) n c.in_ok-mul-in-Multiply.field-0 (sym c.mul.ensures ∙ c.in_ok-mul-in-Multiply.was) in
    search rules

pub returns-in_ok-div-in-Divide-clause-stands : goal.returns-in_ok-div-in-Divide-clause-stands
returns-in_ok-div-in-Divide-clause-stands c =
    let n = length c.args.store.now in
    let s : StandsAmong n c.in_ok-div-in-Divide.field-0 = div_stands (view_of c.args.a.now) (view_of c.args.b.now) n c.in_ok-div-in-Divide.field-0 (sym c.div.ensures ∙ c.in_ok-div-in-Divide.was) in
    search rules

pub returns-in_ok-rem-in-Remainder-clause-stands : goal.returns-in_ok-rem-in-Remainder-clause-stands
returns-in_ok-rem-in-Remainder-clause-stands c =
    let n = length c.args.store.now in
    let s : StandsAmong n c.in_ok-rem-in-Remainder.field-0 = rem_stands (view_of c.args.a.now) (view_of c.args.b.now) n c.in_ok-rem-in-Remainder.field-0 (sym c.rem.ensures ∙ c.in_ok-rem-in-Remainder.was) in
    search rules

pub returns-in_ok-sub-in-Subtract-clause-stands : goal.returns-in_ok-sub-in-Subtract-clause-stands
returns-in_ok-sub-in-Subtract-clause-stands c =
    let n = length c.args.store.now in
    let s : StandsAmong n c.in_ok-sub-in-Subtract.field-0 = sub_stands (view_of c.args.a.now) (view_of c.args.b.now) n c.in_ok-sub-in-Subtract.field-0 (sym c.sub.ensures ∙ c.in_ok-sub-in-Subtract.was) in
    search rules

pub returns-in-Add-clause-stands : goal.returns-in-Add-clause-stands
returns-in-Add-clause-stands c =
    let n = length c.args.store.now in
    given_stands n c.add.result _ c.add.ensures (λ w h. add_stands c.args.store.now (view_of c.args.a.now) (view_of c.args.b.now) n w c.requires.left c.requires.right h)
