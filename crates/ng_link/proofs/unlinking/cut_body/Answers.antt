use Rattle.std.proofs.Common.{arith}
use Rattle.ng_dom.proofs.Places.{cut_past}
use Rattle.ng_instances.specs.InstanceOf.{body_of}
use Rattle.ng_link.proofs.unlinking.cut_body.Goals as goal

pub returns-else-i-len : goal.returns-else-i-len
returns-else-i-len c =
    let past = c.if-i-len.false in
    let many = c.len.ensures in
    cut_past body_of c.args.i c.args.bodies.now.items (omega (arith, past, many))
