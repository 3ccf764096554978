use Rattle.std.proofs.Common.{rules, ◌<◌, sym, length, arith}
use Rattle.ng_instances.specs.InstanceOf.{body_of}
use Rattle.ng_instances.proofs.Written.{added_set, added_past}
use Rattle.ng_instances.proofs.outlets.add_body.Goals as goal

pub returns-in_ok-push_body : goal.returns-in_ok-push_body
returns-in_ok-push_body c =
    let os = c.args.outlets.now.items in
    let lt : c.args.outlet < length os = search (rules) in
    added_set (body_of c.args.body) c.args.outlet c.args.at os c.index_mut.result.now c.push_body.new.state lt c.index_mut.ensures.value c.in_ok-push_body.ensures

pub returns-else-outlet-len : goal.returns-else-outlet-len
returns-else-outlet-len c =
    let past = c.if-outlet-len.false in
    let len = c.len.ensures in
    sym (added_past (body_of c.args.body) c.args.outlet c.args.at c.args.outlets.now.items (λ lt. omega (arith, lt, past, len)))
