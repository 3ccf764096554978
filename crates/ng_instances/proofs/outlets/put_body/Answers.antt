use Rattle.std.proofs.Common.{◌≤◌, length, arith}
use Rattle.ng_dom.proofs.Places.{put_end}
use Rattle.ng_instances.specs.InstanceOf.{body_of}
use Rattle.ng_instances.proofs.outlets.put_body.Goals as goal

pub returns-in_ok-push : goal.returns-in_ok-push
returns-in_ok-push c =
    let bs = c.args.bodies.now.items in
    let past : length bs ≤ c.args.at = omega arith in
    put_end body_of c.args.at c.args.body bs c.push.new.self.items c.in_ok-push.ensures.items past
