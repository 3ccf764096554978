use Rattle.std.proofs.Common.{◌≡◌, ◌∙◌, ℕ, List, Some, ap, map, slice_get, sym}
use Rattle.std.specs.Prelude.{Option}
use Rattle.ng_changes.proofs.Answered.{ok_then}
use Rattle.ng_fire.proofs.BlockBodies.{ended_linked}
use Rattle.ng_rows.proofs.RowAt.{row_at}
use Rattle.ng_fire.specs.Blocks.{Firing, ended}
use Rattle.ng_fire.specs.FireOf.{firing}
use Rattle.ng_fire.specs.Repeats.{all_ended, body_at}
use Rattle.ng_instances.specs.Instances.{Body}
use Rattle.ng_instances.specs.InstanceOf.{body_of}
use Rattle.ng_fire.proofs.repeats.end_row.Goals as goal

pub returns-in-Some-clause-fired : goal.returns-in-Some-clause-fired
returns-in-Some-clause-fired c =
    let b : Body = body_of c.in-Some.body.now in
    let get : slice_get (map body_of c.args.bodies.now) c.args.i ≡ Some b = row_at c.args.bodies.now c.args.i c.in-Some.body.now c.in-Some.ensures.lookup.3.0 c.in-Some.ensures.lookup.1 in
    ok_then c.end_body.result c.end_body.ensures.fired
    (λ fired. fired ∙ (ap (λ (p : List ℕ). ended p (firing c.args.works.now c.args.told.now)) c.path.ensures ∙ sym (ap (λ (x : Option Body). all_ended (body_at x) (firing c.args.works.now c.args.told.now)) get)))

pub returns-in-Some-clause-instances : goal.returns-in-Some-clause-instances
returns-in-Some-clause-instances c =
    ok_then c.end_body.result c.end_body.ensures.fired
    (λ fired. ap (λ (g : Firing). g.state.instances) fired ∙ ended_linked c.path.result.now (firing c.args.works.now c.args.told.now))
