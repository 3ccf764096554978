use Rattle.std.proofs.Common.{◌∙◌, Bool, false, List, Option, ap, sym}
use Rattle.ng_fire.specs.Blocks.{Firing, begins_firing}
use Rattle.ng_fire.specs.Fires.{value_at}
use Rattle.ng_fire.specs.SiteFires.{outlets_fired, site_fired_by}
use Rattle.ng_instances.specs.Bindings.{Bound}
use Rattle.ng_link.specs.Calls.{keeping_at}
use Rattle.ng_instances.specs.Due.{Due}
use Rattle.ng_instances.specs.Instances.{instance_path}
use Rattle.ng_link.specs.State.{State, state_of}
use Rattle.ng_value.specs.Snaps.{snap_of}
use Rattle.ng_watch.specs.Table.{kept_at}
use Rattle.ng_fire.proofs.firing.fire_shown.Goals as goal

pub returns-clause-fired : goal.returns-clause-fired
returns-clause-fired c =
    let s : State = state_of c.args.works.now in
    let w : State = state_of c.keep_site.new.works in
    let k = c.args.key.now in
    let v = snap_of c.args.snapshot in
    let t : State = keeping_at k v s in
    ap (λ (b : Bool). (let g : Firing = record { state = w; faulted = b; added = c.quiet.result.added } in g)) c.quiet.ensures.faulted
    ∙ (ap (λ (b : Bool). (let g : Firing = record { state = w; faulted = false; added = b } in g)) c.quiet.ensures.added
    ∙ (ap begins_firing c.in_ok-keep_site.ensures.state
    ∙ (sym (ap (λ (ds : List Due). outlets_fired (instance_path t.inner k.path) v ds (begins_firing t)) c.requires.none)
    ∙ sym (ap (λ (o : Option Bound). site_fired_by o k v (value_at s k) (kept_at k s.watchers) t) c.requires.unbound))))
