use Rattle.std.proofs.Common.{Option, subst}
use Rattle.ng_changes.proofs.Entries.{if_ok}
use Rattle.ng_fire.proofs.Fired.{adds_site, fired_site}
use Rattle.ng_fire.specs.FireOf.{firing}
use Rattle.ng_instances.specs.declared.sites.SiteHere.{SiteHere}
use Rattle.ng_link.specs.SiteAt.{StandsAt}
use Rattle.ng_link.specs.State.{state_of}
use Rattle.ng_value.specs.Snaps.{snap_of}
use Rattle.ng_fire.proofs.firing.fire_watcher.Goals as goal

pub fire_drawn-requires-clause-site : goal.fire_drawn-requires-clause-site
fire_drawn-requires-clause-site c = subst (λ (o : Option SiteHere). StandsAt c.args.works.now c.args.key.now o) c.in-Some.is c.in_ok-here.ensures

pub fire_declared-requires-clause-nowhere : goal.fire_declared-requires-clause-nowhere
fire_declared-requires-clause-nowhere c = (subst (λ (o : Option SiteHere). StandsAt c.args.works.now c.args.key.now o) c.in-None.is c.in_ok-here.ensures).1

pub fire_declared-requires-clause-declared : goal.fire_declared-requires-clause-declared
fire_declared-requires-clause-declared c = (subst (λ (o : Option SiteHere). StandsAt c.args.works.now c.args.key.now o) c.in-None.is c.in_ok-here.ensures).0

pub returns-in-Some-clause-state : goal.returns-in-Some-clause-state
returns-in-Some-clause-state c =
    let s = state_of c.args.works.now in
    let site = subst (λ (o : Option SiteHere). StandsAt c.args.works.now c.args.key.now o) c.in-Some.is c.in_ok-here.ensures in
    if_ok c.fire_drawn.result c.fire_drawn.ensures.fired (λ f e. fired_site c.args.key.now (snap_of c.args.snapshot) s (firing c.fire_drawn.new.works f.followed) site.0 e)

pub returns-in-Some-clause-added : goal.returns-in-Some-clause-added
returns-in-Some-clause-added c =
    let s = state_of c.args.works.now in
    let site = subst (λ (o : Option SiteHere). StandsAt c.args.works.now c.args.key.now o) c.in-Some.is c.in_ok-here.ensures in
    if_ok c.fire_drawn.result c.fire_drawn.ensures.fired (λ f e. adds_site c.args.key.now (snap_of c.args.snapshot) s (firing c.fire_drawn.new.works f.followed) site.0 e)
