use Rattle.std.proofs.Common.{◌∙◌, ap, map, subst}
use Rattle.ng_instances.specs.Due.{all_due, due_of}
use Rattle.ng_instances.specs.Instances.{bound_for, linked_for}
use Rattle.ng_instances.specs.SiteHere.{FillsAs}
use Rattle.ng_instances.specs.declared.sites.Fills.{Fills}
use Rattle.ng_link.specs.State.{state_of}
use Rattle.ng_fire.proofs.firing.fire_drawn.Goals as goal

pub fire_unbound-requires-clause-site : goal.fire_unbound-requires-clause-site
fire_unbound-requires-clause-site c = c.requires.site.0

pub fire_unbound-requires-clause-node : goal.fire_unbound-requires-clause-node
fire_unbound-requires-clause-node c = c.requires.site.1.0

pub fire_unbound-requires-clause-due : goal.fire_unbound-requires-clause-due
fire_unbound-requires-clause-due c =
    let s = state_of c.args.works.now in
    let k = c.args.key.now in
    let fills = subst (λ (x : Fills). FillsAs (bound_for s.inner s.instances k) (all_due k (linked_for s.inner k.path s.instances)) x) c.in-Outlets.is c.requires.site.1.1 in
    ap (map due_of) c.as_slice.ensures.value ∙ fills.1

pub fire_unbound-requires-clause-unbound : goal.fire_unbound-requires-clause-unbound
fire_unbound-requires-clause-unbound c =
    let s = state_of c.args.works.now in
    let k = c.args.key.now in
    let fills = subst (λ (x : Fills). FillsAs (bound_for s.inner s.instances k) (all_due k (linked_for s.inner k.path s.instances)) x) c.in-Outlets.is c.requires.site.1.1 in
    fills.0

pub fire_bound-requires-clause-site : goal.fire_bound-requires-clause-site
fire_bound-requires-clause-site c = c.requires.site.0

pub fire_bound-requires-clause-node : goal.fire_bound-requires-clause-node
fire_bound-requires-clause-node c = c.requires.site.1.0

pub fire_bound-requires-clause-bound : goal.fire_bound-requires-clause-bound
fire_bound-requires-clause-bound c =
    let s = state_of c.args.works.now in
    let k = c.args.key.now in
    subst (λ (x : Fills). FillsAs (bound_for s.inner s.instances k) (all_due k (linked_for s.inner k.path s.instances)) x) c.in-Writes.is c.requires.site.1.1
