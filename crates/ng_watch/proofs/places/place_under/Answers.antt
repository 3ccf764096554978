use Rattle.std.proofs.Common.{◌≡◌, false, subst, refl}
use Rattle.ng_base.specs.declared.path.Key.{Key}
use Rattle.ng_behaviour.specs.Keys.{begins}
use Rattle.ng_watch.specs.declared.watched.Watched.{Watched}
use Rattle.ng_watch.proofs.Under.{none_under}
use Rattle.ng_watch.proofs.places.place_under.Goals as goal

pub returns-in-None-clause-none : goal.returns-in-None-clause-none
returns-in-None-clause-none c = λ n. none_under c.args.p.now _ c.args.chunks.now c.edge-at.result.chunk c.edge-at.result.row c.requires c.edge-at.ensures.edge (λ e h. absurd (cc (h, c.in-None.ensures))) refl

pub returns-else-begins-clause-none : goal.returns-else-begins-clause-none
returns-else-begins-clause-none c = λ n. none_under c.args.p.now _ c.args.chunks.now c.edge-at.result.chunk c.edge-at.result.row c.requires c.edge-at.ensures.edge (λ e h.
    let same : c.in-Some.row.now ≡ e = cc (h, c.in-Some.ensures) in
    let apart : begins c.args.p.now c.in-Some.row.now.0.path ≡ false = cc in
    subst (λ (d : Key × Watched). begins c.args.p.now d.0.path ≡ false) same apart) refl
