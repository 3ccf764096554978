use Rattle.std.proofs.Common.{length, subst, sym, Bool, Some}
use Rattle.ng_changes.proofs.Wholes.{Stays, keeping_stays, stays_of, whole_with}
use Rattle.ng_changes.specs.Whole.{RowStands}
use Rattle.ng_link.specs.State.{State, state_of}
use Rattle.ng_value.specs.Snaps.{snap_of}
use Rattle.ng_fire.proofs.firing.keep_site.Goals as goal

pub returns-clause-whole : goal.returns-clause-whole
returns-clause-whole c =
    let w = c.args.works.now in
    let v = c.keep.new.self in
    let n = w.core.scopes in
    let m = length w.core.store in
    let t = snap_of c.args.snapshot in
    let row = subst (λ (b : Bool). RowStands m b (Some t)) (sym c.requires.site) tt in
    whole_with w v c.requires.whole c.keep.ensures.core c.in_ok-keep.ensures.stands
    (subst (λ (s : State). Stays n m s) (sym c.in_ok-keep.ensures.state) (keeping_stays n m c.args.key.now t (state_of w) row (stays_of w c.requires.whole)))
