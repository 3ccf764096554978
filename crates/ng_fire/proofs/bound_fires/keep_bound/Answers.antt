use Rattle.std.proofs.Common.{Bool, Some, length, subst, sym}
use Rattle.ng_core.proofs.MoreScopes.{ok_and}
use Rattle.ng_changes.proofs.Wholes.{Stays, keeping_stays, stays_of, whole_with}
use Rattle.ng_changes.specs.Whole.{RowStands}
use Rattle.ng_link.specs.State.{State, state_of}
use Rattle.ng_value.specs.Snaps.{snap_of}
use Rattle.ng_fire.proofs.bound_fires.keep_bound.Goals as goal

pub returns-clause-whole : goal.returns-clause-whole
returns-clause-whole c =
    let w = c.args.works.now in
    let v = c.keep.new.self in
    let n = w.core.scopes in
    let m = length w.core.store in
    let t = snap_of c.args.snapshot in
    let row = subst (λ (b : Bool). RowStands m b (Some t)) (sym c.requires.site) tt in
    ok_and c.keep.result c.keep.ensures.state c.keep.ensures.stands
    (λ state stands. whole_with w v c.requires.whole c.keep.ensures.core stands (subst (λ (s : State). Stays n m s) (sym state) (keeping_stays n m c.args.key.now t (state_of w) row (stays_of w c.requires.whole))))
