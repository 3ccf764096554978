use Rattle.std.proofs.Common.{◌≡◌, false}
use Rattle.std.specs.BTreeMap.{get}
use Rattle.ng_base.specs.Order.{path_cmp}
use Rattle.ng_behaviour.specs.Scopes.{begins}
use Rattle.ng_scopes.proofs.First.{none-behind, less-above}
use Rattle.ng_scopes.proofs.index.first_above.Goals as goal

pub returns-else-begins : goal.returns-else-begins
returns-else-begins c =
    let r = c.range.ensures.in_range tt in
    λ q h b. none-behind c.args.under.now c.args.p.now c.in-Some.path.now q (get path_cmp c.args.index.now q)
    (let e : begins c.args.under.now c.in-Some.path.now ≡ false = cc (c.begins.ensures, c.if-begins.false, c.as_slice.ensures, c.as_slice-in-Some.ensures) in e)
    c.requires (less-above c.args.p.now c.in-Some.path.now (rw c.in-Some.ensures.steps at r.1).0.0) (λ k. rw c.in-Some.ensures.steps at (r.2 q (h, tt) k)) b
