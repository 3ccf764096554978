use Rattle.std.proofs.Common.{◌≡◌, refl, ap, sym, ◌∙◌, subst}
use Rattle.std.specs.BTreeMap.{get}
use Rattle.std.specs.declared.ops.Bound.TheVariants.{Included}
use Rattle.ng_base.specs.Order.{path_cmp}
use Rattle.ng_behaviour.specs.Scopes.{path_at, dead_under}
use Rattle.ng_behaviour.proofs.Dying.{led-tree}
use Rattle.ng_scopes.specs.Index.{IsFirst, NoneFrom}
use Rattle.ng_scopes.specs.Rows.{tree_of}
use Rattle.ng_scopes.proofs.Bury.{IsToDie, to-die, die-end, die-path, die-led, die-done}
use Rattle.ng_scopes.proofs.rows.bury.Goals as goal

pub loop-id-init : goal.loop-id-init
loop-id-init c = record { len = refl; path = refl; end = refl; led = led-tree (tree_of c.args.rows.now.items) c.requires.tree; index = c.requires.index }

pub loop-id-preserved : goal.loop-id-preserved
loop-id-preserved c =
    let find = get path_cmp c.loop-id.index in
    let u = path_at (tree_of c.args.rows.now.items) c.args.s in
    let t = tree_of c.loop-id.rows.items in
    let same : path_at (tree_of c.as_slice.result.now) c.args.s ≡ u = ap (λ xs. path_at (tree_of xs) c.args.s) c.as_slice.ensures.value ∙ c.loop-id.invariant.path in
    let first : IsFirst find (Included u) u c.in-Some.id = subst (λ v. IsFirst find (Included v) v c.in-Some.id) same c.in-Some.ensures in
    let die : IsToDie t u c.in-Some.id = to-die t find u c.in-Some.id c.loop-id.invariant.led c.loop-id.invariant.index first in
    record {
      len = c.kill.ensures.len ∙ c.loop-id.invariant.len;
      path = ap (λ v. path_at v c.args.s) c.kill.ensures.tree ∙ die-path t c.in-Some.id c.args.s ∙ c.loop-id.invariant.path;
      end = ap (dead_under u) c.kill.ensures.tree ∙ die-end t u c.in-Some.id die ∙ c.loop-id.invariant.end;
      led = rw c.kill.ensures.tree (die-led t c.in-Some.id c.loop-id.invariant.led);
      index = c.kill.ensures.index;
    }

pub returns-clause-tree : goal.returns-clause-tree
returns-clause-tree c =
    let find = get path_cmp c.loop-id.index in
    let u = path_at (tree_of c.args.rows.now.items) c.args.s in
    let t = tree_of c.loop-id.rows.items in
    let same : path_at (tree_of c.as_slice.result.now) c.args.s ≡ u = ap (λ xs. path_at (tree_of xs) c.args.s) c.as_slice.ensures.value ∙ c.loop-id.invariant.path in
    let none : NoneFrom find (Included u) u = subst (λ v. NoneFrom find (Included v) v) same c.in_default.ensures in
    sym (die-done t find u c.loop-id.invariant.led c.loop-id.invariant.index none) ∙ c.loop-id.invariant.end
