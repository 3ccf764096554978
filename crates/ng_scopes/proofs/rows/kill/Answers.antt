use Rattle.std.proofs.Common.{◌≡◌, ◌<◌, length, None, cond, ap, sym, ◌∙◌, arith}
use Rattle.std.specs.Ordering.{is_eq}
use Rattle.std.specs.BTreeMap.{get}
use Rattle.ng_base.specs.Order.{path_cmp}
use Rattle.ng_behaviour.specs.Scopes.{path_at, dead, live_scope}
use Rattle.ng_scopes.specs.Rows.{tree_of, scope_of}
use Rattle.ng_scopes.proofs.TreeOf.{tree-length, tree-read, tree-set}
use Rattle.ng_scopes.proofs.Bury.{die-index}
use Rattle.ng_scopes.proofs.rows.kill.Goals as goal

pub returns-clause-index : goal.returns-clause-index
returns-clause-index c =
    let h : c.args.s < length c.args.rows.now.items = grind arith in
    let path : path_at (tree_of c.args.rows.now.items) c.args.s ≡ c.index_mut-row.result.now.path =
    ap (λ x. x.path) (tree-read c.args.rows.now.items c.args.s c.index_mut-row.result.now h) ∙ ap (λ r. r.path) (sym c.index_mut-row.ensures.value) in
    λ p.
    die-index (tree_of c.args.rows.now.items) c.args.s (get path_cmp c.args.index.now) (get path_cmp c.remove.new.self) c.requires.led (rw (tree-length c.args.rows.now.items) h) c.requires.index
    (λ q. c.remove.ensures.updates.0 q ∙ ap (λ u. cond (is_eq (path_cmp u q)) None (get path_cmp c.args.index.now q)) (sym path)) p
    ∙ ap (λ t. live_scope t p) (sym (tree-set c.args.rows.now.items c.args.s c.index_mut-row.result.now _ dead h (ap (λ r. dead (scope_of r)) c.index_mut-row.ensures.value)))
