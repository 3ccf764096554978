use Rattle.std.proofs.Common.{◌≡◌, ◌&&◌, ◌++◌, ◌∷◌, [], ℕ, Some, None, cond, length, ap, sym, ◌∙◌, arith, vec_len}
use Rattle.std.specs.Ordering.{is_eq}
use Rattle.std.specs.BTreeMap.{get}
use Rattle.ng_base.specs.Order.{path_cmp}
use Rattle.ng_behaviour.specs.Scopes.{Scope, child_of, child_path, change_at, adopting, live_scope, live_at}
use Rattle.ng_scopes.specs.Rows.{tree_of, scope_of}
use Rattle.ng_scopes.proofs.TreeOf.{tree-length}
use Rattle.ng_scopes.proofs.Sound.{grown-index, back-index}
use Rattle.ng_scopes.proofs.rows.add.Goals as goal

pub returns-in-Ok-clause-index : goal.returns-in-Ok-clause-index
returns-in-Ok-clause-index c =
    let t = tree_of c.args.rows.now.items in
    let n : c.len.result ≡ length t = rw (tree-length c.args.rows.now.items) (grind arith) in
    let m : vec_len c.args.rows.now ≡ length t = rw (tree-length c.args.rows.now.items) (grind arith) in
    let r : scope_of c.in_ok-row.row ≡ child_of t c.args.c c.args.object = c.in_ok-row.ensures ∙ ap (λ xs. child_of (tree_of xs) c.args.c c.args.object) c.as_slice.ensures.value in
    let made = c.in-Ok.ensures.ok ∙ ap (λ (k : ℕ). change_at t c.args.c (adopting k) ++ scope_of c.in_ok-row.row ∷ []) m ∙ ap (λ x. change_at t c.args.c (adopting (length t)) ++ x ∷ []) r in
    λ q.
    grown-index t c.args.c c.args.object (get path_cmp c.args.index.now) (get path_cmp c.enlist.new.index) c.requires.tree (rw (tree-length c.args.rows.now.items) (grind arith)) c.requires.index
    (λ p. c.in_ok-enlist.ensures.ok p ∙ ap (λ (x : Scope). cond (x.live && is_eq (path_cmp x.path p)) (Some c.len.result) (get path_cmp c.args.index.now p)) r ∙ ap (λ k. cond (live_at t c.args.c && is_eq (path_cmp (child_path t c.args.c) p)) (Some k) (get path_cmp c.args.index.now p)) n) q
    ∙ ap (λ u. live_scope u q) (sym made)

pub returns-in-Err-clause-index : goal.returns-in-Err-clause-index
returns-in-Err-clause-index c =
    let t = tree_of c.args.rows.now.items in
    let n : c.len.result ≡ length t = rw (tree-length c.args.rows.now.items) (grind arith) in
    let r : scope_of c.in_ok-row.row ≡ child_of t c.args.c c.args.object = c.in_ok-row.ensures ∙ ap (λ xs. child_of (tree_of xs) c.args.c c.args.object) c.as_slice.ensures.value in
    λ q.
    back-index t c.args.c (get path_cmp c.args.index.now) (get path_cmp c.enlist.new.index) (get path_cmp c.delist.new.index) c.requires.tree (rw (tree-length c.args.rows.now.items) (grind arith)) c.requires.index
    (λ p. c.in_ok-enlist.ensures.ok p ∙ ap (λ (x : Scope). cond (x.live && is_eq (path_cmp x.path p)) (Some c.len.result) (get path_cmp c.args.index.now p)) r ∙ ap (λ k. cond (live_at t c.args.c && is_eq (path_cmp (child_path t c.args.c) p)) (Some k) (get path_cmp c.args.index.now p)) n)
    (λ p. c.delist.ensures p ∙ ap (λ (x : Scope). cond (is_eq (path_cmp x.path p)) None (get path_cmp c.enlist.new.index p)) (ap scope_of c.in-Err.ensures.err.0 ∙ r)) q
    ∙ ap (λ u. live_scope u q) (sym c.in-Err.ensures.err.1)
