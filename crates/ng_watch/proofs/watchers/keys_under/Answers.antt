use Rattle.std.proofs.Common.{◌≡◌, ◌++◌, ◌∷◌, [], suc, List, append-nil, ap, arith, length, refl, subst, sym, ◌∙◌}
use Rattle.std.specs.Prelude.{slice_get}
use Rattle.std.specs.List.{filter}
use Rattle.std.specs.Map.{keys_of}
use Rattle.ng_base.specs.declared.path.Key.{Key}
use Rattle.ng_watch.specs.Chunks.{Rows, after, NotBefore}
use Rattle.ng_behaviour.specs.Keys.{begins}
use Rattle.ng_watch.specs.declared.watched.Watched.{Watched}
use Rattle.ng_watch.proofs.Chunks.{after_row}
use Rattle.ng_watch.proofs.Under.{row_more, rows_over}
use Rattle.ng_watch.proofs.watchers.keys_under.Goals as goal

pub loop-row-init : goal.loop-row-init
loop-row-init c = record {
  found = ap keys_of c.edge_under-at.ensures.apart ∙ ap (λ (ks : List Key). ks ++ keys_of (filter (λ (e : Key × Watched). begins c.args.p.now e.0.path) (after c.args.chunks.now c.edge_under-at.result.chunk c.edge_under-at.result.row))) (sym c.new-keys.ensures.items);
  behind = c.edge_under-at.ensures.behind;
  row = c.edge_under-at.ensures.row;
}

pub loop-row-preserved : goal.loop-row-preserved
loop-row-preserved c =
    let cs = c.args.chunks.now in
    let i = c.loop-row.at.chunk in
    let j = c.loop-row.at.row in
    let e : Key × Watched = c.in-Some.row.now in
    let rest : after cs c.step-at.result.chunk c.step-at.result.row ≡ after cs i (suc j) = c.step-at.ensures.rest in
    record {
      found = row_more c.args.p.now cs i j c.loop-row.keys.items c.push.new.self.items e c.in-Some.ensures.there.0 c.in-Some.ensures.there.1 c.loop-row.invariant.found (c.in_ok-push.ensures.items ∙ ap (λ (k : Key). c.loop-row.keys.items ++ k ∷ []) c.in_ok-copied.ensures) ∙ ap (λ (es : Rows). c.push.new.self.items ++ keys_of (filter (λ (e : Key × Watched). begins c.args.p.now e.0.path) es)) (sym rest);
      behind = subst (NotBefore c.args.p.now) (sym rest) (subst (NotBefore c.args.p.now) (after_row cs i j e c.in-Some.ensures.there.0) c.loop-row.invariant.behind).1;
      row = ap (λ (es : Rows). slice_get es 0) rest ∙ sym c.step-at.ensures.row;
    }

pub loop-row-smaller : goal.loop-row-smaller
loop-row-smaller c =
    let cs = c.args.chunks.now in
    let now = ap (length {A = Key × Watched}) (after_row cs c.loop-row.at.chunk c.loop-row.at.row c.in-Some.row.now c.in-Some.ensures.there.0) in
    let next = ap (length {A = Key × Watched}) c.step-at.ensures.rest in
    omega (arith, now, next)

pub returns : goal.returns
returns c =
    let over = rows_over c.args.p.now c.args.chunks.now c.loop-row.at.chunk c.loop-row.at.row c.requires c.loop-row.invariant.behind c.loop-row.invariant.row (c.in_default.ensures.none refl) in
    sym (c.loop-row.invariant.found ∙ ap (λ (es : Rows). c.loop-row.keys.items ++ keys_of es) over ∙ append-nil c.loop-row.keys.items)
