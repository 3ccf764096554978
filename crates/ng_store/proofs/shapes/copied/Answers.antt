use Rattle.std.proofs.Common.{◌≡◌, ◌∙◌, ◌+◌, ℕ, List, [], ◌∷◌, sym, ap, bytes_eq, drop, arith}
use Rattle.indexmap.specs.IndexSet.{insert_all, insert_key}
use Rattle.ng_store.proofs.NamePlaces.{inserted_all, next_name, none_left}
use Rattle.ng_store.proofs.shapes.copied.Goals as goal

pub loop-name-preserved : goal.loop-name-preserved
loop-name-preserved c =
    let items = c.as_slice-name-items.result.now in
    let i = c.loop-name.name-index in
    let n = c.name-item.result in
    let new = c.in_ok-insert.ensures.keys ∙ ap (insert_key bytes_eq c.loop-name.all.keys) c.in_ok-copied.ensures in
    ap (λ (ks : List (List ℕ)). insert_all bytes_eq ks (drop (i + 1) items)) new
    ∙ (ap (insert_all bytes_eq c.loop-name.all.keys) (sym (next_name items i n (omega (arith, c.loop-name-test.true)) c.name-item.is))
    ∙ c.loop-name.invariant)

pub returns-clause-names : goal.returns-clause-names
returns-clause-names c =
    let items = c.as_slice-name-items.result.now in
    let all = c.loop-name.all.keys in
    let left : drop c.loop-name.name-index items ≡ [] = none_left items c.loop-name.name-index (omega (arith, c.loop-name-test.false, c.loop-name.auto.name-index-end)) in
    ap (insert_all bytes_eq all) (sym left)
    ∙ (c.loop-name.invariant
    ∙ (ap (insert_all bytes_eq []) c.as_slice-name-items.ensures.keys ∙ inserted_all [] c.args.names.now.keys c.as_slice-name-items.ensures.unique))
