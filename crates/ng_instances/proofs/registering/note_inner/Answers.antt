use Rattle.std.proofs.Common.{◌+◌, ℕ, List, ap, sym, ◌∙◌, drop, map}
use Rattle.std.specs.BTreeMap.{insert_entry}
use Rattle.ng_base.specs.Order.{path_cmp}
use Rattle.ng_instances.specs.BoundOf.{inner_of}
use Rattle.ng_instances.specs.Instances.{Inner, Inners, with_inner}
use Rattle.ng_build.proofs.Loops.{next_seen}
use Rattle.ng_instances.proofs.registering.note_inner.Goals as goal

pub loop-one-preserved : goal.loop-one-preserved
loop-one-preserved c =
    let p : List ℕ = c.args.path.now in
    let xs = c.args.inner.now in
    let i = c.loop-one.one-index in
    let x = c.one-item.result in
    let t : Inners = c.loop-one.table.entries in
    let rest : List Inner = map inner_of (drop (i + 1) xs) in
    ap (with_inner p rest) (c.in_ok-insert.ensures.entries ∙ (ap (λ (q : List ℕ). insert_entry path_cmp t q c.in_ok-copied-2.field-0) c.in_ok-copied.ensures ∙ ap (insert_entry path_cmp t x.path) c.in_ok-copied-2.ensures))
    ∙ (sym (ap (λ (is : List Inner). with_inner p is t) (next_seen inner_of xs i x c.loop-one-test.true c.one-item.is)) ∙ c.loop-one.invariant)
