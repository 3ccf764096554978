use Rattle.std.proofs.Common.{rules, ◌≡◌, true, false, sym, subst, take, drop, ◌∙◌}
use Rattle.std.proofs.lemmas.List.Sorted.{IsPartitionPoint-from_clause}
use Rattle.ng_base.specs.declared.path.Key.{Key}
use Rattle.ng_watch.specs.Chunks.{Rows, AllBelow, NoneBelow, is_below}
use Rattle.ng_watch.specs.declared.watched.Watched.{Watched}
use Rattle.ng_watch.proofs.Rows.{Sorted, parted, all_taken, all_left}
use Rattle.ng_watch.proofs.chunk.Chunk.below.Goals as goal

pub returns-clause-lower : goal.returns-clause-lower
returns-clause-lower c =
    let k : Key = record { path = c.args.path.now; serial = c.args.serial } in
    let same : c.deref.result.now ≡ c.args.self.now = c.deref.ensures.value ∙ c.self.view_is in
    let point = IsPartitionPoint-from_clause (λ (e : Key × Watched). is_below k e) _ _ c.partition_point.ensures.partitioned (parted k c.deref.result.now (subst Sorted (sym same) c.requires)) (λ a r q h. search rules) in
    subst (λ (es : Rows). AllBelow k (take c.partition_point.result es)) same (all_taken (λ (e : Key × Watched). is_below k e ≡ true) c.deref.result.now c.partition_point.result c.partition_point.ensures.bound point.0)

pub returns-clause-upper : goal.returns-clause-upper
returns-clause-upper c =
    let k : Key = record { path = c.args.path.now; serial = c.args.serial } in
    let same : c.deref.result.now ≡ c.args.self.now = c.deref.ensures.value ∙ c.self.view_is in
    let point = IsPartitionPoint-from_clause (λ (e : Key × Watched). is_below k e) _ _ c.partition_point.ensures.partitioned (parted k c.deref.result.now (subst Sorted (sym same) c.requires)) (λ a r q h. search rules) in
    subst (λ (es : Rows). NoneBelow k (drop c.partition_point.result es)) same (all_left (λ (e : Key × Watched). is_below k e ≡ false) c.deref.result.now c.partition_point.result point.1)
