use Rattle.std.proofs.Common.{rules, ◌≡◌, ◌∙◌, ℕ, Some, None, ap, sym, refl, length, false, is_some, slice_get, arith, nat_lt}
use Rattle.std.proofs.lemmas.Bool.Decides.{nat_tests}
use Rattle.std.proofs.lemmas.Option.{slice_get_read, slice_get_past}
use Rattle.std.proofs.lemmas.List.Sorted.{IsPartitionPoint-from_clause, IsPartitionedBy-ltb}
use Rattle.ng_dom.specs.Records.{Rows, name_in}
use Rattle.ng_dom.proofs.Rising.{absent, in_order}
use Rattle.ng_dom.proofs.records.search_runs.Goals as goal

pub returns-in_default-clause-none : goal.returns-in_default-clause-none
returns-in_default-clause-none c _ =
    let point = IsPartitionPoint-from_clause (λ (e : ℕ × Rows). nat_lt e.0 c.args.number) _ _ c.partition_point-at.ensures.partitioned (IsPartitionedBy-ltb (λ (e : ℕ × Rows). e.0) c.args.runs.now c.args.number (in_order c.args.runs.now c.requires)) (λ a r q h. search rules) in
    absent c.args.runs.now c.args.number c.partition_point-at.result c.requires point.0 point.1 (λ s.
    let h = c.in-Some.ensures.lookup in
    let g : slice_get c.args.runs.now c.partition_point-at.result ≡ Some c.in-Some.run'.now = slice_get_read c.args.runs.now (length c.args.runs.now) c.partition_point-at.result c.in-Some.run'.now refl h.3.0 h.1 in
    let two : Some c.in-Some.run'.now.0 ≡ Some c.args.number = sym (ap name_in g) ∙ s in
    let same : c.in-Some.run'.now.0 ≡ c.args.number = cc in
    c.if-number.false (c.number.ensures ∙ same))

pub returns-in_default-2-clause-none : goal.returns-in_default-2-clause-none
returns-in_default-2-clause-none c _ =
    let point = IsPartitionPoint-from_clause (λ (e : ℕ × Rows). nat_lt e.0 c.args.number) _ _ c.partition_point-at.ensures.partitioned (IsPartitionedBy-ltb (λ (e : ℕ × Rows). e.0) c.args.runs.now c.args.number (in_order c.args.runs.now c.requires)) (λ a r q h. search rules) in
    absent c.args.runs.now c.args.number c.partition_point-at.result c.requires point.0 point.1 (λ s.
    let h : nat_lt c.partition_point-at.result (length c.args.runs.now) ≡ false = sym c.get.ensures.lookup.0 ∙ ap is_some c.in_default.is in
    let g : slice_get c.args.runs.now c.partition_point-at.result ≡ None = slice_get_past c.args.runs.now c.partition_point-at.result (grind (arith, nat_tests)) in
    let two : None ≡ Some c.args.number = sym (ap name_in g) ∙ s in
    absurd (cc))
