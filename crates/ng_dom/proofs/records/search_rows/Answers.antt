use Rattle.std.proofs.Common.{rules, ◌≡◌, ◌∙◌, ℕ, Some, None, ap, sym, refl, length, false, is_some, slice_get, arith, nat_lt}
use Rattle.std.proofs.lemmas.Bool.Decides.{nat_tests}
use Rattle.std.proofs.lemmas.Option.{slice_get_read, slice_get_past}
use Rattle.std.proofs.lemmas.List.Sorted.{IsPartitionPoint-from_clause, IsPartitionedBy-ltb}
use Rattle.ng_dom.specs.declared.record.Record.{Record}
use Rattle.ng_dom.specs.Records.{name_in}
use Rattle.ng_dom.proofs.Rising.{absent, in_order}
use Rattle.ng_dom.proofs.records.search_rows.Goals as goal

pub returns-in_default-clause-none : goal.returns-in_default-clause-none
returns-in_default-clause-none c _ =
    let point = IsPartitionPoint-from_clause (λ (e : ℕ × Record). nat_lt e.0 c.args.n) _ _ c.partition_point-at.ensures.partitioned (IsPartitionedBy-ltb (λ (e : ℕ × Record). e.0) c.args.rows.now c.args.n (in_order c.args.rows.now c.requires)) (λ a r q h. search rules) in
    absent c.args.rows.now c.args.n c.partition_point-at.result c.requires point.0 point.1 (λ s.
    let h = c.in-Some.ensures.lookup in
    let g : slice_get c.args.rows.now c.partition_point-at.result ≡ Some c.in-Some.row.now = slice_get_read c.args.rows.now (length c.args.rows.now) c.partition_point-at.result c.in-Some.row.now refl h.3.0 h.1 in
    let two : Some c.in-Some.row.now.0 ≡ Some c.args.n = sym (ap name_in g) ∙ s in
    c.if-row-n.false (cc))

pub returns-in_default-2-clause-none : goal.returns-in_default-2-clause-none
returns-in_default-2-clause-none c _ =
    let point = IsPartitionPoint-from_clause (λ (e : ℕ × Record). nat_lt e.0 c.args.n) _ _ c.partition_point-at.ensures.partitioned (IsPartitionedBy-ltb (λ (e : ℕ × Record). e.0) c.args.rows.now c.args.n (in_order c.args.rows.now c.requires)) (λ a r q h. search rules) in
    absent c.args.rows.now c.args.n c.partition_point-at.result c.requires point.0 point.1 (λ s.
    let h : nat_lt c.partition_point-at.result (length c.args.rows.now) ≡ false = sym c.get.ensures.lookup.0 ∙ ap is_some c.in_default.is in
    let g : slice_get c.args.rows.now c.partition_point-at.result ≡ None = slice_get_past c.args.rows.now c.partition_point-at.result (grind (arith, nat_tests)) in
    let two : None ≡ Some c.args.n = sym (ap name_in g) ∙ s in
    absurd (cc))
