use Rattle.std.proofs.Common.{ap, sym, ◌∙◌, ◌≡◌, ℕ, [], true, false, length, slice_set, option_map}
use Rattle.std.specs.List.{remove}
use Rattle.std.proofs.lemmas.Bool.{eqb-true, eq-eqb}
use Rattle.std.proofs.lemmas.List.{get_or-set_same, nil_from_length}
use Rattle.ng_dom.specs.Records.{Rows}
use Rattle.ng_dom.specs.declared.record.Record.{Record}
use Rattle.ng_dom.proofs.Runs.{place_run, run_within, row_read, gone_in, gone_with}
use Rattle.ng_dom.proofs.records.take_row.Goals as goal

pub returns-then-is_empty-clause-left : goal.returns-then-is_empty-clause-left
returns-then-is_empty-clause-left c =
    let rs = c.args.runs.now.items in
    let i = c.args.at.run in
    let r = c.index_mut.result.now in
    let g = place_run rs i c.args.at.row r c.requires c.index_mut.ensures.value in
    let read : c.index.result.now ≡ c.remove-node.new.self = c.index.ensures ∙ get_or-set_same rs i c.remove-node.new.self c.index.result.now (run_within rs i c.args.at.row c.requires) in
    let rows : c.rows.result.now ≡ remove r.1 c.args.at.row = c.rows.ensures ∙ ap (λ (t : ℕ × Rows). t.1) (read ∙ c.remove-node.ensures.left) in
    let none : c.rows.result.now ≡ [] = nil_from_length c.rows.result.now (eqb-true (length c.rows.result.now) 0 (sym c.is_empty.ensures ∙ c.if-is_empty.true)) in
    c.remove.ensures.items ∙ gone_with rs i c.args.at.row r c.remove-node.new.self g (sym rows ∙ none)

pub returns-else-is_empty-clause-node : goal.returns-else-is_empty-clause-node
returns-else-is_empty-clause-node c =
    let g = place_run c.args.runs.now.items c.args.at.run c.args.at.row c.index_mut.result.now c.requires c.index_mut.ensures.value in
    ap (option_map (λ (e : ℕ × Record). e.1)) (row_read c.args.runs.now.items c.args.at.run c.args.at.row c.index_mut.result.now g) ∙ c.remove-node.ensures.node

pub returns-else-is_empty-clause-left : goal.returns-else-is_empty-clause-left
returns-else-is_empty-clause-left c =
    let rs = c.args.runs.now.items in
    let i = c.args.at.run in
    let r = c.index_mut.result.now in
    let g = place_run rs i c.args.at.row r c.requires c.index_mut.ensures.value in
    let read : c.index.result.now ≡ c.remove-node.new.self = c.index.ensures ∙ get_or-set_same rs i c.remove-node.new.self c.index.result.now (run_within rs i c.args.at.row c.requires) in
    let rows : c.rows.result.now ≡ remove r.1 c.args.at.row = c.rows.ensures ∙ ap (λ (t : ℕ × Rows). t.1) (read ∙ c.remove-node.ensures.left) in
    let some : c.rows.result.now ≡ [] → ⊥ = λ e. absurd (let two : true ≡ false = sym (eq-eqb (length c.rows.result.now) 0 (ap (length {A = ℕ × Record}) e)) ∙ (sym c.is_empty.ensures ∙ c.if-is_empty.false) in cc) in
    ap (slice_set rs i) c.remove-node.ensures.left ∙ gone_in rs i c.args.at.row r g (λ e. some (rows ∙ e))
