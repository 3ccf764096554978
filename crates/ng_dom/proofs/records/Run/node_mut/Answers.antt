use Rattle.std.proofs.Common.{refl, ap, sym, subst, ◌∙◌, ◌≡◌, ◌<◌, ℕ, Some, length, option_map, slice_get, slice_set}
use Rattle.std.proofs.lemmas.Option.{slice_get_read}
use Rattle.ng_dom.specs.Records.{Rows, row_set}
use Rattle.ng_dom.specs.declared.record.Record.{Record}
use Rattle.ng_dom.proofs.Rising.{row_written}
use Rattle.ng_dom.proofs.records.Run.node_mut.Goals as goal

pub returns : goal.returns
returns c =
    let k = c.self.inside.number in
    let es = c.self.inside.rows.items in
    let e = c.index_mut.result.now in
    let rows : es ≡ c.args.self.now.1 = ap (λ (t : ℕ × Rows). t.1) c.self.view_is in
    let within : c.args.row < length es = subst (λ (fs : Rows). c.args.row < length fs) (sym rows) c.requires in
    let read : slice_get es c.args.row ≡ Some e = slice_get_read es (length es) c.args.row e refl within c.index_mut.ensures.value in
    let whole : (w : Record) → (k, row_set es c.args.row w) ≡ (c.args.self.now.0, row_set c.args.self.now.1 c.args.row w) = λ w. ap (λ (t : ℕ × Rows). (t.0, row_set t.1 c.args.row w)) c.self.view_is in
    let lent : (w : Record) → (k, slice_set es c.args.row (e.0, w)) ≡ (k, row_set es c.args.row w) = λ w. ap (λ (fs : Rows). (k, fs)) (row_written es c.args.row e w c.index_mut.ensures.value) in (
      (refl, λ w. lent w ∙ whole w),
      record { writes_back = tt; value = ap (λ (fs : Rows). option_map (λ (x : ℕ × Record). x.1) (slice_get fs c.args.row)) (sym rows) ∙ ap (option_map (λ (x : ℕ × Record). x.1)) read },
    )
