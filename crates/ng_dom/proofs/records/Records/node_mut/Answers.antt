use Rattle.std.proofs.Common.{refl, ap, sym, ◌∙◌, ℕ, subst, option_map}
use Rattle.ng_dom.specs.Records.{Runs, IsKept, run_set, row_at}
use Rattle.ng_dom.specs.declared.record.Record.{Record}
use Rattle.ng_dom.proofs.Runs.{place_run, run_set_is, kept_run_set, row_read}
use Rattle.ng_dom.proofs.records.Records.node_mut.Goals as goal

pub invariant_of-self-lent : goal.invariant_of-self-lent
invariant_of-self-lent c w =
    let rs = c.self.inside.runs.items in
    let g = place_run rs c.args.at.run c.args.at.row c.index_mut.result.now (rw c.self.view_is c.requires) c.index_mut.ensures.value in
    subst (IsKept c.self.inside.live) (run_set_is rs c.args.at.run c.args.at.row c.index_mut.result.now w g) (kept_run_set c.self.inside.live rs c.args.at.run c.args.at.row w c.self.invariant)

pub returns : goal.returns
returns c =
    let rs = c.self.inside.runs.items in
    let g = place_run rs c.args.at.run c.args.at.row c.index_mut.result.now (rw c.self.view_is c.requires) c.index_mut.ensures.value in (
      (refl, λ w. sym (run_set_is rs c.args.at.run c.args.at.row c.index_mut.result.now w g) ∙ ap (λ (ss : Runs). run_set ss c.args.at.run c.args.at.row w) c.self.view_is),
      record { writes_back = tt; value = ap (λ (ss : Runs). option_map (λ (e : ℕ × Record). e.1) (row_at ss c.args.at.run c.args.at.row)) (sym c.self.view_is) ∙ (ap (option_map (λ (e : ℕ × Record). e.1)) (row_read rs c.args.at.run c.args.at.row c.index_mut.result.now g) ∙ c.node_mut.ensures.value) },
    )
