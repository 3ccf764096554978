use Rattle.std.proofs.Common.{ap, sym, subst, ◌∙◌, ◌≡◌, ℕ, Some, option_map}
use Rattle.ng_dom.specs.Records.{Runs, node_at, name_in, row_at}
use Rattle.ng_dom.specs.declared.record.Record.{Record}
use Rattle.ng_dom.proofs.Runs.{node_found}
use Rattle.ng_dom.proofs.records.Records.get.Goals as goal

pub returns-in-Some : goal.returns-in-Some
returns-in-Some c =
    let rs = c.self.inside.runs.items in
    let i = c.in-Some.at.run in
    let j = c.in-Some.at.row in
    let there : name_in (row_at rs i j) ≡ Some c.args.n = subst (λ (ss : Runs). name_in (row_at ss i j) ≡ Some c.args.n) c.deref.ensures.value c.in-Some.ensures.there in
    sym c.node_of.ensures ∙ (ap (λ (ss : Runs). option_map (λ (e : ℕ × Record). e.1) (row_at ss i j)) c.deref-in-Some.ensures.value
    ∙ (sym (node_found rs i j c.args.n c.self.invariant.rises c.self.invariant.runs there) ∙ ap (λ (ss : Runs). node_at ss c.args.n) c.self.view_is))
