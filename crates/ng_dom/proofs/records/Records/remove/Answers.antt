use Rattle.std.proofs.Common.{ap, sym, subst, ◌∙◌, ◌≡◌, ◌+◌, ◌-◌, ◌==◌, None, Some, cond, arith}
use Rattle.ng_dom.specs.Records.{Runs, IsKept, live_in, node_at, name_in, row_at}
use Rattle.ng_dom.proofs.Runs.{row_by, node_found, node_at-gone, kept_gone, live_gone}
use Rattle.ng_dom.proofs.records.Records.remove.Goals as goal

pub overflow_sub-self : goal.overflow_sub-self
overflow_sub-self c =
    let rs = c.self.inside.runs.items in
    let i = c.in-Some.at.run in
    let j = c.in-Some.at.row in
    let there : name_in (row_at rs i j) ≡ Some c.args.n = subst (λ (ss : Runs). name_in (row_at ss i j) ≡ Some c.args.n) c.deref.ensures.value c.in-Some.ensures.there in
    let e = row_by (row_at rs i j) c.args.n there in
    omega (arith, live_gone rs i j e.0 e.1, c.self.invariant.counted)

pub invariant_of-self : goal.invariant_of-self
invariant_of-self c =
    let rs = c.self.inside.runs.items in
    let i = c.in-Some.at.run in
    let j = c.in-Some.at.row in
    let there : name_in (row_at rs i j) ≡ Some c.args.n = subst (λ (ss : Runs). name_in (row_at ss i j) ≡ Some c.args.n) c.deref.ensures.value c.in-Some.ensures.there in
    let e = row_by (row_at rs i j) c.args.n there in
    subst (IsKept (c.self.inside.live - 1)) (sym c.take_row.ensures.left) (kept_gone c.self.inside.live rs i j e.0 c.self.invariant e.1)

pub returns-in-Some-clause-value : goal.returns-in-Some-clause-value
returns-in-Some-clause-value c =
    let rs = c.self.inside.runs.items in
    let i = c.in-Some.at.run in
    let j = c.in-Some.at.row in
    let there : name_in (row_at rs i j) ≡ Some c.args.n = subst (λ (ss : Runs). name_in (row_at ss i j) ≡ Some c.args.n) c.deref.ensures.value c.in-Some.ensures.there in
    sym c.take_row.ensures.node ∙ (sym (node_found rs i j c.args.n c.self.invariant.rises c.self.invariant.runs there) ∙ ap (λ (ss : Runs). node_at ss c.args.n) c.self.view_is)

pub returns-in-Some-clause-others : goal.returns-in-Some-clause-others
returns-in-Some-clause-others c q =
    let rs = c.self.inside.runs.items in
    let i = c.in-Some.at.run in
    let j = c.in-Some.at.row in
    let there : name_in (row_at rs i j) ≡ Some c.args.n = subst (λ (ss : Runs). name_in (row_at ss i j) ≡ Some c.args.n) c.deref.ensures.value c.in-Some.ensures.there in
    ap (λ (ss : Runs). node_at ss q) c.take_row.ensures.left
    ∙ (node_at-gone rs i j c.args.n q c.self.invariant.rises c.self.invariant.runs there ∙ ap (λ (ss : Runs). cond (q == c.args.n) None (node_at ss q)) c.self.view_is)

pub returns-in-Some-clause-live : goal.returns-in-Some-clause-live
returns-in-Some-clause-live c =
    let rs = c.self.inside.runs.items in
    let i = c.in-Some.at.run in
    let j = c.in-Some.at.row in
    let there : name_in (row_at rs i j) ≡ Some c.args.n = subst (λ (ss : Runs). name_in (row_at ss i j) ≡ Some c.args.n) c.deref.ensures.value c.in-Some.ensures.there in
    let e = row_by (row_at rs i j) c.args.n there in
    ap (λ (ss : Runs). live_in ss + 1) c.take_row.ensures.left ∙ (live_gone rs i j e.0 e.1 ∙ ap live_in c.self.view_is)
