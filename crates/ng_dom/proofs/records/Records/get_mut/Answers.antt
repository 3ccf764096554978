use Rattle.std.proofs.Common.{ap, sym, subst, inl, ◌∙◌, ◌≡◌, Some}
use Rattle.std.proofs.Math.Path.{fun_ext}
use Rattle.ng_dom.specs.Records.{Runs, IsKept, name_in, row_at}
use Rattle.ng_dom.specs.declared.record.Record.{Record}
use Rattle.ng_dom.proofs.Runs.{node_found, node_set_is}
use Rattle.ng_dom.proofs.records.Records.get_mut.Goals as goal

pub returns-in-Some : goal.returns-in-Some
returns-in-Some c =
    let rs = c.args.self.now in
    let i = c.in-Some.at.run in
    let j = c.in-Some.at.row in
    let kept : IsKept c.self.inside.live rs = subst (IsKept c.self.inside.live) c.self.view_is c.self.invariant in
    let there : name_in (row_at rs i j) ≡ Some c.args.n = subst (λ (ss : Runs). name_in (row_at ss i j) ≡ Some c.args.n) (c.deref.ensures.value ∙ c.self.view_is) c.in-Some.ensures.there in (
      ap (λ (f : Record → Runs). inl (c.node_mut.result.ghost_name, f)) (fun_ext (λ w. node_set_is rs i j c.args.n w kept.rises kept.runs there)),
      record { writes_back = tt; value = sym c.node_mut.ensures.value ∙ sym (node_found rs i j c.args.n kept.rises kept.runs there) },
    )
