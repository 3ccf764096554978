use Rattle.std.proofs.Common.{ap, ◌∙◌}
use Rattle.ng_dom.specs.Asked.{first_with_id}
use Rattle.ng_dom.proofs.WithId.{read_document}
use Rattle.ng_dom.proofs.dom.Dom.find.Goals as goal

pub returns : goal.returns
returns c = λ f shown.
    let d = c.args.self.now in
    c.find_all.ensures ∙ ap (first_with_id c.args.id.now) (read_document d.nodes d.next c.as_slice.result.now f d.fresh (c.as_slice.ensures.value ∙ shown.0) shown.1)
