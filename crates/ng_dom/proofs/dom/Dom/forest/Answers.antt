use Rattle.std.proofs.Common.{◌∙◌}
use Rattle.ng_dom.proofs.Telling.{told_document}
use Rattle.ng_dom.proofs.dom.Dom.forest.Goals as goal

pub returns-clause-read : goal.returns-clause-read
returns-clause-read c = λ f shown.
    let d = c.args.self.now in
    told_document d.nodes d.next c.as_slice.result.now _ _ f d.fresh c.new-forest.ensures (c.as_slice.ensures.value ∙ shown.0) shown.1 c.in_ok-add_all.ensures
