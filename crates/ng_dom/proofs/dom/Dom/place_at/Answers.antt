use Rattle.std.proofs.Common.{refl, ap, ◌∙◌, None}
use Rattle.ng_dom.specs.Printed.{followed}
use Rattle.ng_dom.specs.Document.{child_in}
use Rattle.ng_dom.proofs.Standing.{followed_place}
use Rattle.ng_dom.proofs.dom.Dom.place_at.Goals as goal

pub returns : goal.returns
returns c = λ f shown.
    let d = c.args.self.now in
    c.follow.ensures ∙ (ap (followed (child_in d) None) c.as_slice.ensures ∙ followed_place d.nodes d.next d.fresh (child_in d) (λ n i. refl) d.top.items f shown.0 shown.1 (λ i. refl) c.args.p.now)
