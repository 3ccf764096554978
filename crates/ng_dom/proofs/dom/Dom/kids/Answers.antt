use Rattle.std.proofs.Common.{None, ap, sym, ◌∙◌}
use Rattle.ng_dom.specs.Asked.{kids_in}
use Rattle.ng_dom.specs.Document.{rooms}
use Rattle.ng_dom.specs.Printed.{level, inner, seek}
use Rattle.ng_dom.specs.Walks.{read, read_all}
use Rattle.ng_dom.proofs.Standing.{top_level, inner_level}
use Rattle.ng_dom.proofs.dom.Dom.kids.Goals as goal

pub returns-in-None : goal.returns-in-None
returns-in-None c =
    let d = c.args.self.now in
    rw c.in-None.is
    (λ f shown. c.passed.ensures (level f)
    (c.seek_all.ensures ∙ ap (seek None 4294967295) (top_level d.nodes d.next d.fresh c.as_slice.result.now f (c.as_slice.ensures.value ∙ shown.0) shown.1)))

pub returns-in-Some : goal.returns-in-Some
returns-in-Some c =
    let d = c.args.self.now in
    rw c.in-Some.is
    (λ x e h. c.passed-in-Some.ensures (level (inner x))
    (c.seek_kids.ensures
    ∙ (ap (λ n. seek None 4294967295 (level (read_all (read d.next (rooms d)) (kids_in (rooms d n))))) (sym e)
    ∙ ap (seek None 4294967295) (inner_level d.nodes d.next d.fresh x h))))
