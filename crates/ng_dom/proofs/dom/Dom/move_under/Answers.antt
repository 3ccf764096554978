use Rattle.std.proofs.Common.{refl}
use Rattle.std.proofs.lemmas.Result.{on_ok_weaker}
use Rattle.ng_dom.specs.Document.{rooms}
use Rattle.ng_dom.proofs.Moving.{kid_moved, top_moved, reads_moved}
use Rattle.ng_dom.proofs.dom.Dom.move_under.Goals as goal

pub returns-in-None-clause-moved : goal.returns-in-None-clause-moved
returns-in-None-clause-moved c =
    let d = c.args.self.now in
    rw c.in-None.is
    (on_ok_weaker c.move_name.result
    (λ told. (λ q. refl, λ f h. (top_moved c.args.i c.args.n _ _ f h.0 told, reads_moved (rooms d) c.args.i c.args.n _ f h.1)))
    c.move_name.ensures)

pub returns-in-Some-clause-moved : goal.returns-in-Some-clause-moved
returns-in-Some-clause-moved c =
    let d = c.args.self.now in
    rw c.in-Some.is
    (on_ok_weaker c.move_kid.result
    (λ told. (kid_moved (rooms d) _ c.in-Some.p c.args.i c.args.n told, refl))
    c.move_kid.ensures.rooms)
