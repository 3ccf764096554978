use Rattle.std.proofs.Common.{ℕ, List, sym, ap, ◌∙◌, subst}
use Rattle.std.specs.Prelude.{option_map}
use Rattle.std.proofs.lemmas.Result.{on_ok_weaker}
use Rattle.ng_dom.specs.Removal.{Taking}
use Rattle.ng_dom.specs.Kept.{rooms_of, room_kept}
use Rattle.ng_dom.proofs.Removing.{taking_pass, taking_step}
use Rattle.ng_dom.proofs.removal.take_one.Goals as goal

pub returns-in-None-clause-taken : goal.returns-in-None-clause-taken
returns-in-None-clause-taken c = λ names r was.
    let none = ap (option_map room_kept) (sym c.take.ensures.value ∙ c.in-None.is) in
    taking_pass names r (rooms_of c.args.nodes.now) (rooms_of c.take.new.nodes) c.args.n c.args.left.now.items was c.take.ensures.rooms none

pub returns-in-Some-clause-taken : goal.returns-in-Some-clause-taken
returns-in-Some-clause-taken c =
    on_ok_weaker c.push_held.result
    (λ told names r was.
    let here = ap (option_map room_kept) (sym c.take.ensures.value ∙ c.in-Some.is) in
    let P : List ℕ → Type 0 = λ ys. Taking names r (rooms_of c.take.new.nodes) ys in
    subst P (sym told)
    (taking_step names r (rooms_of c.args.nodes.now) (rooms_of c.take.new.nodes) c.args.n c.args.left.now.items was c.take.ensures.rooms (room_kept c.in-Some.node) here))
    c.push_held.ensures
