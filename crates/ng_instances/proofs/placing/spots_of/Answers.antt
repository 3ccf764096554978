use Rattle.std.proofs.Common.{◌≡◌, ◌∷◌, ◌+◌, List, ℕ, ap, drop, drop-cons, add-one, get_or, refl, sym, ◌∙◌}
use Rattle.ng_instances.specs.Rows.{spots_by}
use Rattle.ng_instances.proofs.Rows.{spots_end}
use Rattle.ng_instances.proofs.placing.spots_of.Goals as goal

pub returns-in-None-clause-spots : goal.returns-in-None-clause-spots
returns-in-None-clause-spots c =
    sym (spots_end (drop c.loop-serial.serial-index c.args.serials.now) c.loop-serial.left.now c.loop-serial.spots.entries c.in-None.ensures.cases) ∙ c.loop-serial.invariant

pub loop-serial-preserved : goal.loop-serial-preserved
loop-serial-preserved c =
    let ss = c.args.serials.now in
    let i = c.loop-serial.serial-index in
    let m = c.loop-serial.spots.entries in
    let rest = c.in-Some.others.now in
    let cut : drop i ss ≡ get_or ss i 0 ∷ drop (i + 1) ss = let lt = c.loop-serial-test.true in rw (add-one, drop-cons ss i 0 lt) refl in
    let first : c.loop-serial.left.now ≡ c.in-Some.n.now ∷ rest = c.in-Some.ensures.cases.0 in
    ap (spots_by (drop (i + 1) ss) rest) c.in_ok-insert-in-Some.ensures.entries
    ∙ (sym (ap (λ (ns : List ℕ). spots_by ns c.loop-serial.left.now m) cut ∙ ap (λ (ns : List ℕ). spots_by (get_or ss i 0 ∷ drop (i + 1) ss) ns m) first) ∙ c.loop-serial.invariant)
