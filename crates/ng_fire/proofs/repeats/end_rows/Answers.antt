use Rattle.std.proofs.Common.{◌≡◌, ◌∙◌, ◌+◌, ℕ, List, ◌++◌, ap, drop, get_or, map, slice_get, sym, arith}
use Rattle.std.proofs.lemmas.List.{drop_more}
use Rattle.ng_fire.proofs.RowsTaken.{ended_more}
use Rattle.ng_fire.specs.FireOf.{firing}
use Rattle.ng_fire.specs.Repeats.{all_ended, bodies_at, body_at}
use Rattle.ng_instances.specs.Instances.{Body}
use Rattle.ng_instances.specs.InstanceOf.{body_of}
use Rattle.ng_fire.proofs.repeats.end_rows.Goals as goal

pub loop-i-preserved : goal.loop-i-preserved
loop-i-preserved c =
    let l = c.loop-i in
    let gone = c.args.gone.now in
    let bs : List Body = map body_of c.args.bodies.now in
    let i : ℕ = get_or gone l.i-index 0 in
    let here : List Body = body_at (slice_get bs i) in
    let rest : List Body = bodies_at bs (drop (l.i-index + 1) gone) in
    let e : bodies_at bs (drop l.i-index gone) ≡ here ++ rest = ap (bodies_at bs) (drop_more gone l.i-index 0 c.loop-i-test.true) in
    let done = c.in_ok-end_row.ensures in
    record {
      fired = ap (all_ended rest) done.fired ∙ (sym (ended_more here rest (firing l.works l.told)) ∙ (sym (ap (λ (xs : List Body). all_ended xs (firing l.works l.told)) e) ∙ l.invariant.fired));
      instances = done.instances ∙ l.invariant.instances;
      grown = (let one = done.grown in let all = l.invariant.grown in omega (arith, one, all));
      whole = done.whole;
      templates = c.end_row.ensures.templates ∙ l.invariant.templates;
    }
