use Rattle.std.proofs.Common.{◌≡◌, ◌∙◌, ◌+◌, ◌-◌, List, ℕ, ap, drop, get_or, length, map, subst, sym, arith, ◌∷◌, ◌++◌, slice_get}
use Rattle.std.proofs.lemmas.List.{drop_more}
use Rattle.ng_fire.proofs.RowsStay.{rest_more}
use Rattle.ng_fire.proofs.RowsTaken.{gone_more, keeps_then, stands_still, taken_more}
use Rattle.ng_fire.specs.Repeats.{bodies_at, body_at, rows_taken}
use Rattle.ng_fire.specs.RowsKnown.{HaveGone}
use Rattle.ng_fire.specs.Serving.{RestStays}
use Rattle.ng_instances.specs.Instances.{Body}
use Rattle.ng_instances.specs.InstanceOf.{body_of}
use Rattle.ng_link.specs.State.{state_of}
use Rattle.ng_fire.proofs.repeats.take_rows.Goals as goal

pub take_row-requires-clause-row : goal.take_row-requires-clause-row
take_row-requires-clause-row c =
    let l = c.loop-k in
    let gone = c.args.gone.now in
    let bs : List Body = map body_of c.args.bodies.now in
    let lt = c.loop-k-test.true in
    let j : ℕ = length gone - 1 - l.k in
    let last : j + 1 ≡ length gone - l.k = omega (arith, lt) in
    let i : ℕ = get_or gone j 0 in
    let e : drop j gone ≡ i ∷ drop (j + 1) gone = drop_more gone j 0 (omega (arith, lt)) in
    let left = subst (λ (n : ℕ). HaveGone c.args.spot.now.holder.now c.args.spot.now.outlet (bodies_at bs (drop n gone)) (state_of c.args.works.now).instances (state_of l.works).instances) (sym last) l.invariant.gone in
    stands_still c.args.spot.now.holder.now c.args.spot.now.outlet bs gone j i (state_of c.args.works.now).instances (state_of l.works).instances c.requires.rows e left

pub loop-k-preserved : goal.loop-k-preserved
loop-k-preserved c =
    let l = c.loop-k in
    let w = c.take_row.new.works in
    let gone = c.args.gone.now in
    let bs : List Body = map body_of c.args.bodies.now in
    let holder : List ℕ = c.args.spot.now.holder.now in
    let o : ℕ = c.args.spot.now.outlet in
    let old = c.args.works.now in
    let lt = c.loop-k-test.true in
    let j : ℕ = length gone - 1 - l.k in
    let i : ℕ = get_or gone j 0 in
    let last : j + 1 ≡ length gone - l.k = omega (arith, lt) in
    let next : j ≡ length gone - (l.k + 1) = omega (arith, lt) in
    let e : drop (length gone - (l.k + 1)) gone ≡ i ∷ drop (length gone - l.k) gone =
    ap (λ (n : ℕ). drop n gone) (sym next) ∙ (drop_more gone j 0 (omega (arith, lt)) ∙ ap (λ (n : ℕ). i ∷ drop n gone) last) in
    let rest : List Body = bodies_at bs (drop (length gone - l.k) gone) in
    let more : bodies_at bs (drop (length gone - (l.k + 1)) gone) ≡ body_at (slice_get bs i) ++ rest = ap (bodies_at bs) e in
    let done = c.in_ok-take_row.ensures in
    record {
      state = done.state ∙ (ap (rows_taken holder (body_at (slice_get bs i))) l.invariant.state ∙ (sym (taken_more holder (body_at (slice_get bs i)) rest (state_of old)) ∙ ap (λ (xs : List Body). rows_taken holder xs (state_of old)) (sym more)));
      gone = subst (λ (xs : List Body). HaveGone holder o xs (state_of old).instances (state_of w).instances) (sym more) (gone_more holder o (body_at (slice_get bs i)) rest (state_of old).instances (state_of l.works).instances (state_of w).instances l.invariant.gone done.gone);
      keeps = keeps_then holder (state_of old).instances (state_of l.works).instances (state_of w).instances l.invariant.keeps done.keeps;
      rest = subst (λ (xs : List Body). RestStays holder xs (state_of old).instances (state_of w).instances) (sym more) (rest_more holder (body_at (slice_get bs i)) rest (state_of old).instances (state_of l.works).instances (state_of w).instances l.invariant.rest done.rest);
      core = c.take_row.ensures.core ∙ l.invariant.core;
      whole = done.whole;
      templates = c.take_row.ensures.templates ∙ l.invariant.templates;
    }
