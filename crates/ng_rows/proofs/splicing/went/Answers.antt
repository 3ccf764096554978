use Rattle.std.proofs.Common.{◌≡◌, ◌∙◌, ◌-◌, ◌+◌, ◌++◌, ◌≤◌, ℕ, List, ap, subst, sym, drop, length, take, arith}
use Rattle.ng_blocks.specs.declared.keys.TrackKey.{TrackKey}
use Rattle.ng_rows.specs.Splices.{places_on, sources_on}
use Rattle.ng_rows.proofs.RowKeys.{count, row_keys}
use Rattle.ng_rows.proofs.Spliced.{went}
use Rattle.ng_rows.proofs.splicing.went.Goals as goal

pub same_front-first-requires-clause-bodies : goal.same_front-first-requires-clause-bodies
same_front-first-requires-clause-bodies c = subst (λ (l : List TrackKey). length l ≤ length c.args.bodies.now) (sym c.as_slice-entries.ensures) c.requires

pub is_end-requires-clause-bodies : goal.is_end-requires-clause-bodies
is_end-requires-clause-bodies c =
    let entries = ap (λ (l : List TrackKey). length l) c.as_slice-entries.ensures in
    omega (arith, entries, c.requires)

pub returns : goal.returns
returns c =
    let bodies = c.args.bodies.now in
    let old = row_keys bodies in
    let new = c.args.keys.now in
    let rows = length bodies in
    let front = c.same_front-first.result in
    let as_many = count bodies in
    let within : front ≤ length new = subst (λ (l : List TrackKey). front ≤ length l) c.as_slice-entries.ensures c.same_front-first.ensures.within in
    let fits : length new ≤ length old = omega (arith, as_many, c.requires) in
    let same : take front old ≡ take front new = c.same_front-first.ensures.same ∙ ap (λ (l : List TrackKey). take front l) c.as_slice-entries.ensures in
    let last : drop (rows - (length new - front)) old ≡ drop (length new - (length new - front)) new =
    subst (λ (l : List TrackKey). drop (rows - (length l - front)) old ≡ drop (length l - (length l - front)) l) c.as_slice-entries.ensures (c.is_end.ensures c.if-not-is_end.false) in
    let more = length old - length new in
    let end : drop (front + more) old ≡ drop front new =
    ap (λ (n : ℕ). drop n old) (omega (arith, as_many, c.requires, within))
    ∙ (last ∙ ap (λ (n : ℕ). drop n new) (omega (arith, within))) in
    let total : c.in_ok-count.count ≡ length old = c.in_ok-count.ensures ∙ sym as_many in
    let last_place : c.in_ok-end.end ≡ front + more =
    c.in_ok-end.ensures ∙ (ap (λ (l : List TrackKey). front + (rows - length l)) c.as_slice-entries.ensures ∙ ap (λ (n : ℕ). front + (n - length new)) (sym as_many)) in
    let gone_count : front + more - front ≡ more = omega arith in
    let rest : length old - (front + more) ≡ length new - front = omega (arith, fits, within) in
    let gone =
    c.in_ok-plan_went.ensures.gone
    ∙ (ap (λ (n : ℕ). places_on n (c.in_ok-end.end - n)) c.in_ok-front.ensures
    ∙ (ap (λ (n : ℕ). places_on front (n - front)) last_place ∙ ap (places_on front) gone_count)) in
    let from =
    c.in_ok-plan_went.ensures.from
    ∙ (ap (λ (n : ℕ). sources_on 0 n ++ sources_on c.in_ok-end.end (c.in_ok-count.count - c.in_ok-end.end)) c.in_ok-front.ensures
    ∙ (ap (λ (n : ℕ). sources_on 0 front ++ sources_on n (c.in_ok-count.count - n)) last_place
    ∙ (ap (λ (n : ℕ). sources_on 0 front ++ sources_on (front + more) (n - (front + more))) total ∙ ap (λ (n : ℕ). sources_on 0 front ++ sources_on (front + more) n) rest))) in
    went old new front within fits same end c.in_ok-plan_went.field-0 (sym c.in_ok-rows_doubled.ensures ∙ c.if-branch.false) gone from
