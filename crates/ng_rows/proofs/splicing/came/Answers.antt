use Rattle.std.proofs.Common.{◌≡◌, ◌∙◌, ◌-◌, ◌+◌, ◌++◌, ◌≤◌, ℕ, List, ap, subst, sym, drop, length, take, arith}
use Rattle.ng_blocks.specs.declared.keys.TrackKey.{TrackKey}
use Rattle.ng_rows.specs.Splices.{no_sources, sources_on}
use Rattle.ng_rows.proofs.RowKeys.{count, row_keys}
use Rattle.ng_rows.proofs.Spliced.{came}
use Rattle.ng_rows.proofs.splicing.came.Goals as goal

pub same_front-first-requires-clause-keys : goal.same_front-first-requires-clause-keys
same_front-first-requires-clause-keys c = subst (λ (l : List TrackKey). length c.args.bodies.now ≤ length l) (sym c.as_slice-entries.ensures) c.requires

pub is_end-requires-clause-keys : goal.is_end-requires-clause-keys
is_end-requires-clause-keys c =
    let entries = ap (λ (l : List TrackKey). length l) c.as_slice-entries.ensures in
    omega (arith, entries, c.requires)

pub returns : goal.returns
returns c =
    let bodies = c.args.bodies.now in
    let old = row_keys bodies in
    let new = c.args.keys.now in
    let rows = length bodies in
    let front = c.same_front-first.result in
    let entries = c.as_slice-entries.result.now in
    let as_many = count bodies in
    let within : front ≤ length old = omega (arith, as_many, c.same_front-first.ensures.within) in
    let fits : length old ≤ length new = omega (arith, as_many, c.requires) in
    let same : take front new ≡ take front old = sym (c.same_front-first.ensures.same ∙ ap (λ (l : List TrackKey). take front l) c.as_slice-entries.ensures) in
    let last : drop (rows - (rows - front)) old ≡ drop (length new - (rows - front)) new =
    subst (λ (l : List TrackKey). drop (rows - (rows - front)) old ≡ drop (length l - (rows - front)) l) c.as_slice-entries.ensures (c.is_end.ensures c.if-not-is_end.false) in
    let end : drop (front + (length new - length old)) new ≡ drop front old =
    ap (λ (n : ℕ). drop n new) (omega (arith, as_many, c.requires, c.same_front-first.ensures.within))
    ∙ (sym last ∙ ap (λ (n : ℕ). drop n old) (omega (arith, c.same_front-first.ensures.within))) in
    let total : c.in_ok-count.count ≡ length old = c.in_ok-count.ensures ∙ sym as_many in
    let more : c.in_ok-more.more ≡ length new - length old =
    c.in_ok-more.ensures ∙ (ap (λ (l : List TrackKey). length l - rows) c.as_slice-entries.ensures ∙ ap (λ (n : ℕ). length new - n) (sym as_many)) in
    let from =
    c.in_ok-plan_came.ensures.from
    ∙ (ap (λ (n : ℕ). sources_on 0 n ++ (no_sources c.in_ok-more.more ++ sources_on n (c.in_ok-count.count - n))) c.in_ok-front.ensures
    ∙ (ap (λ (n : ℕ). sources_on 0 front ++ (no_sources n ++ sources_on front (c.in_ok-count.count - front))) more
    ∙ ap (λ (n : ℕ). sources_on 0 front ++ (no_sources (length new - length old) ++ sources_on front (n - front))) total)) in
    came new old front within fits same end c.in_ok-plan_came.field-0 (sym c.in_ok-are_doubled.ensures ∙ c.if-branch.false) c.in_ok-plan_came.ensures.gone from
