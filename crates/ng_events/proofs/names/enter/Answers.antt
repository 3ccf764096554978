use Rattle.std.proofs.Common.{cond, Some, IsSome, refl, ap, ◌∙◌}
use Rattle.std.specs.Prelude.{option_and_then}
use Rattle.std.specs.BTreeMap.{get, get_by, is_at}
use Rattle.std.specs.Map.{lookup}
use Rattle.std.specs.Ordering.{is_eq, nat_cmp}
use Rattle.ng_base.specs.Order.{txt_cmp}
use Rattle.ng_events.proofs.Entered.{entered}
use Rattle.ng_events.proofs.names.enter.Goals as goal

pub returns-in-Some-clause-ok : goal.returns-in-Some-clause-ok
returns-in-Some-clause-ok c =
    let there : IsSome (get_by (nat_cmp c.args.scope) c.args.names.now) = rw (← c.in-Some.ensures.value) refl in
    entered c.args.names.now (c.get_mut.follows.lender c.insert.new.self) c.args.scope c.args.name.now c.args.place c.insert.new.self (λ q. ((c.get_mut.follows.holds c.insert.new.self).3 there).0 q)
    (λ w.
    c.in_ok-insert.ensures.updates.0 w
    ∙ (ap (λ n. cond (is_eq (txt_cmp n w)) (Some c.args.place) (get txt_cmp c.in-Some.places.now w)) c.in_ok-name.ensures
    ∙ ap (λ o. cond (is_eq (txt_cmp c.args.name.now w)) (Some c.args.place) o) (ap (option_and_then (λ a. get txt_cmp a w)) c.in-Some.ensures.value)))

pub returns-clause-ok : goal.returns-clause-ok
returns-clause-ok c =
    entered c.args.names.now c.insert-3.new.self c.args.scope c.args.name.now c.args.place c.insert-2.new.self (λ q. c.in_ok-insert-3.ensures.updates.0 q ∙ ap (λ m. cond (is_eq (nat_cmp c.args.scope q)) (Some c.insert-2.new.self) (get nat_cmp m q)) c.get_mut.follows.holds-at-none)
    (λ w.
    c.in_ok-insert-2.ensures.updates.0 w
    ∙ (ap (λ n. cond (is_eq (txt_cmp n w)) (Some c.args.place) (get txt_cmp c.new-places.result w)) c.in_ok-name.ensures
    ∙ ap (λ o. cond (is_eq (txt_cmp c.args.name.now w)) (Some c.args.place) o) (ap (λ es. lookup (is_at (txt_cmp w)) es) c.new-places.ensures.empty ∙ ap (option_and_then (λ a. get txt_cmp a w)) c.in_default.ensures.value)))
