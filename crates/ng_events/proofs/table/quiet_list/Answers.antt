use Rattle.std.proofs.Common.{cond, None, arith, sym, ap, ◌∙◌}
use Rattle.std.specs.BTreeMap.{get}
use Rattle.std.specs.Ordering.{nat_cmp}
use Rattle.ng_events.specs.Stands.{chain_at, is_named}
use Rattle.ng_events.proofs.Quiet.{there-emptied, known-emptied, empty-past}
use Rattle.ng_events.proofs.table.quiet_list.Goals as goal

pub returns-then-list-len-clause-there : goal.returns-then-list-len-clause-there
returns-then-list-len-clause-there c =
    rw c.clear_in.ensures (there-emptied c.args.stands.now.items c.args.homes.now c.forget.new.homes c.args.list (λ q. c.forget.ensures q ∙ ap (λ es. cond (is_named q es) None (get nat_cmp c.args.homes.now q)) (c.slots_in.ensures ∙ ap (λ xs. (chain_at xs c.args.list).entries) c.as_slice.ensures.value)) c.requires.there)

pub returns-then-list-len-clause-known : goal.returns-then-list-len-clause-known
returns-then-list-len-clause-known c =
    rw c.clear_in.ensures (known-emptied c.args.stands.now.items c.args.homes.now c.forget.new.homes c.args.list (grind arith) (λ q. c.forget.ensures q ∙ ap (λ es. cond (is_named q es) None (get nat_cmp c.args.homes.now q)) (c.slots_in.ensures ∙ ap (λ xs. (chain_at xs c.args.list).entries) c.as_slice.ensures.value)) c.requires.known)

pub returns-else-list-len-clause-new : goal.returns-else-list-len-clause-new
returns-else-list-len-clause-new c = sym (empty-past c.args.stands.now.items c.args.list (grind arith))
