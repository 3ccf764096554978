use Rattle.std.proofs.Common.{arith, refl, ap, ◌∙◌, sym}
use Rattle.ng_behaviour.specs.Listeners.{hear_at, listened}
use Rattle.ng_events.specs.Stands.{listening, all_heard, chain_at, no_chain, open_on}
use Rattle.ng_events.proofs.Changed.{chain-added, place-within}
use Rattle.ng_events.proofs.Tables.{listening-added, open-added, list-new, last-there, last-new}
use Rattle.ng_events.proofs.table.list_of.Goals as goal

pub returns-in-Some-clause-within : goal.returns-in-Some-clause-within
returns-in-Some-clause-within c =
    let h = place-within c.args.stands.now.items c.args.scope c.in-Some.list c.args.name.now (sym (c.requires.places c.args.scope c.args.name.now) ∙ sym c.in-Some.ensures) in
    grind arith

pub returns-in-Some-clause-last : goal.returns-in-Some-clause-last
returns-in-Some-clause-last c = last-there c.args.stands.now.items c.args.scope c.in-Some.list c.args.name.now (sym (c.requires.places c.args.scope c.args.name.now) ∙ sym c.in-Some.ensures)

pub returns-in_ok-add_list-in-None-clause-lists : goal.returns-in_ok-add_list-in-None-clause-lists
returns-in_ok-add_list-in-None-clause-lists c =
    λ l.
    ap (λ xs. hear_at (all_heard xs) c.len-list.result (listened l)) c.in_ok-add_list-in-None.ensures.ok
    ∙ list-new c.args.stands.now.items c.args.scope c.len-list.result c.args.name.now l (grind arith) (sym (c.requires.places c.args.scope c.args.name.now) ∙ sym c.in-None.ensures)

pub returns-in_ok-add_list-in-None-clause-last : goal.returns-in_ok-add_list-in-None-clause-last
returns-in_ok-add_list-in-None-clause-last c =
    ap (λ xs. (chain_at xs c.len-list.result).last) c.in_ok-add_list-in-None.ensures.ok
    ∙ last-new c.args.stands.now.items (record { scope = c.args.scope; name = c.args.name.now; chain = no_chain }) c.args.scope c.len-list.result c.args.name.now refl (grind arith) (sym (c.requires.places c.args.scope c.args.name.now) ∙ sym c.in-None.ensures)

pub returns-in_ok-add_list-in-None-clause-chains : goal.returns-in_ok-add_list-in-None-clause-chains
returns-in_ok-add_list-in-None-clause-chains c =
    ap chain_at c.in_ok-add_list-in-None.ensures.ok ∙ chain-added c.args.stands.now.items (record { scope = c.args.scope; name = c.args.name.now; chain = no_chain }) refl

pub returns-in_ok-add_list-in-None-clause-open : goal.returns-in_ok-add_list-in-None-clause-open
returns-in_ok-add_list-in-None-clause-open c =
    ap open_on c.in_ok-add_list-in-None.ensures.ok ∙ open-added c.args.stands.now.items (record { scope = c.args.scope; name = c.args.name.now; chain = no_chain }) refl

pub returns-in_ok-add_list-in-None-clause-stays : goal.returns-in_ok-add_list-in-None-clause-stays
returns-in_ok-add_list-in-None-clause-stays c =
    λ s n.
    ap (λ xs. listening (all_heard xs) s n) c.in_ok-add_list-in-None.ensures.ok
    ∙ listening-added c.args.stands.now.items (record { scope = c.args.scope; name = c.args.name.now; chain = no_chain }) refl s n
