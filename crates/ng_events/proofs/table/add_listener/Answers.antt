use Rattle.std.proofs.Common.{ℕ, List, rules, ◌≡◌, ◌<◌, ◌+◌, length, arith, refl, ap, ◌∙◌}
use Rattle.ng_chain.specs.Walked.{serial_of}
use Rattle.ng_events.specs.Stands.{listening, all_heard, chain_at, change_chain, pushed, removed}
use Rattle.ng_events.proofs.Changed.{change-length, change-same}
use Rattle.ng_events.proofs.Entries.{value-last}
use Rattle.ng_events.proofs.Homes.{there-push, known-push, there-same, known-same}
use Rattle.ng_events.proofs.Tables.{lists-push, leaves-change, leaves-back, listening-back, there-back, known-back}
use Rattle.ng_events.proofs.table.add_listener.Goals as goal

pub returns-in_err-token-clause-there : goal.returns-in_err-token-clause-there
returns-in_err-token-clause-there c = rw c.in_err-token.ensures.err c.requires.there

pub remove_in-requires-clause-within : goal.remove_in-requires-clause-within
remove_in-requires-clause-within c =
    let h : c.args.list < length c.args.stands.now.items = grind arith in
    let e : length c.push_in.new.stands.items ≡ length c.args.stands.now.items = ap length c.in_ok-token.ensures.ok.1 ∙ change-length c.args.stands.now.items c.args.list (pushed c.in_ok-token.token c.args.listener) in
    grind arith

pub remove_in-requires-clause-stands : goal.remove_in-requires-clause-stands
remove_in-requires-clause-stands c =
    let h : c.args.list < length c.args.stands.now.items = grind arith in
    let s : serial_of c.in_ok-token.token ≡ (chain_at c.args.stands.now.items c.args.list).last + 1 = c.in_ok-token.ensures.ok.0 in
    rw (c.in_ok-token.ensures.ok.1, change-same c.args.stands.now.items c.args.list (pushed c.in_ok-token.token c.args.listener) h)
    (rw (value-last (chain_at c.args.stands.now.items c.args.list).entries 0 (chain_at c.args.stands.now.items c.args.list).last c.in_ok-token.token c.args.listener c.in_ok-token.ensures.rising (omega arith)) refl)

pub returns-in-Ok-clause-ok : goal.returns-in-Ok-clause-ok
returns-in-Ok-clause-ok c = ap all_heard c.in_ok-token.ensures.ok.1 ∙ lists-push c.args.stands.now.items c.args.list c.in_ok-token.token c.args.listener c.in_ok-token.ensures.ok.0

pub returns-in-Ok-clause-leaves : goal.returns-in-Ok-clause-leaves
returns-in-Ok-clause-leaves c =
    rw c.in_ok-token.ensures.ok.1 (leaves-change c.args.stands.now.items c.args.list (pushed c.in_ok-token.token c.args.listener) (grind arith) (λ d. refl))

pub returns-in-Ok-clause-there : goal.returns-in-Ok-clause-there
returns-in-Ok-clause-there c =
    let s : serial_of c.in_ok-token.token ≡ (chain_at c.args.stands.now.items c.args.list).last + 1 = c.in_ok-token.ensures.ok.0 in
    rw c.in_ok-token.ensures.ok.1
    (there-push c.args.stands.now.items c.args.homes.now c.insert.new.self c.args.list c.args.listener.id.0 c.in_ok-token.token c.args.listener (grind arith) c.in_ok-token.ensures.rising (omega arith) refl c.in-Ok.ensures.updates.0 c.requires.there)

pub returns-in-Ok-clause-known : goal.returns-in-Ok-clause-known
returns-in-Ok-clause-known c =
    rw c.in_ok-token.ensures.ok.1
    (known-push c.args.stands.now.items c.args.homes.now c.insert.new.self c.args.list c.args.listener.id.0 c.in_ok-token.token c.args.listener (grind arith) refl c.requires.fresh c.in-Ok.ensures.updates.0 c.requires.known)

pub returns-in-Err-clause-leaves : goal.returns-in-Err-clause-leaves
returns-in-Err-clause-leaves c =
    rw (c.remove_in.ensures.new, c.in_ok-token.ensures.ok.1) (leaves-back c.args.stands.now.items c.args.list c.in_ok-token.token c.args.listener (grind arith))

pub returns-in-Err-clause-there : goal.returns-in-Err-clause-there
returns-in-Err-clause-there c =
    let s : serial_of c.in_ok-token.token ≡ (chain_at c.args.stands.now.items c.args.list).last + 1 = c.in_ok-token.ensures.ok.0 in
    rw (c.remove_in.ensures.new, c.in_ok-token.ensures.ok.1)
    (there-same (change_chain (change_chain c.args.stands.now.items c.args.list (pushed c.in_ok-token.token c.args.listener)) c.args.list (removed c.in_ok-token.token)) c.args.homes.now c.insert.new.self c.in-Err.ensures.err
    (there-back c.args.stands.now.items c.args.homes.now c.args.list c.in_ok-token.token c.args.listener (grind arith) c.in_ok-token.ensures.rising (omega arith) c.requires.there))

pub returns-in-Err-clause-known : goal.returns-in-Err-clause-known
returns-in-Err-clause-known c =
    let s : serial_of c.in_ok-token.token ≡ (chain_at c.args.stands.now.items c.args.list).last + 1 = c.in_ok-token.ensures.ok.0 in
    rw (c.remove_in.ensures.new, c.in_ok-token.ensures.ok.1)
    (known-same (change_chain (change_chain c.args.stands.now.items c.args.list (pushed c.in_ok-token.token c.args.listener)) c.args.list (removed c.in_ok-token.token)) c.args.homes.now c.insert.new.self c.in-Err.ensures.err
    (known-back c.args.stands.now.items c.args.homes.now c.args.list c.in_ok-token.token c.args.listener (grind arith) c.in_ok-token.ensures.rising (omega arith) c.requires.known))

pub returns-in-Err-clause-stays : goal.returns-in-Err-clause-stays
returns-in-Err-clause-stays c =
    let k : serial_of c.in_ok-token.token ≡ (chain_at c.args.stands.now.items c.args.list).last + 1 = c.in_ok-token.ensures.ok.0 in
    λ s n.
    ap (λ xs. listening (all_heard xs) s n) (c.remove_in.ensures.new ∙ ap (λ xs. change_chain xs c.args.list (removed c.in_ok-token.token)) c.in_ok-token.ensures.ok.1)
    ∙ listening-back c.args.stands.now.items c.args.list c.in_ok-token.token c.args.listener (grind arith) c.in_ok-token.ensures.rising (omega arith) s n

pub returns-in_err-token-clause-stays : goal.returns-in_err-token-clause-stays
returns-in_err-token-clause-stays c =
    let e : (s : ℕ) (n : List ℕ) → listening (all_heard c.push_in.new.stands.items) s n ≡ listening (all_heard c.args.stands.now.items) s n = λ s n. ap (λ xs. listening (all_heard xs) s n) c.in_err-token.ensures.err in
    search (rules, e)
