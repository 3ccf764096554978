use Rattle.std.proofs.Common.{arith, refl, ap, ◌∙◌, sym}
use Rattle.std.specs.Prelude.{is_some}
use Rattle.ng_events.specs.Stands.{all_heard, removed}
use Rattle.ng_events.proofs.Homes.{there-same, there-remove, known-remove, lists-remove, lists-absent, called-absent, called-there}
use Rattle.ng_events.proofs.Tables.{leaves-change}
use Rattle.ng_events.proofs.table.drop_listener.Goals as goal

pub remove_in-requires-clause-within : goal.remove_in-requires-clause-within
remove_in-requires-clause-within c = let t = c.requires.there c.args.id c.in-Some.home (sym c.in-Some.ensures.value) in let w = t.within in grind arith

pub remove_in-requires-clause-stands : goal.remove_in-requires-clause-stands
remove_in-requires-clause-stands c = let t = c.requires.there c.args.id c.in-Some.home (sym c.in-Some.ensures.value) in rw t.stands refl

pub returns-in-None-clause-result : goal.returns-in-None-clause-result
returns-in-None-clause-result c = sym (ap is_some (called-absent c.args.stands.now.items c.args.homes.now c.args.id (sym c.in-None.ensures.value) c.requires.known))

pub returns-in-None-clause-lists : goal.returns-in-None-clause-lists
returns-in-None-clause-lists c = sym (lists-absent c.args.stands.now.items c.args.homes.now c.args.id (sym c.in-None.ensures.value) c.requires.known)

pub returns-in-None-clause-there : goal.returns-in-None-clause-there
returns-in-None-clause-there c = there-same c.args.stands.now.items c.args.homes.now c.remove.new.self c.in-None.ensures.unchanged c.requires.there

pub returns-in-Some-clause-result : goal.returns-in-Some-clause-result
returns-in-Some-clause-result c =
    let t = c.requires.there c.args.id c.in-Some.home (sym c.in-Some.ensures.value) in
    sym (ap is_some (called-there c.args.stands.now.items c.args.homes.now c.args.id c.in-Some.home t.listener (sym c.in-Some.ensures.value) c.requires.there c.requires.known t.stands))

pub returns-in-Some-clause-lists : goal.returns-in-Some-clause-lists
returns-in-Some-clause-lists c =
    ap all_heard c.remove_in.ensures.new
    ∙ sym (lists-remove c.args.stands.now.items c.args.homes.now c.args.id c.in-Some.home c.remove_in.ensures.rising (sym c.in-Some.ensures.value) c.requires.there c.requires.known)

pub returns-in-Some-clause-leaves : goal.returns-in-Some-clause-leaves
returns-in-Some-clause-leaves c =
    let t = c.requires.there c.args.id c.in-Some.home (sym c.in-Some.ensures.value) in
    rw c.remove_in.ensures.new (leaves-change c.args.stands.now.items c.in-Some.home.list (removed c.in-Some.home.token) t.within (λ d. refl))

pub returns-in-Some-clause-there : goal.returns-in-Some-clause-there
returns-in-Some-clause-there c =
    rw c.remove_in.ensures.new (there-remove c.args.stands.now.items c.args.homes.now c.remove.new.self c.args.id c.in-Some.home c.remove_in.ensures.rising (sym c.in-Some.ensures.value) c.in-Some.ensures.updates.0 c.requires.there)

pub returns-in-Some-clause-known : goal.returns-in-Some-clause-known
returns-in-Some-clause-known c =
    let t = c.requires.there c.args.id c.in-Some.home (sym c.in-Some.ensures.value) in
    rw c.remove_in.ensures.new (known-remove c.args.stands.now.items c.args.homes.now c.remove.new.self c.args.id c.in-Some.home t.within (sym c.in-Some.ensures.value) c.in-Some.ensures.updates.0 c.requires.known)
