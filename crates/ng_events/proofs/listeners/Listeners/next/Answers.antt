use Rattle.std.proofs.Common.{arith, ◌+◌, IsSome, ap, ◌∙◌, sym, subst}
use Rattle.std.specs.Prelude.{is_some}
use Rattle.ng_chain.specs.Walked.{walk_at}
use Rattle.ng_chain.specs.declared.chain.Walk.{Walk}
use Rattle.ng_events.specs.declared.stands.EventWalk.{EventWalk}
use Rattle.ng_events.specs.declared.stands.EventWalk.TheVariants.{On}
use Rattle.ng_events.specs.Stands.{Table, IsOpen, Goes, open_of, open_on, lists_of, all_heard, walks_on, chain_at, entries_of}
use Rattle.ng_events.proofs.Walks.{open-list, hears-open, sound-walked, walked-lists, walked-walks, walked-open, walked-hears}
use Rattle.ng_events.proofs.listeners.Listeners.next.Goals as goal

pub invariant_of-self : goal.invariant_of-self
invariant_of-self c =
    let o : IsOpen (record { stands = c.self.inside.stands.items; bare = c.self.inside.bare }) (On c.in-On.list c.in-On.walk) =
    subst (λ (t : Table). IsOpen t (On c.in-On.list c.in-On.walk)) (sym c.self.view_is) (subst (λ (v : EventWalk). IsOpen c.args.self.now v) c.in-On.is c.requires.open) in
    let still : IsSome (walk_at (walks_on c.hear_in.new.stands.items c.in-On.list) c.in-On.walk.slot) =
    hears-open (entries_of (chain_at c.self.inside.stands.items c.in-On.list).entries) (walk_at (walks_on c.self.inside.stands.items c.in-On.list) c.in-On.walk.slot) (walk_at (walks_on c.hear_in.new.stands.items c.in-On.list) c.in-On.walk.slot) c.hear_in.result o c.hear_in.ensures.hears in
    rw c.hear_in.ensures.new
    (sound-walked c.self.inside.stands.items c.self.inside.names c.self.inside.homes c.self.inside.walks c.self.inside.bare c.in-On.list c.in-On.walk.slot (walk_at (walks_on c.hear_in.new.stands.items c.in-On.list) c.in-On.walk.slot) c.self.invariant (open-list c.self.inside.stands.items c.in-On.list c.in-On.walk.slot o) o still)

pub returns-in-On-clause-lists : goal.returns-in-On-clause-lists
returns-in-On-clause-lists c =
    ap all_heard c.hear_in.ensures.new ∙ walked-lists c.self.inside.stands.items c.in-On.list c.in-On.walk.slot (walk_at (walks_on c.hear_in.new.stands.items c.in-On.list) c.in-On.walk.slot) ∙ ap lists_of c.self.view_is

pub returns-in-On-clause-goes : goal.returns-in-On-clause-goes
returns-in-On-clause-goes c =
    let new : Table = record { stands = c.hear_in.new.stands.items; bare = c.self.inside.bare } in
    let old : Table = record { stands = c.self.inside.stands.items; bare = c.self.inside.bare } in
    let o : IsOpen (record { stands = c.self.inside.stands.items; bare = c.self.inside.bare }) (On c.in-On.list c.in-On.walk) =
    subst (λ (t : Table). IsOpen t (On c.in-On.list c.in-On.walk)) (sym c.self.view_is) (subst (λ (v : EventWalk). IsOpen c.args.self.now v) c.in-On.is c.requires.open) in
    subst (λ (t : Table). Goes t c.args.w.now c.hear_in.result new) c.self.view_is
    (subst (λ (v : EventWalk). Goes old v c.hear_in.result new) (sym c.in-On.is) (
      walked-hears c.self.inside.stands.items c.in-On.list (walk_at (walks_on c.self.inside.stands.items c.in-On.list) c.in-On.walk.slot) (walk_at (walks_on c.hear_in.new.stands.items c.in-On.list) c.in-On.walk.slot) c.hear_in.result c.hear_in.ensures.hears,
      ap walks_on c.hear_in.ensures.new ∙ walked-walks c.self.inside.stands.items c.in-On.list c.in-On.walk.slot (walk_at (walks_on c.hear_in.new.stands.items c.in-On.list) c.in-On.walk.slot) (open-list c.self.inside.stands.items c.in-On.list c.in-On.walk.slot o),
    ))

pub returns-in-On-clause-open : goal.returns-in-On-clause-open
returns-in-On-clause-open c =
    let o : IsOpen (record { stands = c.self.inside.stands.items; bare = c.self.inside.bare }) (On c.in-On.list c.in-On.walk) =
    subst (λ (t : Table). IsOpen t (On c.in-On.list c.in-On.walk)) (sym c.self.view_is) (subst (λ (v : EventWalk). IsOpen c.args.self.now v) c.in-On.is c.requires.open) in
    let still : IsSome (walk_at (walks_on c.hear_in.new.stands.items c.in-On.list) c.in-On.walk.slot) =
    hears-open (entries_of (chain_at c.self.inside.stands.items c.in-On.list).entries) (walk_at (walks_on c.self.inside.stands.items c.in-On.list) c.in-On.walk.slot) (walk_at (walks_on c.hear_in.new.stands.items c.in-On.list) c.in-On.walk.slot) c.hear_in.result o c.hear_in.ensures.hears in
    ap (λ xs. open_on xs + c.self.inside.bare) c.hear_in.ensures.new
    ∙ ap (λ n. n + c.self.inside.bare) (walked-open c.self.inside.stands.items c.in-On.list c.in-On.walk.slot (walk_at (walks_on c.hear_in.new.stands.items c.in-On.list) c.in-On.walk.slot) (open-list c.self.inside.stands.items c.in-On.list c.in-On.walk.slot o) o still)
    ∙ ap open_of c.self.view_is

pub returns-in-On-clause-still : goal.returns-in-On-clause-still
returns-in-On-clause-still c =
    let o : IsOpen (record { stands = c.self.inside.stands.items; bare = c.self.inside.bare }) (On c.in-On.list c.in-On.walk) =
    subst (λ (t : Table). IsOpen t (On c.in-On.list c.in-On.walk)) (sym c.self.view_is) (subst (λ (v : EventWalk). IsOpen c.args.self.now v) c.in-On.is c.requires.open) in
    let still : IsSome (walk_at (walks_on c.hear_in.new.stands.items c.in-On.list) c.in-On.walk.slot) =
    hears-open (entries_of (chain_at c.self.inside.stands.items c.in-On.list).entries) (walk_at (walks_on c.self.inside.stands.items c.in-On.list) c.in-On.walk.slot) (walk_at (walks_on c.hear_in.new.stands.items c.in-On.list) c.in-On.walk.slot) c.hear_in.result o c.hear_in.ensures.hears in
    ap (λ (v : Walk). is_some (walk_at (walks_on c.hear_in.new.stands.items c.in-On.list) v.slot)) c.hear_in.ensures.walk ∙ still

pub hear_in-requires-clause-within : goal.hear_in-requires-clause-within
hear_in-requires-clause-within c =
    let o : IsOpen (record { stands = c.self.inside.stands.items; bare = c.self.inside.bare }) (On c.in-On.list c.in-On.walk) =
    subst (λ (t : Table). IsOpen t (On c.in-On.list c.in-On.walk)) (sym c.self.view_is) (subst (λ (v : EventWalk). IsOpen c.args.self.now v) c.in-On.is c.requires.open) in
    let h = open-list c.self.inside.stands.items c.in-On.list c.in-On.walk.slot o in
    grind arith
