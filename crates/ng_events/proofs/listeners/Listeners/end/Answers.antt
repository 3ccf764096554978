use Rattle.std.proofs.Common.{◌≡◌, ◌≤◌, ◌+◌, None, refl, ap, ◌∙◌, sym, subst, arith}
use Rattle.ng_events.specs.declared.stands.EventWalk.{EventWalk}
use Rattle.ng_events.specs.declared.stands.EventWalk.TheVariants.{On}
use Rattle.ng_events.specs.Stands.{Table, IsOpen, Ends, open_of, open_on, lists_of, all_heard, walks_on}
use Rattle.ng_events.proofs.Walks.{open-list, open-counted, sound-ended, walked-lists, walked-walks, ended-open}
use Rattle.ng_events.proofs.listeners.Listeners.end.Goals as goal

pub overflow_sub-self : goal.overflow_sub-self
overflow_sub-self c =
    let n : 1 ≤ open_of c.args.self.now = open-counted c.args.self.now c.args.w c.requires.open in
    let m : open_of c.args.self.now ≡ open_on c.self.inside.stands.items + c.self.inside.bare = ap open_of (sym c.self.view_is) in
    let k = c.self.invariant.counted in omega arith

pub invariant_of-self-in-On : goal.invariant_of-self-in-On
invariant_of-self-in-On c =
    let o : IsOpen (record { stands = c.self.inside.stands.items; bare = c.self.inside.bare }) (On c.in-On.list c.in-On.walk) =
    subst (λ (t : Table). IsOpen t (On c.in-On.list c.in-On.walk)) (sym c.self.view_is) (subst (λ (v : EventWalk). IsOpen c.args.self.now v) c.in-On.is c.requires.open) in
    rw c.close_in.ensures
    (sound-ended c.self.inside.stands.items c.self.inside.names c.self.inside.homes c.self.inside.walks c.self.inside.bare c.in-On.list c.in-On.walk.slot c.self.invariant (open-list c.self.inside.stands.items c.in-On.list c.in-On.walk.slot o) o)

pub returns-in-On-clause-lists : goal.returns-in-On-clause-lists
returns-in-On-clause-lists c =
    ap all_heard c.close_in.ensures ∙ walked-lists c.self.inside.stands.items c.in-On.list c.in-On.walk.slot None ∙ ap lists_of c.self.view_is

pub returns-in-On-clause-ends : goal.returns-in-On-clause-ends
returns-in-On-clause-ends c =
    let new : Table = record { stands = c.close_in.new.stands.items; bare = c.self.inside.bare } in
    let old : Table = record { stands = c.self.inside.stands.items; bare = c.self.inside.bare } in
    let o : IsOpen old (On c.in-On.list c.in-On.walk) =
    subst (λ (t : Table). IsOpen t (On c.in-On.list c.in-On.walk)) (sym c.self.view_is) (subst (λ (v : EventWalk). IsOpen c.args.self.now v) c.in-On.is c.requires.open) in
    subst (λ (t : Table). Ends t c.args.w new) c.self.view_is
    (subst (λ (v : EventWalk). Ends old v new) (sym c.in-On.is) (refl, ap walks_on c.close_in.ensures ∙ walked-walks c.self.inside.stands.items c.in-On.list c.in-On.walk.slot None (open-list c.self.inside.stands.items c.in-On.list c.in-On.walk.slot o)))

pub returns-in-On-clause-open : goal.returns-in-On-clause-open
returns-in-On-clause-open c =
    let old : Table = record { stands = c.self.inside.stands.items; bare = c.self.inside.bare } in
    let o : IsOpen old (On c.in-On.list c.in-On.walk) =
    subst (λ (t : Table). IsOpen t (On c.in-On.list c.in-On.walk)) (sym c.self.view_is) (subst (λ (v : EventWalk). IsOpen c.args.self.now v) c.in-On.is c.requires.open) in
    let e = ended-open c.self.inside.stands.items c.in-On.list c.in-On.walk.slot (open-list c.self.inside.stands.items c.in-On.list c.in-On.walk.slot o) o in
    let d : open_on c.close_in.new.stands.items + 1 ≡ open_on c.self.inside.stands.items = ap (λ xs. open_on xs + 1) c.close_in.ensures ∙ e in
    let f : open_on c.close_in.new.stands.items + c.self.inside.bare + 1 ≡ open_of old = omega arith in
    f ∙ ap open_of c.self.view_is

pub close_in-requires-clause-within : goal.close_in-requires-clause-within
close_in-requires-clause-within c =
    let o : IsOpen (record { stands = c.self.inside.stands.items; bare = c.self.inside.bare }) (On c.in-On.list c.in-On.walk) =
    subst (λ (t : Table). IsOpen t (On c.in-On.list c.in-On.walk)) (sym c.self.view_is) (subst (λ (v : EventWalk). IsOpen c.args.self.now v) c.in-On.is c.requires.open) in
    let h = open-list c.self.inside.stands.items c.in-On.list c.in-On.walk.slot o in
    grind arith
