use Rattle.std.proofs.Common.{◌≡◌, ◌+◌, Some, refl, ap, ◌∙◌, sym, subst, arith}
use Rattle.ng_behaviour.specs.Listeners.{place_of}
use Rattle.ng_events.specs.declared.stands.EventWalk.TheVariants.{On}
use Rattle.ng_events.specs.Stands.{Table, Begins, open_of, open_on, lists_of, all_heard, walks_on}
use Rattle.ng_events.proofs.Changed.{place-within}
use Rattle.ng_events.proofs.Walks.{begun-is_open, room, sound-begun, begun-lists, begun-walks, begun-open, heard-rising}
use Rattle.ng_events.proofs.listeners.Listeners.begin.Goals as goal

pub walk_in-requires : goal.walk_in-requires
walk_in-requires c =
    let h = place-within c.self.inside.stands.items c.args.scope.0 c.in-Some.list c.args.name.now (sym (c.self.invariant.places c.args.scope.0 c.args.name.now) ∙ sym c.in-Some.ensures) in
    grind arith

pub unreachable-requires : goal.unreachable-requires
unreachable-requires c =
    let h = place-within c.self.inside.stands.items c.args.scope.0 c.in-Some.list c.args.name.now (sym (c.self.invariant.places c.args.scope.0 c.args.name.now) ∙ sym c.in-Some.ensures) in
    room c.self.inside.stands.items c.self.inside.names c.self.inside.homes c.self.inside.walks c.self.inside.bare c.in-Some.list c.self.invariant c.if-self-ge64.false h c.in-None-walk_in.ensures.walk.0

pub invariant_of-self-in-Some : goal.invariant_of-self-in-Some
invariant_of-self-in-Some c =
    let h = place-within c.self.inside.stands.items c.args.scope.0 c.in-Some.list c.args.name.now (sym (c.self.invariant.places c.args.scope.0 c.args.name.now) ∙ sym c.in-Some.ensures) in
    let w = c.in-Some-walk_in.ensures.walk in
    rw w.2 (sound-begun c.self.inside.stands.items c.self.inside.names c.self.inside.homes c.self.inside.walks c.self.inside.bare c.in-Some.list c.in-Some-walk_in.walk.slot c.self.invariant c.if-self-ge64.false h w.1 w.0)

pub returns-in-Some-walk_in-clause-lists : goal.returns-in-Some-walk_in-clause-lists
returns-in-Some-walk_in-clause-lists c =
    ap all_heard c.in-Some-walk_in.ensures.walk.2 ∙ begun-lists c.self.inside.stands.items c.in-Some.list c.in-Some-walk_in.walk.slot ∙ ap lists_of c.self.view_is

pub returns-in-Some-walk_in-clause-walk : goal.returns-in-Some-walk_in-clause-walk
returns-in-Some-walk_in-clause-walk c =
    let p : place_of (all_heard c.self.inside.stands.items) c.args.scope.0 c.args.name.now ≡ Some c.in-Some.list = sym (c.self.invariant.places c.args.scope.0 c.args.name.now) ∙ sym c.in-Some.ensures in
    let h = place-within c.self.inside.stands.items c.args.scope.0 c.in-Some.list c.args.name.now p in
    let w = c.in-Some-walk_in.ensures.walk in
    let new : Table = record { stands = c.walk_in.new.stands.items; bare = c.self.inside.bare } in
    subst (λ (t : Table). Begins t c.args.scope.0 c.args.name.now (On c.in-Some.list c.in-Some-walk_in.walk) new) c.self.view_is
    (p, h, refl, w.0, w.1, ap walks_on w.2 ∙ begun-walks c.self.inside.stands.items c.in-Some.list c.in-Some-walk_in.walk.slot h, heard-rising c.self.inside.stands.items c.in-Some.list c.in-Some-walk_in.ensures.rising)

pub returns-in-Some-walk_in-clause-open : goal.returns-in-Some-walk_in-clause-open
returns-in-Some-walk_in-clause-open c =
    let h = place-within c.self.inside.stands.items c.args.scope.0 c.in-Some.list c.args.name.now (sym (c.self.invariant.places c.args.scope.0 c.args.name.now) ∙ sym c.in-Some.ensures) in
    let w = c.in-Some-walk_in.ensures.walk in
    let old : Table = record { stands = c.self.inside.stands.items; bare = c.self.inside.bare } in
    let e : open_on c.walk_in.new.stands.items ≡ open_on c.self.inside.stands.items + 1 = ap open_on w.2 ∙ begun-open c.self.inside.stands.items c.in-Some.list c.in-Some-walk_in.walk.slot h w.1 w.0 in
    let f : open_on c.walk_in.new.stands.items + c.self.inside.bare ≡ open_of old + 1 = omega arith in
    f ∙ ap (λ (t : Table). open_of t + 1) c.self.view_is

pub returns-in-Some-walk_in-clause-is_open : goal.returns-in-Some-walk_in-clause-is_open
returns-in-Some-walk_in-clause-is_open c =
    let h = place-within c.self.inside.stands.items c.args.scope.0 c.in-Some.list c.args.name.now (sym (c.self.invariant.places c.args.scope.0 c.args.name.now) ∙ sym c.in-Some.ensures) in
    let w = c.in-Some-walk_in.ensures.walk in
    rw w.2 (begun-is_open c.self.inside.stands.items c.in-Some.list c.in-Some-walk_in.walk.slot h w.1)
