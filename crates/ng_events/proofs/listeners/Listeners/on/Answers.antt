use Rattle.std.proofs.Common.{◌+◌, ℕ, arith, ap, ◌∙◌, sym}
use Rattle.ng_chain.specs.Walked.{Walked}
use Rattle.ng_events.specs.declared.stands.Listener.{Listener as Registered}
use Rattle.ng_events.specs.Stands.{Table, lists_of}
use Rattle.ng_behaviour.specs.Listeners.{called}
use Rattle.ng_events.proofs.Changed.{walks-chains}
use Rattle.ng_events.proofs.Quiet.{alone-kept}
use Rattle.ng_events.proofs.Homes.{there-kept, known-kept, fresh-home}
use Rattle.ng_events.proofs.listeners.Listeners.on.Goals as goal

pub invariant_of-self : goal.invariant_of-self
invariant_of-self c = record {
  places = c.list_of.ensures.places;
  alone = c.list_of.ensures.alone;
  there = there-kept c.self.inside.stands.items c.list_of.new.stands.items c.self.inside.homes (grind arith) (λ l. ap (λ (f : ℕ → Walked Registered). (f l).entries) c.list_of.ensures.chains) c.self.invariant.there;
  known = known-kept c.self.inside.stands.items c.list_of.new.stands.items c.self.inside.homes (λ l. ap (λ (f : ℕ → Walked Registered). (f l).entries) c.list_of.ensures.chains) c.self.invariant.known;
  counted = c.self.invariant.counted ∙ ap (λ n. n + c.self.inside.bare) (sym c.list_of.ensures.open);
  few = c.self.invariant.few;
}

pub invariant_of-self-2 : goal.invariant_of-self-2
invariant_of-self-2 c =
    let leaves = c.add_listener.ensures.leaves in
    record {
      places = λ s n. c.list_of.ensures.places s n ∙ sym (leaves.places s n);
      alone = alone-kept c.list_of.new.stands.items c.add_listener.new.stands.items leaves c.list_of.ensures.alone;
      there = c.add_listener.ensures.there;
      known = c.add_listener.ensures.known;
      counted = c.self.invariant.counted ∙ ap (λ n. n + c.self.inside.bare) (sym (leaves.counted ∙ c.list_of.ensures.open));
      few = c.self.invariant.few;
    }

pub returns-in_err-list-clause-walks : goal.returns-in_err-list-clause-walks
returns-in_err-list-clause-walks c = rw (← c.self.view_is) (walks-chains c.self.inside.stands.items c.list_of.new.stands.items c.list_of.ensures.chains)

pub add_listener-requires-clause-there : goal.add_listener-requires-clause-there
add_listener-requires-clause-there c = there-kept c.self.inside.stands.items c.list_of.new.stands.items c.self.inside.homes (grind arith) (λ l. ap (λ (f : ℕ → Walked Registered). (f l).entries) c.list_of.ensures.chains) c.self.invariant.there

pub add_listener-requires-clause-known : goal.add_listener-requires-clause-known
add_listener-requires-clause-known c = known-kept c.self.inside.stands.items c.list_of.new.stands.items c.self.inside.homes (λ l. ap (λ (f : ℕ → Walked Registered). (f l).entries) c.list_of.ensures.chains) c.self.invariant.known

pub add_listener-requires-clause-fresh : goal.add_listener-requires-clause-fresh
add_listener-requires-clause-fresh c = fresh-home c.self.inside.stands.items c.self.inside.homes c.args.id.0 c.self.invariant.there c.self.invariant.known (ap (λ (t : Table). called (lists_of t) c.args.id.0) c.self.view_is ∙ c.requires)

pub returns-clause-walks : goal.returns-clause-walks
returns-clause-walks c = rw (← c.self.view_is) (c.add_listener.ensures.leaves.walks ∙ walks-chains c.self.inside.stands.items c.list_of.new.stands.items c.list_of.ensures.chains)
