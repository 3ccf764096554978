use Rattle.std.proofs.Common.{◌+◌, ap, ◌∙◌, sym}
use Rattle.ng_events.proofs.Quiet.{alone-kept}
use Rattle.ng_events.proofs.listeners.Listeners.off.Goals as goal

pub invariant_of-self : goal.invariant_of-self
invariant_of-self c =
    let leaves = c.drop_listener.ensures.leaves in
    record {
      places = λ s n. c.self.invariant.places s n ∙ sym (leaves.places s n);
      alone = alone-kept c.self.inside.stands.items c.drop_listener.new.stands.items leaves c.self.invariant.alone;
      there = c.drop_listener.ensures.there;
      known = c.drop_listener.ensures.known;
      counted = c.self.invariant.counted ∙ ap (λ n. n + c.self.inside.bare) (sym leaves.counted);
      few = c.self.invariant.few;
    }
